-- When a signed number is an index.
use mathlib.Core.Path.{◌≡◌, refl}
use Prim.Native.Nat.{ℕ, suc, ◌-◌, ◌<◌}
use native.Mathlib.Nat.{lt_irrefl}
use native.Mathlib.Omega.{arith}
use lib.Dec.{eqb}
use lib.IntN.{ℤ, pos, negsuc}
use lib.Signed.{mag}
use mir.Syntax.{w32}
use mir.Val.{of_z}
use borrow.Author.Tests.{ne_eqb}
use Rattle.meaning.specs.Limits.{node_cells}
use Rattle.audit_model.specs.Records.{is_index}

pub signed-index : (x : ℤ) (i : ℕ) → mag x < 2147483648 → i < node_cells → eqb (of_z w32 x) i ≡ is_index x i
unfolding is_index
signed-index (pos k) i f l = refl
signed-index (negsuc k) i f l = ne_eqb (4294967296 - suc k) i (λ e. lt_irrefl 0 (omega (arith, f)))

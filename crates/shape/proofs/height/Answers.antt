use mathlib.Core.Path.{ap, ◌∙◌}
use Prim.Native.Nat.{ℕ, ◌-◌}
use native.Mathlib.Omega.{arith}
use Rattle.shape.proofs.Computed.{written-least, rounded-least, height-computed, height-least, height-bounded}
use Rattle.shape.proofs.height.Goals as goal

-- `shape::height` meets its contract.

pub overflow_sub-result : goal.overflow_sub-result
overflow_sub-result c = rw c.div_ceil.ensures (rounded-least _ _ (written-least _ (omega arith) (omega arith)))

pub returns-then-length-gt1 : goal.returns-then-length-gt1
returns-then-length-gt1 c =
    let a = c.args in
    let both = height-bounded a.bits a.length _ c.requires (ap (λ (r : ℕ). r - 1) c.div_ceil.ensures ∙ height-computed a.bits a.length (omega arith)) in record { value = both.0; bounds = both.1 }

pub returns-else-length-gt1 : goal.returns-else-length-gt1
returns-else-length-gt1 c =
    let a = c.args in
    let both = height-bounded a.bits a.length 0 c.requires (height-least a.bits a.length (omega arith)) in record { value = both.0; bounds = both.1 }

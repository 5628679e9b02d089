-- The numbers of a descent: capacities, and how many children a branch may have.
use mathlib.Core.Path.{◌≡◌, refl, sym, ◌∙◌}
use mathlib.Core.Bool.{true, ◌&&◌}
use Prim.Native.Nat.{ℕ, ◌+◌, ◌*◌, ◌^◌, ◌%◌, ◌≤◌, ◌<◌}
use native.Mathlib.Omega.{arith}
use lib.Dec.{eqb, leb, ltb}
use lib.Pow.{pow_mono}
use borrow.Author.Tests.{leb-true}
use Rattle.meaning.specs.Limits.{branch_kind, node_cells, max_bits, length_bits, max_length, word_width}
use Rattle.meaning.specs.Shape.{degree}
use Rattle.meaning.proofs.Booleans.{both_true}
use Rattle.shape.proofs.Powers.{degree-most, degree-power, one-shifts}
use Rattle.audit_model.specs.Descent.{branch_ok}

pub capacity-is : (b h : ℕ) → h * b < length_bits → let r = (1 * 2 ^ (h * b)) % 2 ^ word_width in (r ≡ degree b ^ h) × (r ≤ max_length)
capacity-is b h l =
    let e = one-shifts (h * b) (omega arith) in
    let most : 2 ^ (h * b) ≤ 2 ^ length_bits = pow_mono {i = h * b} {j = length_bits} (omega arith) in
    (e ∙ sym (degree-power b h), omega arith)

branch-few : (k u b c m : ℕ) → b ≤ max_bits → branch_ok k u b c m ≡ true → u ≤ node_cells
unfolding branch_ok
branch-few k u b c m l e =
    let x = both_true ((eqb k branch_kind && leb u (degree b)) && leb m (u * c)) (ltb (u * c) (m + c)) e in
    let y = both_true (eqb k branch_kind && leb u (degree b)) (leb m (u * c)) x.0 in
    let w = both_true (eqb k branch_kind) (leb u (degree b)) y.0 in
    omega (arith, degree-most b l, leb-true u (degree b) w.1)

pub branch-tested : (k u b c m d : ℕ) → b ≤ max_bits → d ≡ degree b
    → let r = ((eqb k branch_kind && leb u d) && leb m (u * c)) && ltb (u * c) (m + c) in (r ≡ branch_ok k u b c m) × (r ≡ true → u ≤ node_cells)
unfolding branch_ok
branch-tested k u b c m d l e = rw e (refl, λ q. branch-few k u b c m l q)

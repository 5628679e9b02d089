-- The number of nodes that a drop takes, level by level.
use mathlib.Core.Path.{◌≡◌, sym, ap, ◌∙◌}
use mathlib.Core.Logic.{◌≢◌}
use mathlib.Core.Bool.{true, false}
use Prim.Native.Nat.{ℕ, zero, suc, ◌+◌, ◌-◌, ◌*◌, ◌%◌, ◌^◌, ◌≤◌}
use native.Mathlib.Nat.{lt_irrefl, add-mul, zero-mod}
use native.Mathlib.Numerals.{add-one}
use native.Mathlib.Omega.{arith}
use lib.Pow.{mod-mod-pow}
use borrow.Author.Tests.{eqb-true, eqb-false, eq-eqb, ne_eqb}
use Rattle.meaning.specs.Counting.{sum_to, how_many, divides}
use Rattle.meaning.specs.Shape.{degree}
use Rattle.meaning.proofs.Lists.{sum-none}
use Rattle.shape.proofs.Powers.{degree-power}
use Rattle.trees.specs.Elements.{inside, undivided}

-- what the test for an empty child says
pub divides-true : (bits h i : ℕ) → divides (degree bits ^ suc h) i ≡ true → inside bits h i ≡ 0
unfolding divides
divides-true bits h i e = eqb-true _ 0 e

pub divides-false : (bits h i : ℕ) → divides (degree bits ^ suc h) i ≡ false → 1 ≤ inside bits h i
unfolding divides
divides-false bits h i e = let f : inside bits h i ≢ 0 = eqb-false _ 0 e in omega arith

-- the level at the top counts
pub undivided-step : (bits h i : ℕ) → 1 ≤ inside bits (suc h) i → undivided bits (suc h) i ≡ suc (undivided bits h i)
unfolding how_many sum_to divides
undivided-step bits h i l =
    simp (add-one) (rw (ne_eqb (inside bits (suc h) i) 0 (λ e. lt_irrefl zero (omega arith))) (omega arith))

-- and none below it, where the child would be empty
lower-empty : (bits h k i : ℕ) → k ≤ h → inside bits h i ≡ 0 → inside bits k i ≡ 0
lower-empty bits h k i l e =
    let d : suc h * bits ≡ (h - k) * bits + suc k * bits = ap (λ x. x * bits) (omega arith) ∙ add-mul (h - k) (suc k) bits in
    let lower : i % 2 ^ ((h - k) * bits + suc k * bits) % 2 ^ (suc k * bits) ≡ i % 2 ^ (suc k * bits) = mod-mod-pow i ((h - k) * bits) (suc k * bits) in
    let none : i % 2 ^ ((h - k) * bits + suc k * bits) ≡ 0 = rw (degree-power bits (suc h), d) at e in
    rw (degree-power bits (suc k)) (sym lower ∙ ap (λ x. x % 2 ^ (suc k * bits)) none ∙ zero-mod (2 ^ (suc k * bits)))

pub undivided-none : (bits h i : ℕ) → inside bits h i ≡ 0 → undivided bits h i ≡ 0
unfolding how_many divides
undivided-none bits h i e =
    sum-none (h + 1) _ (λ k l. simp add-one (rw (eq-eqb (inside bits k i) 0 (lower-empty bits h k i (omega arith) e))))

pub undivided-leaf : (bits i : ℕ) → 1 ≤ inside bits 0 i → undivided bits 0 i ≡ 1
unfolding how_many sum_to divides
undivided-leaf bits i l = simp (add-one) (rw (ne_eqb (inside bits 0 i) 0 (λ e. lt_irrefl zero (omega arith))))

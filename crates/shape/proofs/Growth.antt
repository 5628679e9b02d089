-- How the height changes by a push and by a drop, over all bits and lengths together.
use mathlib.Core.Path.{◌≡◌, refl, sym, ap, ◌∙◌}
use mathlib.Core.Bool.{Bool, true, false, ◌&&◌}
use mathlib.Core.Logic.{◌≢◌, ⊎_elim}
use Prim.Native.Nat.{ℕ, zero, suc, ◌+◌, ◌-◌, ◌^◌, ◌≤◌, ◌<◌}
use native.Mathlib.Nat.{lt_irrefl, eq-or-lt_of_le}
use native.Mathlib.Numerals.{add-one}
use native.Mathlib.Omega.{arith}
use lib.Dec.{leb, eqb}
use borrow.Author.Tests.{leb-true, leb-false, eqb-true, eqb-false}
use Rattle.meaning.specs.Counting.{bit}
use Rattle.meaning.specs.Limits.{word_width}
use Rattle.meaning.specs.Shape.{degree, height, root_max_capacity, is_root_full}
use Rattle.meaning.proofs.Heights.{height-only}
use Rattle.meaning.specs.Costs.{loses_root}
use Rattle.shape.proofs.Powers.{power-positive, power-doubles}
use Rattle.shape.proofs.Capacity.{height-holds, height-fills, capacity-is}

-- ---- a push

pub push-grows : (b n : ℕ) → 1 ≤ b → n < 2 ^ word_width → n ≡ degree b ^ suc (height b n) → height b (suc n) ≡ suc (height b n)
push-grows b n hb l e =
    let some = power-positive b (suc (height b n)) in
    let more = power-doubles b (suc (height b n)) hb in
    sym (height-only b (suc n) (suc (height b n)) hb (omega arith) l (record { above = omega arith; within = omega arith }))

pub push-keeps : (b n : ℕ) → 1 ≤ b → n < 2 ^ word_width → n ≢ degree b ^ suc (height b n) → height b (suc n) ≡ height b n
unfolding height
push-keeps b zero hb l f = refl
push-keeps b (suc n) hb l f =
    let filled = height-fills b (suc n) hb (omega arith) (omega arith) in
    let room : suc n < degree b ^ suc (height b (suc n)) = ⊎_elim (λ e. absurd (f e)) (λ g. g) (eq-or-lt_of_le (height-holds b (suc n) hb (omega arith))) in
    sym (height-only b (suc (suc n)) (height b (suc n)) hb (omega arith) l (record { above = omega arith; within = omega arith }))

-- one more exactly if the root is full
pub height-push : (b n : ℕ) → 1 ≤ b → n < 2 ^ word_width → height b (n + 1) ≡ height b n + bit (is_root_full b n)
unfolding is_root_full
height-push b n hb l = rw add-one (by (eqb n (root_max_capacity b n)) refl)
  where
    by : (full : Bool) → eqb n (root_max_capacity b n) ≡ full → height b (suc n) ≡ height b n + bit full
    by true e = push-grows b n hb l (eqb-true n (root_max_capacity b n) e ∙ capacity-is b n) ∙ omega arith
    by false e = push-keeps b n hb l (λ p. eqb-false n (root_max_capacity b n) e (p ∙ sym (capacity-is b n))) ∙ omega arith

-- ---- a drop

pub drop-prunes : (b n : ℕ) → 1 ≤ b → n ≤ 2 ^ word_width → 1 ≤ height b n → n - 1 ≡ degree b ^ height b n → height b (n - 1) + 1 ≡ height b n
drop-prunes b n hb l high e = by (height b n) high e
  where
    by : (h : ℕ) → 1 ≤ h → n - 1 ≡ degree b ^ h → height b (n - 1) + 1 ≡ h
    by zero p q = absurd (lt_irrefl 0 (omega arith))
    by (suc h) p q =
        let some = power-positive b h in
        let more = power-doubles b h hb in
        let only = height-only b (n - 1) h hb (omega arith) (omega arith) (record { above = omega arith; within = omega arith }) in
        omega arith

pub drop_keeps : (b n : ℕ) → 1 ≤ b → n ≤ 2 ^ word_width → (1 ≤ height b n → n - 1 ≢ degree b ^ height b n) → height b (n - 1) ≡ height b n
drop_keeps b zero hb l f = refl
drop_keeps b (suc n) hb l f = ap (height b) less ∙ by (eqb n (degree b ^ suc (height b n))) refl
  where
    less : suc n - 1 ≡ n
    less = omega arith

    by : (full : Bool) → eqb n (degree b ^ suc (height b n)) ≡ full → height b n ≡ height b (suc n)
    by true e =
        let is = eqb-true n (degree b ^ suc (height b n)) e in
        let grown = push-grows b n hb l is in
        absurd (f (omega arith) (less ∙ is ∙ ap (λ h. degree b ^ h) (sym grown)))
    by false e = sym (push-keeps b n hb l (eqb-false n (degree b ^ suc (height b n)) e))

-- one less exactly if the root is left with one child
pub height-drop : (b n : ℕ) → 1 ≤ b → n ≤ 2 ^ word_width → height b (n - 1) + bit (loses_root b n) ≡ height b n
height-drop b n hb l = by (leb 1 (height b n)) (eqb (n - 1) (degree b ^ height b n)) refl refl
  where
    same : (1 ≤ height b n → n - 1 ≢ degree b ^ height b n) → height b (n - 1) + 0 ≡ height b n
    same f = omega (arith, drop_keeps b n hb l f)

    by : (high single : Bool) → leb 1 (height b n) ≡ high → eqb (n - 1) (degree b ^ height b n) ≡ single → height b (n - 1) + bit (high && single) ≡ height b n
    by false single e₁ e₂ = same (λ p. absurd (lt_irrefl 0 (omega (arith, leb-false 1 (height b n) e₁))))
    by true false e₁ e₂ = same (λ p. eqb-false (n - 1) (degree b ^ height b n) e₂)
    by true true e₁ e₂ = drop-prunes b n hb l (leb-true 1 (height b n) e₁) (eqb-true (n - 1) (degree b ^ height b n) e₂)

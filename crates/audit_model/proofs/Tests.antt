-- Tests and what they say.
use mathlib.Core.Path.{◌≡◌, refl}
use mathlib.Core.Logic.{◌⊎◌, inl, inr}
use mathlib.Core.Bool.{Bool, true, false, ◌&&◌, ◌||◌}
use Prim.Native.Nat.{ℕ, zero, suc, ◌≤◌, ◌<◌}
use native.Mathlib.Nat.{lt_irrefl, eq-or-lt_of_le, le_of_suc-le-suc}
use native.Mathlib.Omega.{arith}
use lib.Dec.{ltb}
use borrow.Author.Tests.{ltb-false, le-ltb}
use Rattle.meaning.proofs.Booleans.{both_true}
use Rattle.audit_model.specs.Records.{all_to, all_from}

pub true≢false : {A : Type 0} → ◌≡◌ {A = Bool} true false → A
true≢false e = let z : ◌≡◌ {A = ℕ} 0 1 = cc in absurd (lt_irrefl zero (omega arith))

pub true-both : (a c : Bool) → a ≡ true → c ≡ true → (a && c) ≡ true
true-both true c e f = f
true-both false c e f = e

pub or-true : (a c : Bool) → (a || c) ≡ true → a ≡ false → c ≡ true
or-true true c e f = true≢false f
or-true false c e f = e

pub true-or : (a c : Bool) → (a ≡ false → c ≡ true) → (a || c) ≡ true
true-or true c f = refl
true-or false c f = f refl

-- ---- tests below a number

pub all-at : (n : ℕ) (test : ℕ → Bool) → all_to n test ≡ true → (k : ℕ) → k < n → test k ≡ true
unfolding all_to
all-at zero test e k l = absurd (lt_irrefl zero (omega arith))
all-at (suc n) test e k l = go (eq-or-lt_of_le (le_of_suc-le-suc l)) (all-at n test (both_true (all_to n test) (test n) e).0 k)
  where
    go : (k ≡ n) ⊎ (k < n) → (k < n → test k ≡ true) → test k ≡ true
    go (inl q) rest = rw q (both_true (all_to n test) (test n) e).1
    go (inr q) rest = rest q

pub at_all : (n : ℕ) (test : ℕ → Bool) → ((k : ℕ) → k < n → test k ≡ true) → all_to n test ≡ true
unfolding all_to
at_all zero test h = refl
at_all (suc n) test h = true-both _ _ (at_all n test (λ k l. h k (omega arith))) (h n (omega arith))

pub from_at : (start end : ℕ) (test : ℕ → Bool) → all_from start end test ≡ true → (i : ℕ) → start ≤ i → i < end → test i ≡ true
unfolding all_from
from_at start end test e i l u = or-true (ltb i start) (test i) (all-at end (λ i. ltb i start || test i) e i u) (le-ltb i start l)

pub at_from : (start end : ℕ) (test : ℕ → Bool) → ((i : ℕ) → start ≤ i → i < end → test i ≡ true) → all_from start end test ≡ true
unfolding all_from
at_from start end test h = at_all end _ (λ i u. true-or (ltb i start) (test i) (λ e. h i (ltb-false i start e) u))

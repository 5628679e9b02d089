-- One step after the other, as a loop takes them.
use mathlib.Core.Path.{◌≡◌, refl, sym, ◌∙◌}
use mathlib.Core.Logic.{◌⊎◌, inl, inr}
use mathlib.Core.Bool.{Bool, true, false, cond, ◌&&◌, ◌||◌}
use mathlib.Core.List.{List}
use Prim.Native.Nat.{ℕ, zero, suc, ◌+◌, ◌≤◌, ◌<◌}
use native.Mathlib.Decide.{ℕ_discrete}
use native.Mathlib.Nat.{lt_irrefl, le_antisymm, eq-or-lt_of_le, le_of_suc-le-suc}
use native.Mathlib.Numerals.{add-one}
use native.Mathlib.Omega.{arith}
use lib.Dec.{ltb}
use borrow.Author.Tests.{le-ltb, ltb-false}
use Rattle.audit_model.specs.Descent.{Answer, answer, pick, go_on, through}
use Rattle.audit_model.specs.Records.{all_to, all_from}
use Rattle.audit_model.proofs.Tests.{true≢false, all-at, at_all}

pub pick_yes : (o : Bool) (a c : Answer) → o ≡ true → a ≡ pick o a c
unfolding pick
pick_yes true a c e = refl
pick_yes false a c e = true≢false (sym e)

pub pick_no : (o : Bool) (a c : Answer) → o ≡ false → c ≡ pick o a c
unfolding pick
pick_no false a c e = refl
pick_no true a c e = true≢false e

pub cond_yes : {A : Type 0} (o : Bool) (a c : A) → o ≡ true → a ≡ cond o a c
cond_yes true a c e = refl
cond_yes false a c e = true≢false (sym e)

pub cond_no : {A : Type 0} (o : Bool) (a c : A) → o ≡ false → c ≡ cond o a c
cond_no false a c e = refl
cond_no true a c e = true≢false e

pub and_yes : (a c : Bool) → a ≡ true → c ≡ (a && c)
and_yes true c e = refl
and_yes false c e = true≢false (sym e)

pub and_no : (a c : Bool) → a ≡ false → false ≡ (a && c)
and_no false c e = refl
and_no true c e = true≢false e

-- ---- descents one after the other

module _ (f : ℕ → List ℕ → Answer) (t₀ : List ℕ) where
  pub through-start : through 0 f t₀ ≡ answer true t₀
  unfolding through
  through-start = refl

  pub through-next : (i : ℕ) (t t' : List ℕ) → through i f t₀ ≡ answer true t → answer true t' ≡ f i t → through (i + 1) f t₀ ≡ answer true t'
  unfolding through go_on
  through-next i t t' p q = rw (add-one, p) (sym q)

  through-stays : (k n : ℕ) (t : List ℕ) → k ≤ n → through k f t₀ ≡ answer false t → through n f t₀ ≡ answer false t
  unfolding through go_on
  through-stays k zero t l p = let e : k ≡ 0 = omega arith in rw e at p
  through-stays k (suc n) t l p = by (eq-or-lt_of_le l) (λ q. through-stays k n t q p)
    where
      by : (k ≡ suc n) ⊎ (k < suc n) → (k ≤ n → through n f t₀ ≡ answer false t) → go_on (through n f t₀).ok (through n f t₀).codes (f n) ≡ answer false t
      by (inl e) rest = rw e at p
      by (inr q) rest = rw (rest (le_of_suc-le-suc q))

  pub through-fails : (i n : ℕ) (t t' : List ℕ) → i < n → through i f t₀ ≡ answer true t → answer false t' ≡ f i t → answer false t' ≡ through n f t₀
  unfolding through go_on
  through-fails i n t t' l p q =
      let w : through (suc i) f t₀ ≡ answer false t' = rw p (sym q) in
      sym (through-stays (suc i) n t' l w)

  pub through-ends : (i n : ℕ) (t : List ℕ) → through i f t₀ ≡ answer true t → i ≤ n → n ≤ i → answer true t ≡ through n f t₀
  through-ends i n t p l g = let e : i ≡ n = le_antisymm l g in sym (rw e at p)

-- ---- tests one after the other

pub all_start : (test : ℕ → Bool) → all_to 0 test ≡ true
unfolding all_to
all_start test = refl

pub all-next : (n : ℕ) (test : ℕ → Bool) → all_to n test ≡ true → test n ≡ true → all_to (n + 1) test ≡ true
unfolding all_to
all-next n test p q = rw (add-one, p) q

pub all-fails : (n : ℕ) (test : ℕ → Bool) (k : ℕ) → k < n → test k ≡ false → false ≡ all_to n test
all-fails n test k l e = by (all_to n test) refl
  where
    by : (o : Bool) → all_to n test ≡ o → false ≡ o
    by true q = true≢false (sym (all-at n test q k l) ∙ e)
    by false q = refl

pub all-ends : (k n : ℕ) (test : ℕ → Bool) → all_to k test ≡ true → k ≤ n → n ≤ k → true ≡ all_to n test
all-ends k n test p l g = let e : k ≡ n = le_antisymm l g in sym (rw e at p)

-- the tests from start up to i held
unfoldable pub Held : (start i : ℕ) → (ℕ → Bool) → Type 0
Held start i test = (j : ℕ) → start ≤ j → j < i → test j ≡ true

pub held_start : (start : ℕ) (test : ℕ → Bool) → Held start start test
unfolding Held
held_start start test j l k = absurd (lt_irrefl zero (omega arith))

pub held_next : (start i : ℕ) (test : ℕ → Bool) → Held start i test → test i ≡ true → Held start (i + 1) test
unfolding Held
held_next start i test h q j l k = by (ℕ_discrete j i)
  where
    by : Dec (j ≡ i) → test j ≡ true
    by (yes e) = rw e q
    by (no d) = h j l (omega arith)

pub from-ends : (start i end : ℕ) (test : ℕ → Bool) → Held start i test → end ≤ i → true ≡ all_from start end test
unfolding Held all_from
from-ends start i end test h l = sym (at_all end (λ i. ltb i start || test i) (λ j k. by j k (ltb j start) refl))
  where
    by : (j : ℕ) → j < end → (o : Bool) → ltb j start ≡ o → (o || test j) ≡ true
    by j k true e = refl
    by j k false e = h j (ltb-false j start e) (omega arith)

pub from-fails : (start i end : ℕ) (test : ℕ → Bool) → start ≤ i → i < end → test i ≡ false → false ≡ all_from start end test
unfolding all_from
from-fails start i end test l k q = all-fails end (λ i. ltb i start || test i) i k (rw (le-ltb i start l) q)

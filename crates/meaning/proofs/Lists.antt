-- Sums, counts, lists by rule, and "each".
use mathlib.Core.Path.{◌≡◌, refl, ap₂}
use mathlib.Core.Logic.{◌⊎◌, inl, inr}
use mathlib.Core.Bool.{Bool, true, false}
use mathlib.Core.List.{List, [], ◌∷◌, ◌++◌}
use Prim.Native.Nat.{ℕ, zero, suc, ◌+◌, ◌≤◌, ◌<◌}
use native.Mathlib.Nat.{lt_irrefl, eq-or-lt_of_le, le_of_suc-le-suc}
use native.Mathlib.Omega.{arith}
use lib.ListN.{get_or, set, replicate}
use borrow.Author.Tests.{ne_eqb}
use Rattle.meaning.specs.Counting.{sum_to, bit, how_many, occurrences, rows, Each}

-- ---- sums and counts

pub sum_same : (n : ℕ) (f g : ℕ → ℕ) → ((k : ℕ) → k < n → f k ≡ g k) → sum_to n f ≡ sum_to n g
unfolding sum_to
sum_same zero f g h = refl
sum_same (suc n) f g h = ap₂ (λ (x y : ℕ). x + y) (sum_same n f g (λ k l. h k (omega arith))) (h n (omega arith))

pub sum-none : (n : ℕ) (f : ℕ → ℕ) → ((k : ℕ) → k < n → f k ≡ 0) → sum_to n f ≡ 0
unfolding sum_to
sum-none zero f h = refl
sum-none (suc n) f h = rw (sum-none n f (λ k l. h k (omega arith)), h n (omega arith))

pub many-all : (n : ℕ) (test : ℕ → Bool) → ((k : ℕ) → k < n → test k ≡ true) → how_many n test ≡ n
unfolding how_many sum_to
many-all zero test h = refl
many-all (suc n) test h = rw (h n (omega arith)) (omega (arith, many-all n test (λ k l. h k (omega arith))))

pub many-none : (n : ℕ) (test : ℕ → Bool) → n ≡ 0 → how_many n test ≡ 0
unfolding how_many sum_to
many-none n test e = rw e

pub many-le : (n : ℕ) (test : ℕ → Bool) → how_many n test ≤ n
unfolding how_many sum_to
many-le zero test = omega arith
many-le (suc n) test = pick (test n) (many-le n test)
  where
    pick : (b : Bool) → sum_to n (λ k. bit (test k)) ≤ n → sum_to n (λ k. bit (test k)) + bit b ≤ suc n
    pick true l = omega arith
    pick false l = omega arith

-- if as many pass as there are, each passes
pub many-each : (n : ℕ) (test : ℕ → Bool) → how_many n test ≡ n → (k : ℕ) → k < n → test k ≡ true
unfolding how_many sum_to
many-each zero test e k l = absurd (lt_irrefl zero (omega arith))
many-each (suc n) test e k l = pick (test n) refl e (eq-or-lt_of_le (le_of_suc-le-suc l)) (many-le n test) (many-each n test)
  where
    pick : (b : Bool) → test n ≡ b → sum_to n (λ j. bit (test j)) + bit b ≡ suc n → (k ≡ n) ⊎ (k < n)
        → sum_to n (λ j. bit (test j)) ≤ n → (sum_to n (λ j. bit (test j)) ≡ n → (j : ℕ) → j < n → test j ≡ true) → test k ≡ true
    pick true h f (inl q) m rec = rw q h
    pick true h f (inr q) m rec = rec (omega arith) k q
    pick false h f q m rec = absurd (lt_irrefl zero (omega arith))

-- one that passes
pub many-some : (n : ℕ) (test : ℕ → Bool) → 1 ≤ how_many n test → (k : ℕ) × (k < n) × (test k ≡ true)
unfolding how_many sum_to
many-some zero test l = absurd (lt_irrefl zero (omega arith))
many-some (suc n) test l = pick (test n) refl l (many-some n test)
  where
    pick : (b : Bool) → test n ≡ b → 1 ≤ sum_to n (λ j. bit (test j)) + bit b
        → (1 ≤ sum_to n (λ j. bit (test j)) → (k : ℕ) × (k < n) × (test k ≡ true)) → (k : ℕ) × (k < suc n) × (test k ≡ true)
    pick true h m rec = (n, omega arith, h)
    pick false h m rec = let r = rec (omega arith) in (r.0, omega (arith, r.1), r.2)

pub occurs-append : (n : ℕ) (xs ys : List ℕ) → occurrences n (xs ++ ys) ≡ occurrences n xs + occurrences n ys
unfolding occurrences
occurs-append n [] ys = omega arith
occurs-append n (x ∷ xs) ys = omega (arith, occurs-append n xs ys)

-- a number that no element is
pub occurs-never : (n : ℕ) (xs : List ℕ) → Each (λ x. x ≡ n → ⊥) xs → occurrences n xs ≡ 0
unfolding occurrences
occurs-never n [] h = refl
occurs-never n (x ∷ xs) h = rw (ne_eqb x n h.0) (omega (arith, occurs-never n xs h.1))

-- ---- each

pub each_map : {A : Type 0} {P Q : A → Type 0} → ((x : A) → P x → Q x) → (xs : List A) → Each P xs → Each Q xs
each_map f [] h = tt
each_map f (x ∷ xs) h = (f x h.0, each_map f xs h.1)

pub each_append : {A : Type 0} (P : A → Type 0) (xs ys : List A) → Each P xs → Each P ys → Each P (xs ++ ys)
each_append P [] ys h k = k
each_append P (x ∷ xs) ys h k = (h.0, each_append P xs ys h.1 k)

pub each-split : {A : Type 0} (P : A → Type 0) (xs ys : List A) → Each P (xs ++ ys) → Each P xs × Each P ys
each-split P [] ys h = (tt, h)
each-split P (x ∷ xs) ys h = let rest = each-split P xs ys h.1 in ((h.0, rest.0), rest.1)

pub each_set : {A : Type 0} (P : A → Type 0) (xs : List A) (n : ℕ) (x : A) → Each P xs → P x → Each P (set xs n x)
each_set P [] n x h k = tt
each_set P (y ∷ xs) zero x h k = (k, h.1)
each_set P (y ∷ xs) (suc n) x h k = (h.0, each_set P xs n x h.1 k)

pub each-replicate : {A : Type 0} (P : A → Type 0) (n : ℕ) (x : A) → P x → Each P (replicate n x)
each-replicate P zero x h = tt
each-replicate P (suc n) x h = (h, each-replicate P n x h)

pub each_rows : {A : Type 0} (P : A → Type 0) (n : ℕ) (f : ℕ → A) → ((i : ℕ) → i < n → P (f i)) → Each P (rows n f)
unfolding rows
each_rows P zero f h = tt
each_rows P (suc n) f h = (h 0 (omega arith), each_rows P n (λ i. f (suc i)) (λ i l. h (suc i) (omega arith)))

pub each_row : {A : Type 0} (P : A → Type 0) (n : ℕ) (f : ℕ → A) → Each P (rows n f) → (i : ℕ) → i < n → P (f i)
unfolding rows
each_row P zero f h i l = absurd (lt_irrefl zero (omega arith))
each_row P (suc n) f h zero l = h.0
each_row P (suc n) f h (suc i) l = each_row P n (λ k. f (suc k)) h.1 i (omega arith)

pub each-getD : {A : Type 0} (P : A → Type 0) (xs : List A) (n : ℕ) (d : A) → Each P xs → P d → P (get_or xs n d)
each-getD P [] n d h k = k
each-getD P (x ∷ xs) zero d h k = h.0
each-getD P (x ∷ xs) (suc n) d h k = each-getD P xs n d h.1 k

-- ---- lists by rule

pub rows_same : {A : Type 0} (n : ℕ) (f : ℕ → A) (x : A) → ((i : ℕ) → f i ≡ x) → rows n f ≡ replicate n x
unfolding rows
rows_same zero f x h = refl
rows_same {A} (suc n) f x h = ap₂ (λ (y : A) (ys : List A). y ∷ ys) (h 0) (rows_same n (λ i. f (suc i)) x (λ i. h (suc i)))

-- a list of one element, past its end too
pub replicate-at : {A : Type 0} (n i : ℕ) (x : A) → get_or (replicate n x) i x ≡ x
replicate-at zero i x = refl
replicate-at (suc n) zero x = refl
replicate-at (suc n) (suc i) x = replicate-at n i x

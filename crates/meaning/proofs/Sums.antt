-- Sums in which one term changes, and how often numbers stand in lists.
use mathlib.Core.Path.{◌≡◌, refl, sym, ◌∙◌}
use mathlib.Core.Logic.{◌≢◌, ◌⊎◌, inl, inr}
use mathlib.Core.Bool.{Bool, true, false}
use mathlib.Core.List.{List, [], ◌∷◌}
use Prim.Native.Nat.{ℕ, zero, suc, ◌+◌, ◌*◌, ◌≤◌, ◌<◌}
use native.Mathlib.Nat.{lt_irrefl, eq-or-lt_of_le, le_of_suc-le-suc, eq-zero-or-pos}
use native.Mathlib.Decide.{ℕ_discrete, dec_lt}
use native.Mathlib.Omega.{arith}
use lib.Dec.{eqb}
use lib.ListN.{length, get_or, take}
use lib.Seq.{take-suc}
use borrow.Author.Tests.{eq-eqb, ne_eqb}
use Rattle.meaning.specs.Counting.{sum_to, bit, how_many, occurrences, Each}
use Rattle.meaning.proofs.Lists.{sum_same, sum-none, occurs-append}

-- ---- sums

-- one term differs: the sums differ by what the terms differ by
pub sum_one : (n : ℕ) (f g : ℕ → ℕ) (m : ℕ) → m < n → ((k : ℕ) → k < n → k ≢ m → f k ≡ g k) → sum_to n f + g m ≡ sum_to n g + f m
unfolding sum_to
sum_one zero f g m l h = absurd (lt_irrefl zero (omega arith))
sum_one (suc n) f g m l h = pick (eq-or-lt_of_le (le_of_suc-le-suc l)) (λ q. sum_one n f g m q (λ k r. h k (omega arith)))
  where
    pick : (m ≡ n) ⊎ (m < n) → (m < n → sum_to n f + g m ≡ sum_to n g + f m) → sum_to n f + f n + g m ≡ sum_to n g + g n + f m
    pick (inl e) rest =
        let below : sum_to n f ≡ sum_to n g = sum_same n f g (λ k r. h k (omega arith) (omega arith)) in
        rw e (omega arith)
    pick (inr q) rest = omega (arith, rest q, h n (omega arith) (omega arith))

-- a sum that is not 0 has a term that is not 0
pub sum-some : (n : ℕ) (f : ℕ → ℕ) → 1 ≤ sum_to n f → (m : ℕ) × (m < n) × (1 ≤ f m)
unfolding sum_to
sum-some zero f h = absurd (lt_irrefl zero h)
sum-some (suc n) f h = pick (eq-zero-or-pos (f n)) (λ q. sum-some n f q)
  where
    pick : (f n ≡ 0) ⊎ (0 < f n) → (1 ≤ sum_to n f → (m : ℕ) × (m < n) × (1 ≤ f m)) → (m : ℕ) × (m < suc n) × (1 ≤ f m)
    pick (inl e) rest = let t = rest (omega arith) in (t.0, omega (arith, t.1), t.2)
    pick (inr q) rest = (n, omega arith, q)

pub term-le : (n : ℕ) (f : ℕ → ℕ) (m : ℕ) → m < n → f m ≤ sum_to n f
unfolding sum_to
term-le zero f m l = absurd (lt_irrefl zero (omega arith))
term-le (suc n) f m l = pick (eq-or-lt_of_le (le_of_suc-le-suc l)) (λ q. term-le n f m q)
  where
    pick : (m ≡ n) ⊎ (m < n) → (m < n → f m ≤ sum_to n f) → f m ≤ sum_to n f + f n
    pick (inl e) rest = rw e (omega arith)
    pick (inr q) rest = omega (arith, rest q)

pub sum-le : (n c : ℕ) (f : ℕ → ℕ) → ((k : ℕ) → k < n → f k ≤ c) → sum_to n f ≤ c * n
unfolding sum_to
sum-le zero c f h = omega arith
sum-le (suc n) c f h = omega (arith, sum-le n c f (λ k l. h k (omega arith)), h n (omega arith))

pub sum-add : (n : ℕ) (f g : ℕ → ℕ) → sum_to n (λ k. f k + g k) ≡ sum_to n f + sum_to n g
unfolding sum_to
sum-add zero f g = refl
sum-add (suc n) f g = omega (arith, sum-add n f g)

-- ---- bits

pub bit_le : (b : Bool) → bit b ≤ 1
bit_le true = omega arith
bit_le false = omega arith

pub bit-same : (n : ℕ) → bit (eqb n n) ≡ 1
bit-same n = rw (eq-eqb n n refl)

pub bit-other : (x n : ℕ) → x ≢ n → bit (eqb x n) ≡ 0
bit-other x n f = rw (ne_eqb x n f)

-- a passed test counts
pub many-one : (n : ℕ) (test : ℕ → Bool) (k : ℕ) → k < n → test k ≡ true → 1 ≤ how_many n test
unfolding how_many
many-one n test k l e = let one : bit (test k) ≤ sum_to n (λ j. bit (test j)) = term-le n (λ j. bit (test j)) k l in omega (arith, rw e at one)

-- ---- occurrences

pub occurs-none : (n : ℕ) → occurrences n [] ≡ 0
unfolding occurrences
occurs-none n = refl

pub occurs-cons : (n x : ℕ) (xs : List ℕ) → occurrences n (x ∷ xs) ≡ bit (eqb x n) + occurrences n xs
unfolding occurrences
occurs-cons n x xs = refl

pub occurs-one : (n x : ℕ) → occurrences n (x ∷ []) ≡ bit (eqb x n)
unfolding occurrences
occurs-one n x = omega arith

pub occurs-first : (n : ℕ) (xs : List ℕ) → 1 ≤ occurrences n (n ∷ xs)
unfolding occurrences
occurs-first n xs = omega (arith, bit-same n)

-- what stands in a list occurs in it
pub occurs-at : (xs : List ℕ) (i : ℕ) → i < length xs → 1 ≤ occurrences (get_or xs i 0) xs
unfolding occurrences
occurs-at [] i l = absurd (lt_irrefl zero (omega arith))
occurs-at (x ∷ xs) zero l = omega (arith, bit-same x)
occurs-at (x ∷ xs) (suc i) l = omega (arith, occurs-at xs i (omega arith))

-- what occurs in a list has what each of it has
pub each-occurs : (P : ℕ → Type 0) (xs : List ℕ) (n : ℕ) → Each P xs → 1 ≤ occurrences n xs → P n
unfolding occurrences
each-occurs P [] n h l = absurd (lt_irrefl zero (omega arith))
each-occurs P (x ∷ xs) n h l = pick (ℕ_discrete x n) (each-occurs P xs n h.1)
  where
    pick : Dec (x ≡ n) → (1 ≤ occurrences n xs → P n) → P n
    pick (yes e) rec = rw e at h.0
    pick (no f) rec = rec (omega (arith, bit-other x n f))

pub occurs-each : (P : ℕ → Type 0) (xs : List ℕ) → ((n : ℕ) → 1 ≤ occurrences n xs → P n) → Each P xs
unfolding occurrences
occurs-each P [] h = tt
occurs-each P (x ∷ xs) h = (h x (occurs-first x xs), occurs-each P xs (λ n l. h n (omega arith)))

pub occurs-le : (n : ℕ) (xs : List ℕ) → occurrences n xs ≤ length xs
unfolding occurrences
occurs-le n [] = omega arith
occurs-le n (x ∷ xs) = omega (arith, bit_le (eqb x n), occurs-le n xs)

-- in the first k elements, counted place by place
pub occurs-take : (n k : ℕ) (xs : List ℕ) → k ≤ length xs → occurrences n (take k xs) ≡ how_many k (λ i. eqb (get_or xs i 0) n)
unfolding how_many sum_to occurrences
occurs-take n zero xs l = refl
occurs-take n (suc k) xs l = rw (take-suc xs k 0 l, occurs-append) (omega (arith, occurs-take n k xs (omega arith)))

one_each : (N x : ℕ) → x < N → sum_to N (λ n. bit (eqb x n)) ≡ 1
one_each N x l =
    let one = sum_one N (λ n. bit (eqb x n)) (λ n. 0) x l (λ k _ f. bit-other x k (λ e. f (sym e))) in
    omega (arith, one, sum-none N (λ n. 0) (λ k _. refl), bit-same x)

-- a list of numbers below N, counted number by number
pub occurs-sum : (N : ℕ) (xs : List ℕ) → ((n : ℕ) → N ≤ n → occurrences n xs ≡ 0) → sum_to N (λ n. occurrences n xs) ≡ length xs
unfolding occurrences
occurs-sum N [] h = sum-none N (λ n. 0) (λ k _. refl)
occurs-sum N (x ∷ xs) h =
    let below : x < N = pick (dec_lt x N) in
    let rest = occurs-sum N xs (λ n l. omega (arith, h n l)) in
    sum-add N (λ n. bit (eqb x n)) (λ n. occurrences n xs) ∙ omega (arith, one_each N x below, rest)
  where
    pick : Dec (x < N) → x < N
    pick (yes l) = l
    pick (no f) = absurd (lt_irrefl zero (omega (arith, h x (omega arith), bit-same x)))

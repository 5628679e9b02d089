-- Words that the definitions share: sums, counts, lists by rule, and "each".
use Rattle.std.specs.Prelude.{Bool, cond, List, [], ◌∷◌, ℕ, zero, suc, ◌+◌, ◌%◌, eqb}

-- f 0 + .. + f (n - 1)
unfoldable pub sum_to : (n : ℕ) → (ℕ → ℕ) → ℕ
sum_to zero f = 0
sum_to (suc n) f = sum_to n f + f n

-- 1 for what is so, 0 for what is not
abbrev pub bit : Bool → ℕ
bit b = cond b 1 0

-- how many k below n pass the test
unfoldable pub how_many : (n : ℕ) → (ℕ → Bool) → ℕ
unfolding sum_to
how_many n test = sum_to n (λ k. bit (test k))

-- how often n stands in a list
unfoldable pub occurrences : (n : ℕ) → List ℕ → ℕ
occurrences n [] = 0
occurrences n (x ∷ xs) = bit (eqb x n) + occurrences n xs

-- the list f 0 to f (n - 1)
unfoldable pub rows : {A : Type 0} → (n : ℕ) → (ℕ → A) → List A
rows zero f = []
rows (suc n) f = f 0 ∷ rows n (λ i. f (suc i))

-- P holds of each element
abbrev pub Each : {A : Type 0} → (A → Type 0) → List A → Type 0
Each P [] = Unit {0}
Each P (x ∷ xs) = P x × Each P xs

unfoldable pub divides : (m n : ℕ) → Bool
divides m n = eqb (n % m) 0

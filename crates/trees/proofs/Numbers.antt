-- How many children and how many elements: the numbers of a step, with no nodes. A child holds c elements when it is full, u children hold m, and the step concerns element x of child b.
use mathlib.Core.Path.{◌≡◌, ap}
use mathlib.Core.Logic.{◌≢◌, ◌⊎◌, inl, inr}
use Prim.Native.Nat.{ℕ, suc, ◌+◌, ◌-◌, ◌*◌, ◌≤◌, ◌<◌, min, max}
use native.Mathlib.Decide.{dec_lt}
use native.Mathlib.Nat.{eq-or-lt_of_le, le_of_suc-le-suc, lt_of_mul-lt-mul_right, mul-le-mul_right}
use native.Mathlib.Omega.{arith}

-- ---- an element put at its place or at the next

module _ (c u b x m : ℕ) (below : x < c) (next : b * c + x ≤ m) (enough : m ≤ u * c) where
  pub put-bucket : b ≤ u
  put-bucket = le_of_suc-le-suc (lt_of_mul-lt-mul_right c (omega arith))

  pub put-enough : max m (b * c + x + 1) ≤ max u (b + 1) * c
  put-enough = pick (eq-or-lt_of_le put-bucket)
    where
      pick : (b ≡ u) ⊎ (b < u) → max m (b * c + x + 1) ≤ max u (b + 1) * c
      pick (inl e) = let k : max u (b + 1) ≡ b + 1 = omega arith in rw k (omega (arith, ap (λ y. y * c) e))
      pick (inr l) = let k : max u (b + 1) ≡ u = omega arith in rw k (omega (arith, mul-le-mul_right c l))

  pub put-needed : u * c < m + c → max u (b + 1) * c < max m (b * c + x + 1) + c
  put-needed needed = pick (eq-or-lt_of_le put-bucket)
    where
      pick : (b ≡ u) ⊎ (b < u) → max u (b + 1) * c < max m (b * c + x + 1) + c
      pick (inl e) = let k : max u (b + 1) ≡ b + 1 = omega arith in rw k (omega arith)
      pick (inr l) = let k : max u (b + 1) ≡ u = omega arith in rw k (omega arith)

  pub put-child : min c (max m (b * c + x + 1) - b * c) ≡ max (min c (m - b * c)) (x + 1)
  put-child = omega arith

  pub put_other : (i : ℕ) → i ≢ b → min c (max m (b * c + x + 1) - i * c) ≡ min c (m - i * c)
  put_other i f = pick (dec_lt i b)
    where
      pick : Dec (i < b) → min c (max m (b * c + x + 1) - i * c) ≡ min c (m - i * c)
      pick (yes l) = omega (arith, mul-le-mul_right c l)
      pick (no g) = let l : suc b ≤ i = omega arith in omega (arith, mul-le-mul_right c l)

-- ---- the last element left out

pub cut-used : (c u b x : ℕ) → x < c → b * c + x + 1 ≤ u * c → u * c < b * c + x + 1 + c → u ≡ b + 1
cut-used c u b x below enough needed =
    let low : b < u = lt_of_mul-lt-mul_right c (omega arith) in
    let high : u < suc (suc b) = lt_of_mul-lt-mul_right c (omega arith) in
    omega arith

-- Buckets are the digits of an index, the topmost first.
use mathlib.Core.Path.{◌≡◌, sym, ap, ◌∙◌}
use Prim.Native.Nat.{ℕ, suc, ◌+◌, ◌-◌, ◌*◌, ◌/◌, ◌%◌, ◌^◌, ◌<◌}
use native.Mathlib.Nat.{zero-mul, suc-mul, add-mul, pow-zero, div-one, mod-lt, div-add-mod'}
use native.Mathlib.Omega.{arith}
use lib.Pow.{shr_mod, field, mod-mod-pow}
use Rattle.meaning.specs.Shape.{degree, bucket}
use Rattle.shape.proofs.Powers.{degree-positive, degree-power, power-positive}

pub bucket-below : (b k i : ℕ) → bucket b k i < degree b
unfolding bucket
bucket-below b k i = mod-lt (i / 2 ^ (k * b)) (degree-positive b)

-- in a leaf
pub bucket-leaf : (b i : ℕ) → bucket b 0 i ≡ i % degree b
unfolding bucket
bucket-leaf b i = rw (zero-mul, pow-zero, div-one)

-- in a root of height h
pub bucket-top : (b h i : ℕ) → i < degree b ^ suc h → bucket b h i ≡ i / degree b ^ h
unfolding bucket degree
bucket-top b h i l =
    let e : suc h * b ≡ b + h * b = omega (arith, suc-mul h b) in
    let short : i < 2 ^ (b + h * b) = rw (degree-power b (suc h), e) at l in
    rw (degree-power b h) (shr_mod b (h * b) short)

-- below height h it is all one whether the index is taken in the whole or in its child
pub bucket-rest : (b h k i : ℕ) → k < h → bucket b k i ≡ bucket b k (i % degree b ^ h)
unfolding bucket degree
bucket-rest b h k i l =
    let r : ℕ = (h - suc k) * b in
    let e : h * b ≡ (r + b) + k * b = ap (λ x. x * b) (omega arith) ∙ add-mul (h - suc k) (suc k) b ∙ omega (arith, suc-mul k b) in
    rw (degree-power b h, e) (sym (ap (λ x. x % 2 ^ b) (field i (r + b) (k * b)) ∙ mod-mod-pow (i / 2 ^ (k * b)) r b))

pub rest_below : (b h i : ℕ) → i % degree b ^ h < degree b ^ h
rest_below b h i = mod-lt i (power-positive b h)

-- the children before the bucket, and the index in its child
pub bucket-splits : (b h i : ℕ) → i < degree b ^ suc h → bucket b h i * degree b ^ h + i % degree b ^ h ≡ i
bucket-splits b h i l = rw (bucket-top b h i l) (div-add-mod' i (degree b ^ h))

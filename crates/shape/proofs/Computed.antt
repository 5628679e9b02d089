-- What the code computes is what is meant.
use mathlib.Core.Path.{◌≡◌, refl, ◌∙◌}
use Prim.Native.Nat.{ℕ, zero, suc, min, ◌+◌, ◌-◌, ◌*◌, ◌/◌, ◌%◌, ◌^◌, ◌≤◌, ◌<◌}
use native.Mathlib.Nat.{lt_irrefl, div-add-mod'}
use native.Mathlib.Omega.{arith}
use lib.Bits.{bit_and, and_mask}
use lib.Count.{count_leading_zeros, leading_top}
use Rattle.meaning.specs.Limits.{node_cells, max_bits, length_bits, walk_levels, word_width}
use Rattle.meaning.specs.Shape.{degree, mask, bucket, bits_to_write, if_left, levels, height, root_max_capacity}
use Rattle.shape.specs.Legal.{Legal}
use Rattle.shape.proofs.Powers.{degree-most, one-shifts}
use Rattle.shape.proofs.Buckets.{bucket-below}
use Rattle.shape.proofs.Capacity.{height-shift, height-levels, capacity-holds, capacity-shift, capacity-power}

-- ---- `(index >> (height * bits)) & mask(bits)`

pub bucket-computed : (b h i m : ℕ) → b ≤ max_bits → m ≡ mask b → (bit_and (i / 2 ^ (h * b)) m ≡ bucket b h i) × (bit_and (i / 2 ^ (h * b)) m < node_cells)
unfolding mask degree bucket
bucket-computed b h i m hb e =
    let is : bit_and (i / 2 ^ (h * b)) m ≡ bucket b h i = rw e (and_mask (i / 2 ^ (h * b)) b) in
    (is, rw is (omega (arith, bucket-below b h i, degree-most b hb)))

-- ---- `c.div_ceil(bits) - 1`, where c is `BITS - u.leading_zeros()`

pub written-least : (u : ℕ) → 1 ≤ u → u < 2 ^ word_width → 1 ≤ word_width - count_leading_zeros word_width u
written-least u hu l = let t = leading_top word_width u hu l in omega (arith, t.1)

left-computed : (r : ℕ) → min 1 r ≡ if_left r
unfolding if_left
left-computed zero = refl
left-computed (suc r) = omega arith

pub rounded-least : (c b : ℕ) → 1 ≤ c → 1 ≤ c / b + min 1 (c % b)
rounded-least c b hc = by (c / b) (c % b) (div-add-mod' c b)
  where
    by : (q r : ℕ) → q * b + r ≡ c → 1 ≤ q + min 1 r
    by (suc q) r e = omega arith
    by zero r e = omega arith

pub height-computed : (b n : ℕ) → 2 ≤ n → let c = word_width - count_leading_zeros word_width (n - 1) in c / b + min 1 (c % b) - 1 ≡ height b n
unfolding height levels bits_to_write
height-computed b zero hn = absurd (lt_irrefl 0 (omega arith))
height-computed b (suc zero) hn = absurd (lt_irrefl 0 (omega arith))
height-computed b (suc (suc n)) hn = let less : suc (suc n) - 1 ≡ suc n = omega arith in rw (less, left-computed)

pub height-least : (b n : ℕ) → n ≤ 1 → 0 ≡ height b n
unfolding height
height-least b zero l = refl
height-least b (suc zero) l = refl
height-least b (suc (suc n)) l = absurd (lt_irrefl 0 (omega arith))

pub height-bounded : (b n r : ℕ) → Legal b n → r ≡ height b n → (r ≡ height b n) × ((r < walk_levels) × (r * b < length_bits))
height-bounded b n r legal e = (e, (rw e (height-levels b n legal), rw e (height-shift b n legal)))

-- ---- `1 << (bits * (height + 1))`

pub capacity-computed : (b n h : ℕ) → Legal b n → h ≡ height b n
    → let r = (1 * 2 ^ (b * (h + 1))) % 2 ^ word_width in (r ≡ root_max_capacity b n) × (n ≤ r)
capacity-computed b n h legal e =
    let is : (1 * 2 ^ (b * (h + 1))) % 2 ^ word_width ≡ root_max_capacity b n =
    rw e (one-shifts (b * (height b n + 1)) (capacity-shift b n legal) ∙ capacity-power b n legal) in
    (is, rw is (capacity-holds b n legal.bits.least (omega arith)))

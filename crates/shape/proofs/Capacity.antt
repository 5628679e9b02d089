-- What a tree of the height holds, and what the limits leave of the word.
use mathlib.Core.Path.{◌≡◌, sym, ap, ◌∙◌}
use mathlib.Core.Bool.{true}
use mathlib.Core.Logic.{◌↔◌}
use Prim.Native.Nat.{ℕ, zero, suc, ◌+◌, ◌*◌, ◌^◌, ◌≤◌, ◌<◌}
use native.Mathlib.Nat.{mul_comm, mul-le-mul_left, pow-zero, le_of_lt}
use native.Mathlib.Numerals.{add-one}
use native.Mathlib.Omega.{arith}
use borrow.Author.Tests.{eqb-true, eq-eqb}
use Rattle.meaning.specs.Limits.{word_width, length_bits, walk_levels}
use Rattle.meaning.specs.Shape.{degree, height, root_max_capacity, is_root_full}
use Rattle.meaning.proofs.Heights.{height-fits, height-within}
use Rattle.shape.specs.Legal.{Legal}
use Rattle.shape.proofs.Powers.{degree-power, power-positive}

-- n elements fit
pub height-holds : (b n : ℕ) → 1 ≤ b → n ≤ 2 ^ word_width → n ≤ degree b ^ suc (height b n)
height-holds b zero hb l = omega arith
height-holds b (suc zero) hb l = power-positive b (suc (height b 1))
height-holds b (suc (suc n)) hb l = (height-fits b (suc (suc n)) hb (omega arith) l).within

-- and fill a first child
pub height-fills : (b n : ℕ) → 1 ≤ b → 1 ≤ n → n ≤ 2 ^ word_width → degree b ^ height b n ≤ n
unfolding height
height-fills b zero hb hn l = omega arith
height-fills b (suc zero) hb hn l = rw pow-zero (omega arith)
height-fills b (suc (suc n)) hb hn l = le_of_lt (height-fits b (suc (suc n)) hb (omega arith) l).above

pub capacity-is : (b n : ℕ) → root_max_capacity b n ≡ degree b ^ suc (height b n)
unfolding root_max_capacity
capacity-is b n = rw add-one

pub capacity-holds : (b n : ℕ) → 1 ≤ b → n ≤ 2 ^ word_width → n ≤ root_max_capacity b n
capacity-holds b n hb l = rw capacity-is (height-holds b n hb l)

-- the root is full exactly if n = d ^ (h + 1)
pub full-exactly : (b n : ℕ) → (is_root_full b n ≡ true) ↔ (n ≡ degree b ^ suc (height b n))
unfolding is_root_full
full-exactly b n = (
  λ t. eqb-true n (root_max_capacity b n) t ∙ capacity-is b n,
  λ e. eq-eqb n (root_max_capacity b n) (e ∙ sym (capacity-is b n)),
)

-- within our limits
module _ (b n : ℕ) (legal : Legal b n) where
  pub height-shift : height b n * b < length_bits
  height-shift = rw mul_comm (height-within b n legal.bits.least (omega arith))

  pub height-levels : height b n < walk_levels
  height-levels = omega (arith, height-shift, mul-le-mul_left (height b n) legal.bits.least)

  -- `1 << (bits * (height + 1))` is safe
  pub capacity-shift : b * (height b n + 1) < word_width
  capacity-shift = omega (arith, height-shift)

  pub capacity-power : 2 ^ (b * (height b n + 1)) ≡ root_max_capacity b n
  unfolding root_max_capacity
  capacity-power = ap (λ k. 2 ^ k) (mul_comm b (height b n + 1)) ∙ sym (degree-power b (height b n + 1))

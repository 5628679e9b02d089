-- Powers of the degree, and shifts, are powers of 2.
use mathlib.Core.Path.{◌≡◌, ◌∙◌}
use Prim.Native.Nat.{ℕ, zero, suc, ◌*◌, ◌%◌, ◌^◌, ◌≤◌, ◌<◌}
use native.Mathlib.Nat.{zero-mul, suc-mul, one-mul, pow-zero, pow-suc, mul-le-mul_left}
use native.Mathlib.Omega.{arith}
use lib.Pow.{pow-add, pow_mono, pow_pos, shl_exact}
use Rattle.meaning.specs.Limits.{node_cells, max_bits, word_width}
use Rattle.meaning.specs.Shape.{degree}

pub degree-positive : (b : ℕ) → 1 ≤ degree b
unfolding degree
degree-positive b = pow_pos b

pub degree-least : (b : ℕ) → 1 ≤ b → 2 ≤ degree b
unfolding degree
degree-least b hb = pow_mono {i = 1} {j = b} hb

pub degree-most : (b : ℕ) → b ≤ max_bits → degree b ≤ node_cells
unfolding degree
degree-most b hb = pow_mono {i = b} {j = max_bits} hb

-- d ^ h is a shift
pub degree-power : (b h : ℕ) → degree b ^ h ≡ 2 ^ (h * b)
unfolding degree
degree-power b zero = simp (zero-mul, pow-zero)
degree-power b (suc h) = rw (pow-suc, degree-power b h, suc-mul, pow-add)

pub power-positive : (b h : ℕ) → 1 ≤ degree b ^ h
power-positive b h = rw degree-power (pow_pos (h * b))

-- one level more holds at least twice as many
pub power-doubles : (b h : ℕ) → 1 ≤ b → degree b ^ h * 2 ≤ degree b ^ suc h
power-doubles b h hb = rw pow-suc (mul-le-mul_left (degree b ^ h) (degree-least b hb))

-- `1 << k`
pub one-shifts : (k : ℕ) → k < word_width → (1 * 2 ^ k) % 2 ^ word_width ≡ 2 ^ k
one-shifts k l = shl_exact {a = 1} 1 k word_width (omega arith) (omega arith) ∙ one-mul (2 ^ k)

-- a shift that is safe at a height is safe one level lower
pub shift_falls : (b h : ℕ) → suc h * b < word_width → h * b < word_width
shift_falls b h l = omega (arith, suc-mul h b)

-- "Shape of a version": degree, height and bucket. Numbers alone.
use Rattle.std.specs.Prelude.{Bool, ℕ, zero, suc, ◌+◌, ◌-◌, ◌*◌, ◌/◌, ◌%◌, ◌^◌, eqb}
use Rattle.std.specs.Int.Count.{count_leading_zeros}
use Rattle.meaning.specs.Limits.{word_width}

-- d: 2 to the power bits
unfoldable pub degree : (bits : ℕ) → ℕ
degree bits = 2 ^ bits

-- the bits needed to write n: the word width less its leading zeros
unfoldable pub bits_to_write : (n : ℕ) → ℕ
bits_to_write n = word_width - count_leading_zeros word_width n

-- plus 1 if a remainder is left
unfoldable pub if_left : (remainder : ℕ) → ℕ
if_left zero = 0
if_left (suc r) = 1

-- c / bits, plus 1 if a remainder is left, minus 1
unfoldable pub levels : (bits c : ℕ) → ℕ
levels bits c = c / bits + if_left (c % bits) - 1

-- for length 0 or 1 the height is 0; otherwise c is of length - 1
unfoldable pub height : (bits length : ℕ) → ℕ
height bits zero = 0
height bits (suc zero) = 0
height bits (suc (suc n)) = levels bits (bits_to_write (suc n))

-- index shifted right by k × bits, modulo d
unfoldable pub bucket : (bits k index : ℕ) → ℕ
bucket bits k index = index / 2 ^ (k * bits) % degree bits

-- ---- names of the original that the code keeps

-- d - 1
unfoldable pub mask : (bits : ℕ) → ℕ
mask bits = degree bits - 1

-- d to the power height + 1: what fits without a new root
unfoldable pub root_max_capacity : (bits length : ℕ) → ℕ
root_max_capacity bits n = degree bits ^ (height bits n + 1)

unfoldable pub is_root_full : (bits length : ℕ) → Bool
is_root_full bits n = eqb n (root_max_capacity bits n)

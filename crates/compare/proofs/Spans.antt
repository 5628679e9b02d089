-- The indices that are in one child.
use mathlib.Core.Path.{◌≡◌, sym, ap, ◌∙◌}
use Prim.Native.Nat.{ℕ, ◌+◌, ◌*◌, ◌/◌, ◌%◌, ◌^◌, ◌≤◌, ◌<◌, min}
use native.Mathlib.Nat.{add-mul, one-mul, mod-lt, div-add-mod', mod-eq_of_lt, div-eq_of_lt-le}
use native.Mathlib.Omega.{arith}
use lib.Pow.{pow_pos, pow_mono}
use Rattle.meaning.specs.Limits.{max_length, word_width}
use Rattle.meaning.specs.Shape.{degree, bucket}
use Rattle.compare.specs.Differences.{child_end}

-- the first index after the child is within a word
next_fits : (s i : ℕ) → s < word_width → i ≤ max_length → (i / 2 ^ s + 1) * 2 ^ s < 2 ^ word_width
next_fits s i l k =
    omega (arith, add-mul (i / 2 ^ s) 1 (2 ^ s), one-mul (2 ^ s), div-add-mod' i (2 ^ s), pow_mono {i = s} {j = 31} (omega arith))

pub end_after : (bits h i to : ℕ) → i < to → i < child_end bits h i to
unfolding child_end
end_after bits h i to l =
    let p : ℕ = 2 ^ (h * bits) in
    let d : i < (i / p + 1) * p = omega (arith, add-mul (i / p) 1 p, one-mul p, div-add-mod' i p, mod-lt i (pow_pos (h * bits))) in
    omega arith

pub end-within : (bits h i to : ℕ) → child_end bits h i to ≤ to
unfolding child_end
end-within bits h i to = omega arith

-- up to the child's end all indices have its bucket
pub one-bucket : (bits h i to j : ℕ) → i ≤ j → j < child_end bits h i to → bucket bits h i ≡ bucket bits h j
unfolding child_end bucket
one-bucket bits h i to j l k =
    let p : ℕ = 2 ^ (h * bits) in
    let e : j / p ≡ i / p = div-eq_of_lt-le p (omega (arith, div-add-mod' i p)) (omega arith) in
    ap (λ q. q % degree bits) (sym e)

-- `(((i >> s) + 1) << s).min(to)`
pub end-computed : (bits h i to r : ℕ) → h * bits < word_width → i ≤ max_length → r ≡ min ((i / 2 ^ (h * bits) + 1) * 2 ^ (h * bits) % 2 ^ word_width) to → r ≡ child_end bits h i to
unfolding child_end
end-computed bits h i to r l k e = e ∙ ap (λ x. min x to) (mod-eq_of_lt (next_fits (h * bits) i l k))

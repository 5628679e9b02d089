-- The program on document 01's example, byte for byte, and on lines that are no frames.
use mathlib.Core.Path.{◌≡◌, refl}
use mathlib.Core.List.{List, [] as nil, ◌∷◌ as ◌then◌}
use Prim.Native.Nat.{ℕ, ◌-◌, min}
use Prim.Native.Char.{code}
use Prim.Native.String.{String, [], ◌∷◌}
use Rattle.meaning.specs.Supply.{all_free}
use Rattle.meaning.specs.Program.{is_digit, digit_value, digit_byte, all_digits, from_hex, to_hex, read_line, lines_of, talk, write, program}
use Rattle.meaning.proofs.Sessions.{session}

unfoldable pub bytes : String → List ℕ
bytes [] = nil
bytes (c ∷ s) = ◌then◌ (code c) (bytes s)

-- what the program writes, with 256 nodes free at the first line, one fewer at the second and two fewer from then on
unfoldable pub written : String → List ℕ
unfolding session bytes is_digit digit_value digit_byte all_digits from_hex to_hex read_line lines_of talk write program
written input = program (bytes input) (λ n. all_free (256 - min n 2))

pub example
    : written "010000000000000500000000\n010600010000000000000007\n010401000000000000000000\n010401000000000100000000\n020301000000000000000000\n010800000000000000000000\n010A00000000000000000000\n000D00000000000000000000\n"
    ≡ bytes "000100000000\n000100000000\n000000000007\n080000000000\n050000000000\n000000000000\n080000000000\n0000000000FE\n"
unfolding written
example = refl

-- empty input gives no output; every other line answers 14, an empty one too, and so does a last piece without line feed
pub others
    : (written "" ≡ bytes "")
    × (written "\n" ≡ bytes "0E0000000000\n")
    × (written "010a00000000000000000000\n" ≡ bytes "0E0000000000\n")
    × (written "0100000000000005000000000\n" ≡ bytes "0E0000000000\n")
    × (written "010000000000000500000000" ≡ bytes "0E0000000000\n")
    × (written "010000000000000500000000\nx" ≡ bytes "000100000000\n0E0000000000\n")
unfolding written
others = (refl, refl, refl, refl, refl, refl)

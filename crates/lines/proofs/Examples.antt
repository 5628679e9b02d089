-- A piece that ends within a line, byte for byte.
use mathlib.Core.Path.{◌≡◌, refl}
use mathlib.Core.List.{List, [], ◌∷◌}
use lib.ListN.{replicate}
use Rattle.meaning.specs.Frames.{from_bytes, to_bytes, decode, encode}
use Rattle.meaning.specs.Serve.{refused}
use Rattle.meaning.specs.Program.{Line, frame, other, is_digit, digit_value, digit_byte, all_digits, from_hex, to_hex, read_line}
use Rattle.meaning.proofs.Lines.{bytes}
use Rattle.hexadecimal.specs.Text.{line_size, printed_answer}
use Rattle.lines.specs.Lines.{whole_lines, left_over, Keeps, marked_lines, frames_marked}
use Rattle.lines.specs.Printing.{printed_line, printed}

abbrev lines : List Line
lines = frame (record { party = 1; operation = 0; slot = 0; destination = 0; index = 5; value = 0 }) ∷ other ∷ []

pub example
    : (whole_lines (bytes "0100000000") (bytes "00000500000000\n0\n01") ≡ lines)
    × (left_over (bytes "0100000000") (bytes "00000500000000\n0\n01") ≡ bytes "01")
    × (marked_lines (1 ∷ 0 ∷ []) (to_bytes 12 0x010000000000000500000000) ≡ lines)
    × (frames_marked (1 ∷ 0 ∷ []) ≡ 1)
    × (printed (1 ∷ 0 ∷ []) (to_bytes 6 0x000100000000) ≡ bytes "000100000000\n0E0000000000\n")
unfolding bytes whole_lines left_over marked_lines frames_marked printed printed_line printed_answer read_line is_digit digit_value digit_byte all_digits from_hex to_hex decode from_bytes encode to_bytes refused
example = (refl, refl, refl, refl, refl)

-- before the first piece, and after "01"
pub kept : Keeps (replicate line_size 0) 0 [] × Keeps (48 ∷ 49 ∷ replicate 22 0) 2 (48 ∷ 49 ∷ [])
kept = (record { room = refl; size = refl; front = λ l. refl }, record { room = refl; size = refl; front = λ l. refl })

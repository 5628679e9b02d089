-- The program: lines of hexadecimal in, lines of hexadecimal out. Bytes are numbers.
use Rattle.std.specs.Prelude.{Bool, true, false, cond, ◌&&◌, ◌||◌, List, [], ◌∷◌, ◌++◌, ℕ, suc, ◌+◌, ◌-◌, ◌*◌, ◌/◌, ◌%◌, leb, ltb, eqb, length}
use Rattle.meaning.specs.Limits.{frame_size, not_a_frame_number}
use Rattle.meaning.specs.Table.{Table, fresh_table}
use Rattle.meaning.specs.Frames.{Frame, Answer, decode, encode}
use Rattle.meaning.specs.Supply.{Supply}
use Rattle.meaning.specs.Serve.{refused, serve}

abbrev pub line_feed : ℕ
line_feed = 10

-- ---- hexadecimal, capitals

-- 0 to 9 are the bytes 48 to 57, A to F the bytes 65 to 70
unfoldable pub is_digit : (byte : ℕ) → Bool
is_digit b = leb 48 b && leb b 57 || leb 65 b && leb b 70

unfoldable pub digit_value : (byte : ℕ) → ℕ
digit_value b = cond (leb b 57) (b - 48) (b - 55)

unfoldable pub digit_byte : (value : ℕ) → ℕ
digit_byte v = cond (ltb v 10) (v + 48) (v + 55)

unfoldable pub all_digits : List ℕ → Bool
all_digits [] = true
all_digits (b ∷ bs) = is_digit b && all_digits bs

-- two digits are a byte
unfoldable pub from_hex : List ℕ → List ℕ
from_hex [] = []
from_hex (a ∷ []) = []
from_hex (a ∷ b ∷ bs) = (digit_value a * 16 + digit_value b) ∷ from_hex bs

unfoldable pub to_hex : List ℕ → List ℕ
to_hex [] = []
to_hex (b ∷ bs) = digit_byte (b / 16) ∷ digit_byte (b % 16) ∷ to_hex bs

-- ---- lines

pub data Line : Type 0 where
  frame : Frame → Line
  other : Line

unfoldable pub read_line : List ℕ → Line
read_line bs = cond (eqb (length bs) (2 * frame_size) && all_digits bs) (frame (decode (from_hex bs))) other

-- the lines of the input, of which so much is read of the next; a last piece without line feed is no frame, unless it is empty
unfoldable pub lines_of : (begun : List ℕ) → List ℕ → List Line
lines_of [] [] = []
lines_of (b ∷ bs) [] = other ∷ []
lines_of begun (b ∷ bs) = elim (eqb b line_feed) [ true ↦ read_line begun ∷ lines_of [] bs | false ↦ lines_of (begun ++ (b ∷ [])) bs ]

-- ---- answers

-- with so many nodes free at each line
unfoldable pub talk : List Line → (ℕ → Supply) → Table → List Answer
talk [] free t = []
talk (frame f ∷ ls) free t = let r = serve (free 0) f t in r.1 ∷ talk ls (λ n. free (suc n)) r.0
talk (other ∷ ls) free t = refused not_a_frame_number ∷ talk ls (λ n. free (suc n)) t

unfoldable pub write : List Answer → List ℕ
write [] = []
write (a ∷ as') = to_hex (encode a) ++ (line_feed ∷ write as')

unfoldable pub program : (input : List ℕ) → (ℕ → Supply) → List ℕ
program input free = write (talk (lines_of [] input) free fresh_table)

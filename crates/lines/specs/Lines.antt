-- The lines of a piece of input, what is kept of a line between two pieces, and lines as marks and request bytes.
use Rattle.std.specs.Prelude.{◌≡◌, cond, List, [], ◌∷◌, ◌++◌, ℕ, suc, ◌≤◌, min, eqb, length, take, drop}
use Rattle.meaning.specs.Limits.{frame_size}
use Rattle.meaning.specs.Frames.{decode}
use Rattle.meaning.specs.Program.{Line, frame, other, line_feed, read_line}
use Rattle.hexadecimal.specs.Text.{line_size}

-- what is kept of the length of a line that is longer
abbrev pub too_long : ℕ
too_long = suc line_size

-- ---- a piece of input

-- the lines that end within a piece, of which so much of the first was read before it
unfoldable pub whole_lines : (begun : List ℕ) → (piece : List ℕ) → List Line
whole_lines begun [] = []
whole_lines begun (b ∷ bs) = cond (eqb b line_feed) (read_line begun ∷ whole_lines [] bs) (whole_lines (begun ++ (b ∷ [])) bs)

-- what is begun of the next line after a piece
unfoldable pub left_over : (begun : List ℕ) → (piece : List ℕ) → List ℕ
left_over begun [] = begun
left_over begun (b ∷ bs) = cond (eqb b line_feed) (left_over [] bs) (left_over (begun ++ (b ∷ [])) bs)

-- what is kept of a line begun, with room for a frame's digits: its bytes, unless it is longer, and its length
pub record Keeps (bytes : List ℕ) (len : ℕ) (begun : List ℕ) : Type 0 where
  pub room : length bytes ≡ line_size
  pub size : len ≡ min (length begun) too_long
  pub front : length begun ≤ line_size → begun ≡ take len bytes

-- ---- marks and request bytes

-- the mark of a line that is a frame; any other marks any other line
abbrev pub frame_mark : ℕ
frame_mark = 1

-- each mark of a frame takes the next bytes as its frame
unfoldable pub marked_lines : (marks requests : List ℕ) → List Line
marked_lines [] bs = []
marked_lines (m ∷ ms) bs = cond (eqb m frame_mark) (frame (decode (take frame_size bs)) ∷ marked_lines ms (drop frame_size bs)) (other ∷ marked_lines ms bs)

unfoldable pub frames_marked : (marks : List ℕ) → ℕ
frames_marked [] = 0
frames_marked (m ∷ ms) = cond (eqb m frame_mark) (suc (frames_marked ms)) (frames_marked ms)

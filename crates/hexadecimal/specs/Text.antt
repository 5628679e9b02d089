-- A frame and an answer as text.
use Rattle.std.specs.Prelude.{List, [], ◌∷◌, ◌++◌, ℕ, suc, ◌*◌}
use Rattle.meaning.specs.Limits.{frame_size, answer_size}
use Rattle.meaning.specs.Program.{line_feed, to_hex}

-- the digits of a frame
abbrev pub line_size : ℕ
line_size = 2 * frame_size

-- the digits of an answer and a line feed
abbrev pub printed_size : ℕ
printed_size = suc (2 * answer_size)

unfoldable pub printed_answer : (answer : List ℕ) → List ℕ
printed_answer bytes = to_hex bytes ++ (line_feed ∷ [])

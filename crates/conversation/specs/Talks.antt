-- What the work on a piece asks and promises.
use Rattle.std.specs.Prelude.{◌≡◌, List, ℕ, ◌*◌, ◌≤◌, length, take}
use Rattle.meaning.specs.Program.{write}
use Rattle.store.specs.Store.{node_count}
use Rattle.frames.specs.Run.{Run}
use Rattle.serving.specs.States.{Runs}
use Rattle.hexadecimal.specs.Text.{printed_size}
use Rattle.lines.specs.Lines.{too_long, whole_lines, left_over, Keeps}
use Rattle.conversation.specs.Conversing.{talk_on}

-- the most bytes of a piece
abbrev pub piece_size : ℕ
piece_size = 4096

pub record CanTalk (before : Run) (piece out : List ℕ) : Type 0 where
  pub runs : Runs before
  pub short : length piece ≤ piece_size
  pub room : printed_size * length piece ≤ length out

-- of a piece whose first line was begun so: the line that is begun after it, the state, and the text
pub record Answered (before : Run) (line piece : List ℕ) (after : Run) (bytes : List ℕ) (len written : ℕ) (out : List ℕ) : Type 0 where
  pub keeps : Keeps bytes len (left_over line piece)
  pub state : after ≡ (talk_on before (whole_lines line piece)).0
  pub text : take written out ≡ write (talk_on before (whole_lines line piece)).1

-- whatever line was kept before it
pub record Talks (before : Run) (piece bytes : List ℕ) (len : ℕ) (after : Run) (bytes' : List ℕ) (len' written : ℕ) (out' : List ℕ) : Type 0 where
  pub runs : Runs after
  pub size : node_count after.store ≡ node_count before.store
  pub kept : len' ≤ too_long
  pub inside : written ≤ length out'
  pub talked : (line : List ℕ) → Keeps bytes len line → Answered before line piece after bytes' len' written out'

-- Answers to marked lines as text.
use Rattle.std.specs.Prelude.{◌≡◌, cond, List, [], ◌∷◌, ◌++◌, ℕ, ◌+◌, ◌*◌, ◌≤◌, eqb, length, take, drop}
use Rattle.std.proofs.Math.Seq.{paste}
use Rattle.meaning.specs.Limits.{answer_size, not_a_frame_number}
use Rattle.meaning.specs.Frames.{encode}
use Rattle.meaning.specs.Serve.{refused}
use Rattle.requests.specs.Requests.{answer_place}
use Rattle.hexadecimal.specs.Text.{printed_size, printed_answer}
use Rattle.lines.specs.Lines.{frame_mark, frames_marked}

-- the answer to a line of that mark, from what is left of the answers
unfoldable pub printed_line : (mark : ℕ) → (answers : List ℕ) → List ℕ
printed_line m bs = printed_answer (cond (eqb m frame_mark) (take answer_size bs) (encode (refused not_a_frame_number)))

-- the next answer for each frame, 14 for any other line
unfoldable pub printed : (marks answers : List ℕ) → List ℕ
printed [] bs = []
printed (m ∷ ms) bs = printed_line m bs ++ printed ms (cond (eqb m frame_mark) (drop answer_size bs) bs)

-- ---- what printing asks and promises

-- a line's answer, from a place on
pub record CanPrintLine (mark : ℕ) (answers : List ℕ) (frames : ℕ) (out : List ℕ) (at : ℕ) : Type 0 where
  pub answered : answer_place (frames + frames_marked (mark ∷ [])) ≤ length answers
  pub room : at + printed_size ≤ length out

pub record PrintsLine (mark : ℕ) (answers : List ℕ) (frames : ℕ) (out : List ℕ) (at : ℕ) (frames' : ℕ) (out' : List ℕ) : Type 0 where
  pub counted : frames' ≡ frames + frames_marked (mark ∷ [])
  pub text : out' ≡ paste out at (printed_line mark (drop (answer_place frames) answers)) printed_size

-- the answers to all lines
pub record CanPrint (marks answers out : List ℕ) : Type 0 where
  pub answered : answer_place (frames_marked marks) ≤ length answers
  pub room : printed_size * length marks ≤ length out

pub record Prints (marks answers : List ℕ) (written : ℕ) (out : List ℕ) : Type 0 where
  pub size : written ≡ printed_size * length marks
  pub text : take written out ≡ printed marks answers

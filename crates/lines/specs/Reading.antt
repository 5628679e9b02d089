-- What reading a piece asks and promises, by line, by step and as a whole.
use Rattle.std.specs.Prelude.{◌≡◌, Bool, true, cond, List, ℕ, ◌+◌, ◌≤◌, ◌<◌, length, get_or, take, drop, set}
use Rattle.std.proofs.Math.Seq.{paste}
use Rattle.meaning.specs.Limits.{frame_size}
use Rattle.meaning.specs.Counting.{bit}
use Rattle.meaning.specs.Program.{line_feed, all_digits, from_hex}
use Rattle.requests.specs.Requests.{frame_place}
use Rattle.hexadecimal.specs.Text.{line_size}
use Rattle.lines.specs.Lines.{whole_lines, left_over, Keeps, marked_lines, frames_marked}

-- ---- a line that ends

-- places for its mark and its bytes
pub record HasRoom (marks requests : List ℕ) (lines frames : ℕ) : Type 0 where
  pub mark : lines < length marks
  pub bytes : frame_place frames + frame_size ≤ length requests

-- it is marked, and if it is a frame its digits are read
pub record EndsLine (is_frame : Bool) (digits marks requests : List ℕ) (lines frames : ℕ) (marks' requests' : List ℕ) (frames' : ℕ) : Type 0 where
  pub marked : marks' ≡ set marks lines (bit is_frame)
  pub read : requests' ≡ cond is_frame (paste requests (frame_place frames) (from_hex digits) frame_size) requests
  pub counted : frames' ≡ frames + bit is_frame
  pub marks_kept : length marks' ≡ length marks
  pub requests_kept : length requests' ≡ length requests

-- a frame's digits and a line feed stand there
pub record FrameAt (piece : List ℕ) (at : ℕ) : Type 0 where
  pub inside : at + line_size < length piece
  pub digits : all_digits (take line_size (drop at piece)) ≡ true
  pub ended : get_or piece (at + line_size) 0 ≡ line_feed

-- ---- a piece

-- after so much of a piece, of whose first line so much was read before it
pub record Reads (line done bytes : List ℕ) (len : ℕ) (marks requests : List ℕ) (lines frames : ℕ) : Type 0 where
  pub keeps : Keeps bytes len (left_over line done)
  pub marked : marked_lines (take lines marks) requests ≡ whole_lines line done
  pub counted : frames ≡ frames_marked (take lines marks)

pub record CanRead (piece : List ℕ) (marks requests : List ℕ) : Type 0 where
  pub mark_room : length piece ≤ length marks
  pub request_room : frame_place (length piece) ≤ length requests

-- no more lines than bytes read, and no more frames than lines
pub record Bounded (at lines frames : ℕ) : Type 0 where
  pub many_lines : lines ≤ at
  pub many_frames : frames ≤ lines

-- there is more of it to read
pub record CanReadOn (piece : List ℕ) (at : ℕ) (marks requests : List ℕ) (lines frames : ℕ) : Type 0 where
  pub can : CanRead piece marks requests
  pub bounded : Bounded at lines frames
  pub more : at < length piece

-- further in a piece, whatever was kept before
pub record ReadsOn (piece bytes : List ℕ) (at len : ℕ) (marks requests : List ℕ) (lines frames : ℕ) (bytes' : List ℕ) (at' len' : ℕ) (marks' requests' : List ℕ) (lines' frames' : ℕ) : Type 0 where
  pub further : at < at'
  pub inside : at' ≤ length piece
  pub can : CanRead piece marks' requests'
  pub bounded : Bounded at' lines' frames'
  pub reads : (line : List ℕ) → Reads line (take at piece) bytes len marks requests lines frames → Reads line (take at' piece) bytes' len' marks' requests' lines' frames'

-- to its end
pub record ReadsPiece (piece bytes : List ℕ) (len : ℕ) (bytes' : List ℕ) (len' : ℕ) (marks' requests' : List ℕ) (lines frames : ℕ) : Type 0 where
  pub bounded : Bounded (length piece) lines frames
  pub reads : (line : List ℕ) → Keeps bytes len line → Reads line piece bytes' len' marks' requests' lines frames

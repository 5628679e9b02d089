-- The frames and answers of the code as those of the meaning, and bytes put into room.
use Rattle.std.specs.Prelude.{List, ◌++◌, ℕ, ◌+◌, ◌*◌, length, take, drop}
use Rattle.meaning.specs.Limits.{frame_size, answer_size}
use Rattle.meaning.specs.Frames as meaning
use Rattle.meaning.specs.Frames.{decode}
use Rattle.requests.specs.declared.Frame.{Frame}
use Rattle.requests.specs.declared.Answer.{Answer}

abbrev pub frame_of : Frame → meaning.Frame
frame_of f = record { party = f.party; operation = f.operation; slot = f.slot; destination = f.destination; index = f.index; value = f.value }

abbrev pub answer_of : Answer → meaning.Answer
answer_of a = record { number = a.number; fresh = a.fresh; value = a.value }

abbrev pub answer_with : (number fresh value : ℕ) → Answer
answer_with n k x = record { number = n; fresh = k; value = x }

-- where the kth frame and the kth answer begin
abbrev pub frame_place : (k : ℕ) → ℕ
frame_place k = frame_size * k

abbrev pub answer_place : (k : ℕ) → ℕ
answer_place k = answer_size * k

-- the kth frame of the request bytes
abbrev pub frame_in : (requests : List ℕ) → (k : ℕ) → meaning.Frame
frame_in requests k = decode (take frame_size (drop (frame_place k) requests))

-- bytes from a place on, and all else as it was
unfoldable pub put : (room : List ℕ) → (at : ℕ) → (bytes : List ℕ) → List ℕ
put room at bytes = take at room ++ (bytes ++ drop (at + length bytes) room)

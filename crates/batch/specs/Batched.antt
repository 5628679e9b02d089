-- What a batch promises: of any bytes as lent state, requests and answer room.
use Rattle.std.specs.Prelude.{◌≡◌, ◌↔◌, Bool, true, List, ℕ, zero, suc, ◌/◌, length, Result, Ok, Err}
use Rattle.meaning.specs.Limits.{frame_size}
use Rattle.meaning.specs.Lent.{Lent}
use Rattle.meaning.specs.WellFormed.{WellFormed}
use Rattle.meaning.specs.Stands.{table_of}
use Rattle.meaning.specs.Frames.{Frame}
use Rattle.meaning.specs.Batch.{batch}
use Rattle.limits.specs.declared.numbers.Refusal.{Refusal}
use Rattle.records.specs.declared.Version.{Version}
use Rattle.serving.specs.Lending.{after_all, frames_in, free_at}
use Rattle.batch.specs.declared.Batched.{Batched}

abbrev pub batched_with : Result ℕ Refusal → List Version → Batched
batched_with r vs = record { outcome = r; versions = vs }

-- a batch that is refused reports no frame
abbrev pub frames_of : Result ℕ Refusal → ℕ
frames_of (Ok frames) = frames
frames_of (Err refusal) = 0

-- the frames of the request bytes
abbrev pub all_frames : (requests : List ℕ) → List Frame
all_frames requests = frames_in (length requests / frame_size) requests

-- a state after a batch: the frames served in order, or nothing changed if it is refused
unfoldable pub state_after : (number : ℕ) → Lent → List Frame → Lent
state_after zero s fs = after_all s fs
state_after (suc n) s fs = s

pub record Batches (s after : Lent) (requests room room_after : List ℕ) (number frames : ℕ) : Type 0 where
  -- the report, every byte of the answer room and the table afterwards are the plain table's, by whether the state is well-formed and how many nodes are free at each frame
  pub plain : (well : Bool) → ((well ≡ true) ↔ WellFormed s)
      → record { number = number; frames = frames; room = room_after; table = table_of after } ≡ batch well requests room (free_at s (all_frames requests)) (table_of s)
  -- a state that was well-formed is so again
  pub formed : WellFormed s → WellFormed after
  -- which state it is, to the last cell
  pub state : after ≡ state_after number s (all_frames requests)

-- A turn of the code in terms of what a batch carries from frame to frame.
use Rattle.std.specs.Prelude.{ℕ, get_or, set}
use Rattle.meaning.specs.Lent.{VersionRecord, empty_record}
use Rattle.meaning.specs.Frames.{Frame, Answer}
use Rattle.meaning.specs.Operations.{giver, taker}
use Rattle.frames.specs.Run.{Run}
use Rattle.calls.specs.Walks.{WalkActed}
use Rattle.turns.specs.Turns.{place_of, changed_in}

-- the place of the one version record that a frame may change, and what stands there
abbrev pub changed_place : Frame → ℕ
changed_place f = changed_in f (place_of (giver f) f.slot) (place_of (taker f) f.destination)

abbrev pub old_in : Run → Frame → VersionRecord
old_in r f = get_or r.versions (changed_place f) empty_record

-- the state and the answer after a turn
abbrev pub turned : Run → Frame → WalkActed → Run × Answer
turned r f a = (record { store = a.acted.store; versions = set r.versions (changed_place f) a.acted.version; walks = a.walks }, a.acted.answer)

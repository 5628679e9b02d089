-- Frames in order: what each makes of the state, and its answer at its 6 bytes.
use Rattle.std.specs.Prelude.{◌≡◌, true, cond, ◌&&◌, ◌⊎◌, List, ℕ, zero, suc, ◌+◌, ◌-◌, ◌≤◌, ◌<◌, ltb, length, get_or}
use Rattle.meaning.specs.Limits.{parties, party_slots, version_count, get_code, next_code, next_back_code}
use Rattle.meaning.specs.Lent.{VersionRecord, empty_record, WalkSlices}
use Rattle.meaning.specs.Frames.{Frame, encode}
use Rattle.meaning.specs.Operations.{giver, taker}
use Rattle.shape.specs.Legal.{Legal}
use Rattle.store.specs.Store.{Store, node_count}
use Rattle.walk.specs.Walk.{Walkable}
use Rattle.requests.specs.Requests.{put, frame_in, answer_place, frame_place}
use Rattle.frames.specs.Run.{Run, walk_place}
use Rattle.frames.specs.Serve as frames
use Rattle.turns.specs.Turns.{place_of, is_open_at}
use Rattle.repeats.specs.InARow.{Roomy}
use Rattle.serving.specs.States.{Runs}
use Rattle.answering.specs.Turned.{changed_place}

-- ---- the records that a frame names

pub record Placed (f : Frame) (source target changed : ℕ) : Type 0 where
  pub source_is : source ≡ place_of (giver f) f.slot
  pub target_is : target ≡ place_of (taker f) f.destination
  pub changed_is : changed ≡ changed_place f
  pub source_below : source < version_count
  pub target_below : target < version_count
  pub changed_below : changed < version_count

-- what stands at the place of a slot that is there; a slot that is not there reads as empty
abbrev pub source_from : Frame → VersionRecord → VersionRecord
source_from f v = cond (ltb (giver f) parties && ltb f.slot party_slots) v empty_record

abbrev pub target_from : Frame → VersionRecord → VersionRecord
target_from f v = cond (ltb (taker f) parties && ltb f.destination party_slots) v empty_record

-- ---- in order

abbrev pub run_of : Store → List VersionRecord → WalkSlices → Run
run_of s vs ws = record { store = s; versions = vs; walks = ws }

pub record Progress : Type 0 where
  pub run : Run
  pub room : List ℕ

abbrev pub progress : Run → (room : List ℕ) → Progress
progress r room = record { run = r; room = room }

unfoldable pub step : (requests : List ℕ) → Progress → (k : ℕ) → Progress
step requests p k =
    let x = frames.serve p.run (frame_in requests k) in
    progress x.0 (put p.room (answer_place k) (encode x.1))

-- so many frames from the kth on
unfoldable pub run_from : (requests : List ℕ) → (count : ℕ) → Progress → (k : ℕ) → Progress
run_from requests zero p k = p
run_from requests (suc n) p k = run_from requests n (step requests p k) (k + 1)

pub record CanRun (r : Run) (requests room : List ℕ) (count : ℕ) : Type 0 where
  pub runs : Runs r
  pub asked : frame_place count ≤ length requests
  pub fits : answer_place count ≤ length room

-- ---- frames like the one before, in a row

-- what answering them asks of the walks, of the version in that frame's slot and of the room
pub record Repeatable (ws : WalkSlices) (f : Frame) (v : VersionRecord) (requests room : List ℕ) (k count : ℕ) : Type 0 where
  pub roomy : Roomy requests room k count
  pub legal : f.operation ≡ get_code → ltb f.party parties && ltb f.slot party_slots ≡ true → v.live ≡ 1 → Legal v.bits v.length
  pub walkable : (f.operation ≡ next_code) ⊎ (f.operation ≡ next_back_code) → is_open_at ws.numbers f.party f.slot ≡ true → Walkable ws.numbers (walk_place f.party f.slot)

-- any state that has these cells, used numbers and walks, and the version in that frame's slot, goes on so from the kth frame up to the endth
pub record Repeats (cells used : List ℕ) (ws ws_after : WalkSlices) (f : Frame) (v : VersionRecord) (requests room room_after : List ℕ) (k count end : ℕ) : Type 0 where
  pub from : k ≤ end
  pub to : end ≤ count
  pub serves : (s : Store) (vs : List VersionRecord) → s.nodes.cells ≡ cells → s.nodes.used ≡ used
      → get_or vs (place_of (giver f) f.slot) empty_record ≡ v
      → progress (run_of s vs ws_after) room_after ≡ run_from requests (end - k) (progress (run_of s vs ws) room) k

-- ---- between two frames

pub record Going (requests : List ℕ) (count : ℕ) (start now : Progress) (k : ℕ) : Type 0 where
  pub far : k ≤ count
  pub runs : Runs now.run
  pub size : node_count now.run.store ≡ node_count start.run.store
  pub fits : length now.room ≡ length start.room
  -- what is left to do gives what was to be done
  pub goes : run_from requests (count - k) now k ≡ run_from requests count start 0

-- Frames of one kind in a row: gets of elements that are there, from one slot, and steps of one walk from one end.
use Rattle.std.specs.Prelude.{◌≡◌, Bool, true, false, ◌&&◌, List, ℕ, zero, suc, ◌+◌, ◌-◌, ◌*◌, ◌≤◌, ◌<◌, ltb, eqb, length, get_or}
use Rattle.meaning.specs.Limits.{node_cells, get_code}
use Rattle.meaning.specs.Lent.{WalkSlices}
use Rattle.meaning.specs.Trees.{height_of}
use Rattle.meaning.specs.Frames.{Frame, encode}
use Rattle.records.specs.Records.{record_of}
use Rattle.records.specs.declared.Version.{Version}
use Rattle.lookup.specs.Lookup.{element_in}
use Rattle.index.specs.Index.{along}
use Rattle.walk.specs.Walk.{taken_by}
use Rattle.walk.specs.declared.Stretch.{Stretch}
use Rattle.requests.specs.Requests.{put, frame_place, answer_place, frame_in}
use Rattle.edits.specs.Edits.{valued}
use Rattle.calls.specs.Walks.{answer_of}

-- frames and answers up to a count have their room
pub record Roomy (requests room : List ℕ) (k count : ℕ) : Type 0 where
  pub far : k ≤ count
  pub asked : frame_place count ≤ length requests
  pub fits : answer_place count ≤ length room

-- all the frames from the kth up to the endth are of that kind
pub record InARow (kind : Frame → Bool) (requests : List ℕ) (k count end : ℕ) : Type 0 where
  pub from : k ≤ end
  pub to : end ≤ count
  pub all : (i : ℕ) → k ≤ i → i < end → kind (frame_in requests i) ≡ true

-- and what comes behind them, if anything, is not
abbrev pub Stops : (kind : Frame → Bool) → (requests : List ℕ) → (count end : ℕ) → Type 0
Stops kind requests count end = end < count → kind (frame_in requests end) ≡ false

-- ---- gets

-- of a party's slot, at an index below a length
abbrev pub is_get : (party slot length : ℕ) → Frame → Bool
is_get p n l f = eqb f.party p && eqb f.operation get_code && eqb f.slot n && ltb f.index l

-- the room after so many gets from the kth frame on
unfoldable pub after_gets : (cells : List ℕ) → Version → (requests room : List ℕ) → (k count : ℕ) → List ℕ
after_gets cells v requests room k zero = room
after_gets cells v requests room k (suc m) =
    let x = element_in cells v.bits (height_of (record_of v)) v.root (frame_in requests (k + m)).index in
    put (after_gets cells v requests room k m) (answer_place (k + m)) (encode (valued x))

pub record Gets (cells : List ℕ) (party slot : ℕ) (v : Version) (requests room room_after : List ℕ) (k count end : ℕ) : Type 0 where
  pub row : InARow (is_get party slot v.length) requests k count end
  pub answers : room_after ≡ after_gets cells v requests room k (end - k)

-- ---- steps

-- of a party's walk, by that operation
abbrev pub is_step : (party operation walk : ℕ) → Frame → Bool
is_step p o n f = eqb f.party p && eqb f.operation o && eqb f.slot n

-- what steps change
pub record Walked : Type 0 where
  pub walks : WalkSlices
  pub room : List ℕ

abbrev pub walked : WalkSlices → (room : List ℕ) → Walked
walked ws room = record { walks = ws; room = room }

-- walk n after so many steps from the kth frame on
unfoldable pub after_steps : (cells used : List ℕ) → (back : Bool) → (n : ℕ) → Walked → (k count : ℕ) → Walked
after_steps cells used back n w k zero = w
after_steps cells used back n w k (suc m) =
    let before = after_steps cells used back n w k m in
    let t = taken_by cells used back before.walks n in
    walked t.slices (put before.room (answer_place (k + m)) (encode (answer_of t.answer)))

pub record Steps (cells used : List ℕ) (party operation walk : ℕ) (back : Bool) (n : ℕ) (w after : Walked) (requests : List ℕ) (k count end : ℕ) : Type 0 where
  pub row : InARow (is_step party operation walk) requests k count end
  pub steps : after ≡ after_steps cells used back n w k (end - k)

-- the room after so many answers by cells of one leaf, from the kth frame on
unfoldable pub after_cells : (cells : List ℕ) → (back : Bool) → Stretch → (room : List ℕ) → (k count : ℕ) → List ℕ
after_cells cells back s room k zero = room
after_cells cells back s room k (suc m) =
    let x = get_or cells (node_cells * s.node + along back s.place m) 0 in
    put (after_cells cells back s room k m) (answer_place (k + m)) (encode (valued x))

pub record StepsInLeaf (cells : List ℕ) (party operation walk : ℕ) (back : Bool) (s : Stretch) (requests room room_after : List ℕ) (k count end : ℕ) : Type 0 where
  pub row : InARow (is_step party operation walk) requests k count end
  pub stay : end - k ≤ s.most
  pub answers : room_after ≡ after_cells cells back s room k (end - k)

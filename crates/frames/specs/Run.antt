-- What is carried from frame to frame, the records that a frame names, and what its checks see of them.
use Rattle.std.specs.Prelude.{cond, ◌&&◌, List, ℕ, ◌+◌, ◌*◌, ltb, eqb, get_or}
use Rattle.meaning.specs.Limits.{parties, party_slots, party_walks}
use Rattle.meaning.specs.Lent.{VersionRecord, empty_record, WalkSlices, WalkRecord, closed_record, walk_record}
use Rattle.meaning.specs.Frames.{Frame}
use Rattle.meaning.specs.Operations.{giver, taker}
use Rattle.meaning.specs.Supply.{Supply, all_free}
use Rattle.meaning.specs.Checks.{Seen}
use Rattle.store.specs.Store.{Store}

pub record Run : Type 0 where
  pub store : Store
  pub versions : List VersionRecord
  pub walks : WalkSlices

-- the place of a party's slot among all version records, and of its walk among all walk records
abbrev pub slot_place : (party slot : ℕ) → ℕ
slot_place p n = party_slots * p + n

abbrev pub walk_place : (party walk : ℕ) → ℕ
walk_place p n = party_walks * p + n

-- a slot or walk that is not there reads as empty or closed
unfoldable pub version_in : Run → (party slot : ℕ) → VersionRecord
version_in r p n = cond (ltb p parties && ltb n party_slots) (get_or r.versions (slot_place p n) empty_record) empty_record

unfoldable pub walk_in : Run → (party walk : ℕ) → WalkRecord
walk_in r p n = cond (ltb p parties && ltb n party_walks) (walk_record r.walks (walk_place p n)) closed_record

-- the source, what is to be filled (or the other source of a compare), the walk that is used, and the walk that is to be opened
abbrev pub source_in : Run → Frame → VersionRecord
source_in r f = version_in r (giver f) f.slot

abbrev pub target_in : Run → Frame → VersionRecord
target_in r f = version_in r (taker f) f.destination

abbrev pub walked_in : Run → Frame → WalkRecord
walked_in r f = walk_in r (giver f) f.slot

abbrev pub opened_in : Run → Frame → WalkRecord
opened_in r f = walk_in r (taker f) f.destination

-- ---- what the checks see

unfoldable pub seen_in : Run → Frame → Seen
seen_in r f =
    let v = source_in r f in
    let w = walked_in r f in
    record {
      standing =
          record {
            source_live = eqb v.live 1;
            target_live = eqb (target_in r f).live 1;
            walk_open = eqb w.version.live 1;
            opened_open = eqb (opened_in r f).version.live 1;
          };
      bits = v.bits;
      length = v.length;
      ended = eqb (w.front + w.back) w.version.length;
    }

-- as many nodes as are free now
abbrev pub supply_in : Run → Supply
supply_in r = all_free r.store.free

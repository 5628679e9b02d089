-- "Numbers given back": the frame checks 1 to 10, in that order; the first that applies is answered.
use Rattle.std.specs.Prelude.{Bool, false, cond, not, ◌&&◌, ◌||◌, List, [], ◌∷◌, ◌++◌, ℕ, leb, ltb, eqb, length}
use Rattle.meaning.specs.Limits.{last_party, last_slot, last_walk, last_operation, host, max_bits, max_length, done_number, no_party_number, no_operation_number, host_only_number, out_of_range_number, empty_source_number, live_target_number, bad_bits_number, nothing_there_number, full_number, no_nodes_number}
use Rattle.meaning.specs.Table.{Version, Party, slot_at, walk_at, is_live, is_open, version, rest}
use Rattle.meaning.specs.Frames.{Frame}
use Rattle.meaning.specs.Operations.{Op, Role, unused, source, filled, walked, opened, owner, bits, position, element, Want, nothing, item_at_index, an_item, item_left, room, Uses, uses}
use Rattle.meaning.specs.Costs.{cost}
use Rattle.meaning.specs.Supply.{Supply, is_short}

-- ---- what the checks look at, beside the frame

-- Which of the slots and walks that a frame names are live or open. The slot field names a slot or walk of the giver, the destination field one of the taker: one and the same party but for hand-over.
pub record Standing : Type 0 where
  pub source_live : Bool
  pub target_live : Bool
  pub walk_open : Bool
  pub opened_open : Bool

pub record Seen : Type 0 where
  pub standing : Standing
  -- of the source version
  pub bits : ℕ
  pub length : ℕ
  -- nothing is left of the walk
  pub ended : Bool

-- ---- 4 to 7: what can be wrong with a field

pub record Faults : Type 0 where
  pub out_of_range : Bool
  pub empty_source : Bool
  pub live_target : Bool
  pub bad_bits : Bool

unfoldable pub no_fault : Faults
no_fault = record { out_of_range = false; empty_source = false; live_target = false; bad_bits = false }

-- n in a field of that role, where the slot of that number is live or not, and the walk of that number open or not
unfoldable pub faults : Role → (n : ℕ) → (slot_live walk_open : Bool) → Faults
unfolding no_fault
faults source n l w = record { out_of_range = ltb last_slot n; empty_source = not l; live_target = false; bad_bits = false }
faults filled n l w = record { out_of_range = ltb last_slot n; empty_source = false; live_target = l; bad_bits = false }
faults walked n l w = record { out_of_range = ltb last_walk n; empty_source = not w; live_target = false; bad_bits = false }
faults opened n l w = record { out_of_range = ltb last_walk n; empty_source = false; live_target = w; bad_bits = false }
faults owner n l w = record { out_of_range = ltb last_party n; empty_source = false; live_target = false; bad_bits = false }
faults bits n l w = record { out_of_range = false; empty_source = false; live_target = false; bad_bits = not (leb 1 n && leb n max_bits) }
faults position n l w = no_fault
faults element n l w = no_fault
faults unused n l w = no_fault

-- one of the four fields has that fault
unfoldable pub any_field : Uses → Frame → Standing → (Faults → Bool) → Bool
any_field u f x fault =
    fault (faults u.slot f.slot x.source_live x.walk_open)
    || fault (faults u.destination f.destination x.target_live x.opened_open)
    || fault (faults u.index f.index false false)
    || fault (faults u.value f.value false false)

-- ---- 8 and 9: what an operation does not find

-- 8: get or set with index not below length; first, last or drop on length 0; 09 or 0A on an ended walk
unfoldable pub nothing_there : Want → (index : ℕ) → Seen → Bool
nothing_there item_at_index index x = leb x.length index
nothing_there an_item index x = eqb x.length 0
nothing_there item_left index x = x.ended
nothing_there room index x = false
nothing_there nothing index x = false

-- 9: push on length 32,768
unfoldable pub is_full : Want → Seen → Bool
is_full room x = leb max_length x.length
is_full item_at_index x = false
is_full an_item x = false
is_full item_left x = false
is_full nothing x = false

-- ---- all ten

-- a number, and whether it applies
pub record Check : Type 0 where
  pub number : ℕ
  pub applies : Bool

infix 20 ◌if◌
unfoldable pub ◌if◌ : ℕ → Bool → Check
n if b = record { number = n; applies = b }

-- 1 to 6: who asks, and what stands where the frame points
unfoldable pub entry_checks : Op → Frame → Standing → List Check
entry_checks o f x =
    let u = uses o in
    (no_party_number if ltb last_party f.party)
    ∷ (no_operation_number if ltb last_operation f.operation)
    ∷ (host_only_number if u.host_only && not (eqb f.party host))
    ∷ (out_of_range_number if any_field u f x (λ y. y.out_of_range))
    ∷ (empty_source_number if any_field u f x (λ y. y.empty_source))
    ∷ (live_target_number if any_field u f x (λ y. y.live_target))
    ∷ []

-- 7 to 9: what the operation does not find
unfoldable pub find_checks : Op → Frame → Seen → List Check
find_checks o f x =
    let u = uses o in
    (bad_bits_number if any_field u f x.standing (λ y. y.bad_bits))
    ∷ (nothing_there_number if nothing_there u.wants f.index x)
    ∷ (full_number if is_full u.wants x)
    ∷ []

-- 1 to 9
unfoldable pub earlier_checks : Op → Frame → Seen → List Check
unfolding entry_checks find_checks
earlier_checks o f x = entry_checks o f x.standing ++ find_checks o f x

-- 10: fewer free nodes than the charge
unfoldable pub nodes_check : Op → Supply → Seen → Check
nodes_check o s x = no_nodes_number if is_short s.spend (cost o x.bits x.length).charge

unfoldable pub checks : Op → Supply → Frame → Seen → List Check
unfolding earlier_checks
checks o s f x = earlier_checks o f x ++ (nodes_check o s x ∷ [])

-- the number of the first that applies, or 0
unfoldable pub first_of : List Check → ℕ
first_of [] = done_number
first_of (c ∷ cs) = cond c.applies c.number (first_of cs)

-- ---- what they see of the plain table

-- the version in the slot that a frame's slot field names, and what is left of the walk of that number
unfoldable pub source_of : (giver : Party) → Frame → Version
source_of g f = version (slot_at g f.slot)

unfoldable pub left_of : (giver : Party) → Frame → List ℕ
left_of g f = rest (walk_at g f.slot)

unfoldable pub seen_by : Frame → (giver taker : Party) → Seen
seen_by f g t =
    record {
      standing =
          record {
            source_live = is_live (slot_at g f.slot);
            target_live = is_live (slot_at t f.destination);
            walk_open = is_open (walk_at g f.slot);
            opened_open = is_open (walk_at t f.destination);
          };
      bits = (source_of g f).bits;
      length = length (source_of g f).items;
      ended = eqb (length (left_of g f)) 0;
    }

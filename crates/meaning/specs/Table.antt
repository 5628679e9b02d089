-- "The plain table": for each live slot its bits and list of values, for each open walk the values not yet taken.
use Rattle.std.specs.Prelude.{Bool, true, false, List, [], ℕ, get_or, set, replicate}
use Rattle.meaning.specs.Limits.{parties, party_slots, party_walks}

pub record Version : Type 0 where
  pub bits : ℕ
  pub items : List ℕ

pub data Slot : Type 0 where
  empty : Slot
  live : Version → Slot

pub data Walk : Type 0 where
  closed : Walk
  taking : List ℕ → Walk

pub record Party : Type 0 where
  pub slots : List Slot
  pub walks : List Walk

abbrev pub Table : Type 0
Table = List Party

-- ---- a fresh table: all slots empty, all walks closed

unfoldable pub fresh_party : Party
fresh_party = record { slots = replicate party_slots empty; walks = replicate party_walks closed }

unfoldable pub fresh_table : Table
fresh_table = replicate parties fresh_party

-- ---- reading. What is out of range or not there reads as fresh; checks 1, 4 and 5 come before any use of it.

unfoldable pub party_at : Table → (party : ℕ) → Party
party_at t p = get_or t p fresh_party

unfoldable pub slot_at : Party → (slot : ℕ) → Slot
slot_at p n = get_or p.slots n empty

unfoldable pub walk_at : Party → (walk : ℕ) → Walk
walk_at p n = get_or p.walks n closed

unfoldable pub is_live : Slot → Bool
is_live empty = false
is_live (live v) = true

unfoldable pub is_open : Walk → Bool
is_open closed = false
is_open (taking rest) = true

unfoldable pub version : Slot → Version
version empty = record { bits = 0; items = [] }
version (live v) = v

-- the values not yet taken
unfoldable pub rest : Walk → List ℕ
rest closed = []
rest (taking xs) = xs

-- ---- changing one slot or one walk

unfoldable pub put_slot : Party → (slot : ℕ) → Slot → Party
put_slot p n s = record { slots = set p.slots n s; walks = p.walks }

unfoldable pub put_walk : Party → (walk : ℕ) → Walk → Party
put_walk p n w = record { slots = p.slots; walks = set p.walks n w }

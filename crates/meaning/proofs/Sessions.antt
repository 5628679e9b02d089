-- Sessions on the plain table, by computation: the example of document 01, every refusal, walks, hand-over, compare, costs.
use mathlib.Core.Path.{◌≡◌, refl}
use mathlib.Core.List.{List, [], ◌∷◌, ◌++◌, map}
use Prim.Native.Nat.{ℕ, ◌-◌}
use lib.Count.{count_leading_zeros}
use lib.ListN.{replicate, length}
use Rattle.meaning.specs.Limits.{max_length}
use Rattle.meaning.specs.Counting.{sum_to, how_many, divides}
use Rattle.meaning.specs.Shape.{degree, bits_to_write, if_left, levels, height}
use Rattle.meaning.specs.Table.{Version, empty, live, closed, Table, fresh_party, fresh_table, party_at, slot_at, walk_at, is_live, is_open, version, rest, put_slot, put_walk}
use Rattle.meaning.specs.Frames.{from_bytes, to_bytes, decode, encode}
use Rattle.meaning.specs.Operations.{operations, op_of, anyone, host_alone, uses, owner_or, giver, taker}
use Rattle.meaning.specs.Costs.{drop_fresh, plain, new_cost, push_cost, set_cost, drop_cost, priced, cost}
use Rattle.meaning.specs.Supply.{all_free, is_short}
use Rattle.meaning.specs.Checks.{no_fault, faults, any_field, nothing_there, is_full, ◌if◌, entry_checks, find_checks, earlier_checks, nodes_check, checks, first_of, source_of, left_of, seen_by}
use Rattle.meaning.specs.Effects.{first_item, last_item, without_first, without_last, order, signed, fill, effect}
use Rattle.meaning.specs.Serve.{refused, respond, step, serve, Reply, run}

-- ---- sessions, as the program writes them

-- a line of 24 hexadecimal digits, with so many nodes free
pub record Line : Type 0 where
  pub free : ℕ
  pub frame : ℕ

infix 20 ◌with◌
unfoldable pub ◌with◌ : ℕ → ℕ → Line
frame with free = record { free = free; frame = frame }

-- the answers, 12 digits each, of a session from table t
unfoldable pub session : Table → List Line → List ℕ
unfolding ◌with◌ sum_to how_many divides degree bits_to_write if_left levels height count_leading_zeros fresh_party fresh_table party_at slot_at walk_at is_live is_open version rest put_slot put_walk from_bytes to_bytes decode encode operations op_of anyone host_alone uses owner_or giver taker drop_fresh plain new_cost push_cost set_cost drop_cost priced cost is_short no_fault faults any_field nothing_there is_full ◌if◌ entry_checks find_checks earlier_checks nodes_check checks first_of source_of left_of seen_by first_item last_item without_first without_last order signed fill effect refused respond step serve run
session t ls =
    map (λ (r : Reply). from_bytes (encode r.answer) 0)
    (run (map (λ (l : Line). record { supply = all_free l.free; frame = decode (to_bytes 12 l.frame) }) ls) t).1

-- The example session of document 01.
pub example
    : session fresh_table
    ((0x010000000000000500000000 with 256)
    ∷ (0x010600010000000000000007 with 255)
    ∷ (0x010401000000000000000000 with 254)
    ∷ (0x010401000000000100000000 with 254)
    ∷ (0x020301000000000000000000 with 254)
    ∷ (0x010800000000000000000000 with 254)
    ∷ (0x010A00000000000000000000 with 254)
    ∷ (0x000D00000000000000000000 with 254)
    ∷ [])
    ≡ 0x000100000000
    ∷ 0x000100000000
    ∷ 0x000000000007
    ∷ 0x080000000000
    ∷ 0x050000000000
    ∷ 0x000000000000
    ∷ 0x080000000000
    ∷ 0x0000000000FE
    ∷ []
unfolding session
example = refl

-- ---- each refusal of a frame, and that the lower number comes first

pub refusals
    : session fresh_table
    ((0x08FFFFFFFFFFFFFFFFFFFFFF with 0)  -- 1: party 8, whatever else is wrong
    ∷ (0x07110909FFFFFFFFFFFFFFFF with 0)  -- 2: operation 11
    ∷ (0x010C0909FFFFFFFFFFFFFFFF with 0)  -- 3: hand-over by party 1
    ∷ (0x010D00000000000000000000 with 0)  -- 3: free nodes asked by party 1
    ∷ (0x000C00000000000800000001 with 0)  -- 4: hand-over from party 8
    ∷ (0x010800020000000000000000 with 0)  -- 4: open walk 2, before the empty slot is seen
    ∷ (0x010200000000000000000000 with 0)  -- 5: release of an empty slot
    ∷ (0x010B00000000000000000000 with 0)  -- 5: close of a closed walk
    ∷ (0x010000000000000000000000 with 9)  -- 7: bits 0
    ∷ (0x010000000000000600000000 with 9)  -- 7: bits 6
    ∷ (0x010000000000000500000000 with 0)  -- 10: no node for a new version
    ∷ (0x010000000000000500000000 with 1)  -- done
    ∷ (0x010000000000000600000000 with 0)  -- 6 comes before 7
    ∷ (0x010600000000000000000007 with 9)  -- 6: source is destination
    ∷ (0x010700010000000000000000 with 0)  -- 8 comes before 10: drop on length 0
    ∷ (0x010600010000000000000007 with 0)  -- 10: a push with no node
    ∷ [])
    ≡ 0x010000000000 ∷ 0x020000000000 ∷ 0x030000000000 ∷ 0x030000000000 ∷ 0x040000000000 ∷ 0x040000000000 ∷ 0x050000000000 ∷ 0x050000000000
    ∷ 0x070000000000 ∷ 0x070000000000 ∷ 0x0A0000000000 ∷ 0x000100000000 ∷ 0x060000000000 ∷ 0x060000000000 ∷ 0x080000000000 ∷ 0x0A0000000000 ∷ []
unfolding session
refusals = refl

-- ---- walks, hand-over, compare

-- a table whose party 1 has those versions in its slots from 0 upwards
unfoldable pub stocked : List Version → Table
unfolding fresh_party fresh_table
stocked vs = fresh_party ∷ record { slots = map (λ (v : Version). live v) vs ++ replicate (8 - length vs) empty; walks = closed ∷ closed ∷ [] } ∷ replicate 6 fresh_party

unfoldable pub listed : (bits : ℕ) → List ℕ → Version
listed b xs = record { bits = b; items = xs }

-- next and next_back meet in the middle: each element once, then 8 for ever; the walk holds its version after the slot is released
pub walking
    : session (stocked (listed 5 (11 ∷ 12 ∷ 13 ∷ []) ∷ []))
    ((0x010800010000000000000000 with 0)
    ∷ (0x010200000000000000000000 with 0)
    ∷ (0x010901000000000000000000 with 0)
    ∷ (0x010A01000000000000000000 with 0)
    ∷ (0x010901000000000000000000 with 0)
    ∷ (0x010901000000000000000000 with 0)
    ∷ (0x010A01000000000000000000 with 0)
    ∷ (0x010B01000000000000000000 with 0)
    ∷ (0x010901000000000000000000 with 0)
    ∷ [])
    ≡ 0x000000000000 ∷ 0x000000000000 ∷ 0x00000000000B ∷ 0x00000000000D ∷ 0x00000000000C ∷ 0x080000000000 ∷ 0x080000000000 ∷ 0x000000000000 ∷ 0x050000000000 ∷ []
unfolding session stocked listed
walking = refl

-- the host hands slot 0 of party 1 to slot 3 of party 2, which reads it, also after party 1 has released it
pub handing
    : session (stocked (listed 5 (11 ∷ 12 ∷ 13 ∷ []) ∷ []))
    ((0x000C00030000000100000002 with 0)
    ∷ (0x010200000000000000000000 with 0)
    ∷ (0x020403000000000200000000 with 0)
    ∷ (0x000C03030000000200000002 with 0)  -- 6: within one party, onto itself
    ∷ (0x000303000000000000000000 with 0)  -- 5: the host's own slot 3 is empty still
    ∷ [])
    ≡ 0x000000000000 ∷ 0x000000000000 ∷ 0x00000000000D ∷ 0x060000000000 ∷ 0x050000000000 ∷ []
unfolding session stocked listed
handing = refl

-- document 01's compare figures, as frames
pub comparing
    : session (stocked (listed 1 (1 ∷ 2 ∷ []) ∷ listed 5 (1 ∷ 2 ∷ []) ∷ listed 5 [] ∷ listed 5 (0 ∷ []) ∷ listed 5 (2 ∷ []) ∷ listed 5 (1 ∷ 9 ∷ []) ∷ []))
    ((0x011000010000000000000000 with 0)
    ∷ (0x011002030000000000000000 with 0)
    ∷ (0x011004050000000000000000 with 0)
    ∷ (0x011000060000000000000000 with 0)  -- 5: the destination is a source here, and empty
    ∷ (0x011000000000000000000000 with 0)  -- a slot with itself: never 6
    ∷ [])
    ≡ 0x000000000000 ∷ 0x0000FFFFFFFF ∷ 0x000000000001 ∷ 0x050000000000 ∷ 0x000000000000 ∷ []
unfolding session stocked listed
comparing = refl

-- a push onto 31, 32 and 33 elements copies 1, 2 and 2 nodes; a drop from 33 none, though it is charged 2
pub pushing
    : session (stocked (listed 5 (replicate 31 7) ∷ listed 5 (replicate 32 7) ∷ listed 5 (replicate 33 7) ∷ []))
    ((0x010600030000000000000007 with 1)
    ∷ (0x010601040000000000000007 with 2)
    ∷ (0x010602050000000000000007 with 2)
    ∷ (0x010702060000000000000000 with 2)
    ∷ (0x010702070000000000000000 with 1)
    ∷ (0x010601070000000000000007 with 1)
    ∷ [])
    ≡ 0x000100000000 ∷ 0x000200000000 ∷ 0x000200000000 ∷ 0x000000000000 ∷ 0x0A0000000000 ∷ 0x0A0000000000 ∷ []
unfolding session stocked listed
pushing = refl

-- 10 is not given when the free nodes just meet the charge: 3 at height 2
pub just_enough
    : session (stocked (listed 1 (1 ∷ 2 ∷ 3 ∷ 4 ∷ 5 ∷ []) ∷ []))
    ((0x010500010000000400000007 with 3) ∷ (0x010500020000000400000007 with 2) ∷ (0x010401000000000400000000 with 0) ∷ (0x010400000000000400000000 with 0) ∷ [])
    ≡ 0x000300000000 ∷ 0x0A0000000000 ∷ 0x000000000007 ∷ 0x000000000005 ∷ []
unfolding session stocked listed
just_enough = refl

-- push on 32,767 is done, on 32,768 refused with 9, whatever the elements
pub push-below : (xs : List ℕ) → length xs ≡ max_length - 1
    → session (stocked (listed 5 xs ∷ [])) ((0x010600030000000000000007 with 3) ∷ []) ≡ 0x000300000000 ∷ []
unfolding session stocked listed
push-below xs e = rw e

pub push_at : (xs : List ℕ) → length xs ≡ max_length
    → session (stocked (listed 5 xs ∷ [])) ((0x010600030000000000000007 with 3) ∷ []) ≡ 0x090000000000 ∷ []
unfolding session stocked listed
push_at xs e = rw e

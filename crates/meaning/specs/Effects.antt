-- What a call does that no check refuses: the columns "does" and "answers" of the list of operations.
use Rattle.std.specs.Prelude.{cond, List, [], ◌∷◌, ◌++◌, ℕ, ◌-◌, ◌^◌, ltb, length, get_or, take, drop, set}
use Rattle.meaning.specs.Limits.{word_width}
use Rattle.meaning.specs.Table.{Version, empty, live, closed, taking, Party, slot_at, version, put_slot, put_walk}
use Rattle.meaning.specs.Frames.{Frame}
use Rattle.meaning.specs.Operations.{Op, new, clone, release, len, get, set_at, push_back, drop_last, open_walk, next, next_back, close_walk, hand_over, free_nodes, first, last, compare, unknown}
use Rattle.meaning.specs.Supply.{Supply}

-- ---- on lists

unfoldable pub first_item : List ℕ → ℕ
first_item xs = get_or xs 0 0

unfoldable pub last_item : List ℕ → ℕ
last_item xs = get_or xs (length xs - 1) 0

unfoldable pub without_first : List ℕ → List ℕ
without_first xs = drop 1 xs

unfoldable pub without_last : List ℕ → List ℕ
without_last xs = take (length xs - 1) xs

pub data Sign : Type 0 where
  before same after : Sign

-- element by element, unsigned, then shorter first
unfoldable pub order : List ℕ → List ℕ → Sign
order [] [] = same
order [] (y ∷ ys) = before
order (x ∷ xs) [] = after
order (x ∷ xs) (y ∷ ys) = cond (ltb x y) before (cond (ltb y x) after (order xs ys))

-- -1, 0 or 1, in two's complement
unfoldable pub signed : Sign → ℕ
signed before = 2 ^ word_width - 1
signed same = 0
signed after = 1

-- ---- on slots and walks

-- the destination is filled with a version of those bits and elements
unfoldable pub fill : Party → Frame → (bits : ℕ) → List ℕ → Party
fill t f b xs = put_slot t f.destination (live (record { bits = b; items = xs }))

-- Given the source version, what is left of the walk, and the taker's slots and walks: the taker's afterwards, and the value answered.
unfoldable pub effect : Op → Supply → Frame → (source : Version) → (left : List ℕ) → (taker : Party) → Party × ℕ
effect new s f v w t = (fill t f f.index [], 0)
effect clone s f v w t = (fill t f v.bits v.items, 0)
effect release s f v w t = (put_slot t f.slot empty, 0)
effect len s f v w t = (t, length v.items)
effect get s f v w t = (t, get_or v.items f.index 0)
effect set_at s f v w t = (fill t f v.bits (set v.items f.index f.value), 0)
effect push_back s f v w t = (fill t f v.bits (v.items ++ (f.value ∷ [])), 0)
effect drop_last s f v w t = (fill t f v.bits (without_last v.items), 0)
effect open_walk s f v w t = (put_walk t f.destination (taking v.items), 0)
effect next s f v w t = (put_walk t f.slot (taking (without_first w)), first_item w)
effect next_back s f v w t = (put_walk t f.slot (taking (without_last w)), last_item w)
effect close_walk s f v w t = (put_walk t f.slot closed, 0)
effect hand_over s f v w t = (fill t f v.bits v.items, 0)
effect free_nodes s f v w t = (t, s.free)
effect first s f v w t = (t, first_item v.items)
effect last s f v w t = (t, last_item v.items)
effect compare s f v w t = (t, signed (order v.items (version (slot_at t f.destination)).items))
effect unknown s f v w t = (t, 0)

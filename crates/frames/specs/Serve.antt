-- What a frame makes of a running state, exact to the last cell, and what it is answered.
use Rattle.std.specs.Prelude.{Bool, true, false, List, [], ◌∷◌, ℕ, zero, suc, ◌-◌, set, Option, Some, None}
use Rattle.meaning.specs.Limits.{done_number}
use Rattle.meaning.specs.Lent.{VersionRecord, empty_record, WalkSlices}
use Rattle.meaning.specs.Trees.{height_of, element, contents}
use Rattle.meaning.specs.Frames.{Frame, Answer}
use Rattle.meaning.specs.Operations.{Op, new, clone, release, len, get, set_at, push_back, drop_last, open_walk, next, next_back, close_walk, hand_over, free_nodes, first, last, compare, unknown, op_of, giver, taker}
use Rattle.meaning.specs.Checks.{checks, first_of}
use Rattle.meaning.specs.Effects.{order, signed}
use Rattle.meaning.specs.Serve.{refused}
use Rattle.store.specs.Store.{Store, raised}
use Rattle.sweep.specs.Sweep as sweep
use Rattle.paths.specs.Edits.{Edit, new_edit, share_edit, set_edit, push_edit, drop_edit}
use Rattle.walk.specs.Walk as walk
use Rattle.frames.specs.Run.{Run, slot_place, walk_place, source_in, target_in, walked_in, seen_in, supply_in}

-- the state afterwards, and the value answered
pub record Served : Type 0 where
  pub run : Run
  pub value : ℕ

abbrev pub run : Store → List VersionRecord → WalkSlices → Run
run s vs ws = record { store = s; versions = vs; walks = ws }

-- nothing changes but the answer
abbrev pub answers : Run → (value : ℕ) → Served
answers r x = record { run = r; value = x }

-- the destination is filled by an edit
unfoldable pub fills : Run → Frame → Edit → Served
fills r f e = answers (run e.store (set r.versions (slot_place (taker f) f.destination) e.version) r.walks) 0

-- the slot is emptied
unfoldable pub empties : Run → Frame → Served
empties r f =
    answers (run (sweep.release r.store (source_in r f).root) (set r.versions (slot_place (taker f) f.slot) empty_record) r.walks) 0

-- the element at an index of the source
unfoldable pub item_at : Run → VersionRecord → (index : ℕ) → ℕ
item_at r v i = element r.store.nodes v.bits (height_of v) v.root i

unfoldable pub opens : Run → Frame → Served
opens r f =
    let v = source_in r f in
    answers (run (raised r.store (v.root ∷ [])) r.versions (walk.opened r.walks (walk_place (taker f) f.destination) v)) 0

unfoldable pub got_of : Option ℕ → ℕ
got_of (Some x) = x
got_of None = 0

unfoldable pub takes : Run → Frame → (back : Bool) → Served
takes r f back =
    let t = walk.taken_by r.store.nodes.cells r.store.nodes.used back r.walks (walk_place (giver f) f.slot) in
    answers (run r.store r.versions t.slices) (got_of t.answer)

unfoldable pub closes : Run → Frame → Served
closes r f =
    answers (run (sweep.release r.store (walked_in r f).version.root) r.versions (walk.closed r.walks (walk_place (giver f) f.slot))) 0

unfoldable pub done : Op → Run → Frame → Served
done new r f = fills r f (new_edit r.store f.index)
done clone r f = fills r f (share_edit r.store (source_in r f))
done release r f = empties r f
done len r f = answers r (source_in r f).length
done get r f = answers r (item_at r (source_in r f) f.index)
done set_at r f = fills r f (set_edit r.store (source_in r f) f.index f.value)
done push_back r f = fills r f (push_edit r.store (source_in r f) f.value)
done drop_last r f = fills r f (drop_edit r.store (source_in r f))
done open_walk r f = opens r f
done next r f = takes r f false
done next_back r f = takes r f true
done close_walk r f = closes r f
done hand_over r f = fills r f (share_edit r.store (source_in r f))
done free_nodes r f = answers r r.store.free
done first r f = answers r (item_at r (source_in r f) 0)
done last r f = answers r (item_at r (source_in r f) ((source_in r f).length - 1))
done compare r f = answers r (signed (order (contents r.store.nodes (source_in r f)) (contents r.store.nodes (target_in r f))))
done unknown r f = answers r 0

-- the number of the first check that applies, or 0
unfoldable pub verdict : Run → Frame → ℕ
verdict r f = first_of (checks (op_of f) (supply_in r) f (seen_in r f))

-- fresh is the fall in free nodes: what a release gives back does not count
unfoldable pub fresh_in : Run → Run → ℕ
fresh_in before after = before.store.free - after.store.free

unfoldable pub respond : (number : ℕ) → Run → Served → Run × Answer
respond zero r d = (d.run, record { number = done_number; fresh = fresh_in r d.run; value = d.value })
respond (suc n) r d = (r, refused (suc n))

unfoldable pub serve : Run → Frame → Run × Answer
serve r f = respond (verdict r f) r (done (op_of f) r f)

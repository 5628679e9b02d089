-- A turn of an operation on a walk.
use Rattle.std.specs.Prelude.{Some, None}
use mathlib.Core.Path.{◌≡◌, refl, ap}
use mathlib.Core.Bool.{Bool, true, false, cond}
use mathlib.Core.List.{[], ◌∷◌}
use Prim.Native.Nat.{ℕ, ◌+◌, ◌-◌, ◌*◌, ◌<◌}
use native.Mathlib.Omega.{arith}
use lib.Dec.{eqb}
use lib.ListN.{set}
use Rattle.meaning.specs.Limits.{parties, walk_numbers}
use Rattle.meaning.specs.Counting.{bit}
use Rattle.meaning.specs.Lent.{WalkSlices, WalkRecord, walk_record}
use Rattle.meaning.specs.Frames.{Frame}
use Rattle.meaning.specs.Operations.{open_walk, next, next_back, close_walk, anyone, uses, giver, taker}
use Rattle.meaning.specs.Costs.{plain, priced, cost}
use Rattle.meaning.specs.Supply.{is_short}
use Rattle.meaning.specs.Checks.{no_fault, faults, any_field, nothing_there, is_full, ◌if◌, find_checks, nodes_check, first_of}
use Rattle.meaning.specs.Serve.{refused}
use Rattle.store.specs.Store.{raised}
use Rattle.sweep.specs.Sweep as sweep
use Rattle.levels.specs.Levels.{Taken}
use Rattle.walk.specs.Walk.{stepped, version_of_walk, is_ended, taken_at, taken_of, taken_by}
use Rattle.walk.specs.Walk as walk
use Rattle.frames.specs.Run.{Run, walk_place, source_in, walked_in, seen_in, supply_in}
use Rattle.frames.specs.Serve.{run, answers, opens, got_of, takes, closes, done, fresh_in, respond}
use Rattle.edits.specs.Edits.{valued}
use Rattle.calls.specs.Walks.{used_place, opened_place, acted, answer_of}
use Rattle.calls.specs.Calls.{with_walks}
use Rattle.serving.specs.States.{Runs}
use Rattle.serving.specs.Passed.{Entered, later_checks}
use Rattle.serving.proofs.Walking.{close-does}
use Rattle.answering.specs.Turned.{old_in, turned}
use Rattle.answering.proofs.Calling.{stays, no-charge, refuses}

module _ (r : Run) (f : Frame) where
  pub open-turns : opened_place f ≡ walk_place (taker f) f.destination
      → respond (first_of (later_checks open_walk (supply_in r) f (seen_in r f))) r (done open_walk r f)
      ≡ turned r f (with_walks (acted (raised r.store ((source_in r f).root ∷ [])) (old_in r f) (valued 0)) (walk.opened r.walks (opened_place f) (source_in r f)))
  unfolding later_checks find_checks nodes_check ◌if◌ first_of uses anyone any_field faults no_fault nothing_there is_full cost priced plain is_short seen_in done opens respond fresh_in
  open-turns here = let none : r.store.free - r.store.free ≡ 0 = omega arith in rw (no-charge r.store.free, none, stays r f, here)

  module _ (used : used_place f ≡ walk_place (giver f) f.slot) (here : walked_in r f ≡ walk_record r.walks (walk_place (giver f) f.slot)) where
    abbrev place : ℕ
    place = walk_place (giver f) f.slot

    -- ---- closing

    root_is : (walked_in r f).version.root ≡ (version_of_walk r.walks.numbers place).root
    unfolding version_of_walk walk_record
    root_is = ap (λ (w : WalkRecord). w.version.root) here

    pub close-turns : (k : Runs r) → taker f < parties → giver f ≡ taker f → Entered close_walk f (seen_in r f).standing
        → respond (first_of (later_checks close_walk (supply_in r) f (seen_in r f))) r (done close_walk r f)
        ≡ turned r f (with_walks (acted (sweep.release r.store (version_of_walk r.walks.numbers (used_place f)).root) (old_in r f) (valued 0)) (walk.closed r.walks (used_place f)))
    unfolding later_checks find_checks nodes_check ◌if◌ first_of uses anyone any_field faults no_fault nothing_there is_full cost priced plain is_short seen_in done respond closes
    close-turns k below own p =
        let none : fresh_in r (closes r f).run ≡ 0 = (close-does r f k below own (record { entered = p; bits = refl; there = refl; room = refl; nodes = no-charge r.store.free })).fresh in
        rw (no-charge r.store.free, none, stays r f, used, root_is)

    -- ---- taking

    ended_is : eqb ((walked_in r f).front + (walked_in r f).back) (walked_in r f).version.length ≡ is_ended r.walks.numbers place
    unfolding is_ended walk_record
    ended_is = ap (λ (w : WalkRecord). eqb (w.front + w.back) w.version.length) here

    take-turns : (back : Bool)
        → respond (cond (is_ended r.walks.numbers place) 8 0) r (takes r f back)
        ≡ turned r f
        (with_walks (acted r.store (old_in r f) (answer_of (taken_by r.store.nodes.cells r.store.nodes.used back r.walks place).answer))
        (taken_by r.store.nodes.cells r.store.nodes.used back r.walks place).slices)
    unfolding takes taken_by answer_of got_of refused respond fresh_in
    take-turns back =
        let t : Taken = taken_of r.store.nodes.cells r.store.nodes.used back r.walks place in
        let counted = set r.walks.numbers (walk_numbers * place + (4 + bit back)) (taken_at r.walks.numbers place back + 1) in
        by (is_ended r.walks.numbers place) (walk.slices counted t.levels.nodes t.levels.indices) t.element
      where
        by : (b : Bool) (ws : WalkSlices) (x : ℕ)
            → respond (cond b 8 0) r (answers (run r.store r.versions (cond b (stepped r.walks None) (stepped ws (Some x))).slices) (got_of (cond b (stepped r.walks None) (stepped ws (Some x))).answer))
            ≡ turned r f
            (with_walks (acted r.store (old_in r f) (answer_of (cond b (stepped r.walks None) (stepped ws (Some x))).answer))
            (cond b (stepped r.walks None) (stepped ws (Some x))).slices)
        by true ws x = refuses r f (answers r 0) 7
        by false ws x = let none : r.store.free - r.store.free ≡ 0 = omega arith in rw (none, stays r f)

    pub next-turns : respond (first_of (later_checks next (supply_in r) f (seen_in r f))) r (done next r f)
        ≡ turned r f
        (with_walks (acted r.store (old_in r f) (answer_of (taken_by r.store.nodes.cells r.store.nodes.used false r.walks (used_place f)).answer))
        (taken_by r.store.nodes.cells r.store.nodes.used false r.walks (used_place f)).slices)
    unfolding later_checks find_checks nodes_check ◌if◌ first_of uses anyone any_field faults no_fault nothing_there is_full cost priced plain is_short seen_in done
    next-turns = rw (no-charge r.store.free, ended_is, used) (take-turns false)

    pub next-back-turns : respond (first_of (later_checks next_back (supply_in r) f (seen_in r f))) r (done next_back r f)
        ≡ turned r f
        (with_walks (acted r.store (old_in r f) (answer_of (taken_by r.store.nodes.cells r.store.nodes.used true r.walks (used_place f)).answer))
        (taken_by r.store.nodes.cells r.store.nodes.used true r.walks (used_place f)).slices)
    unfolding later_checks find_checks nodes_check ◌if◌ first_of uses anyone any_field faults no_fault nothing_there is_full cost priced plain is_short seen_in done
    next-back-turns = rw (no-charge r.store.free, ended_is, used) (take-turns true)

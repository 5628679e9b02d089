-- A turn of an operation that edits.
use mathlib.Core.Path.{◌≡◌, refl, sym, ap, ◌∙◌}
use mathlib.Core.Bool.{Bool, true, false, cond, not, ◌&&◌}
use Prim.Native.Nat.{◌-◌, ◌<◌}
use native.Mathlib.Omega.{arith}
use lib.Dec.{leb, ltb, eqb}
use Rattle.meaning.specs.Limits.{parties, max_bits, max_length}
use Rattle.meaning.specs.Frames.{Frame}
use Rattle.meaning.specs.Operations.{Op, new, clone, release, set_at, push_back, drop_last, hand_over, anyone, host_alone, uses, giver, taker}
use Rattle.meaning.specs.Costs.{new_cost, set_cost, push_cost, drop_cost, plain, priced, cost}
use Rattle.meaning.specs.Supply.{is_short}
use Rattle.meaning.specs.Checks.{no_fault, faults, any_field, nothing_there, is_full, ◌if◌, find_checks, nodes_check, first_of}
use Rattle.meaning.proofs.Answers.{cost-le}
use Rattle.meaning.proofs.Booleans.{or-none}
use Rattle.paths.specs.Edits.{Edit, new_edit, set_edit, push_edit, drop_edit}
use Rattle.vector.specs.Calls.{new_call, set_call, push_call, drop_call}
use Rattle.vector.specs.Calls as vector
use Rattle.vector.specs.declared.Refused.TheVariants.{BadBits, NothingThere, Full, NoNodes}
use Rattle.frames.specs.Run.{Run, slot_place, source_in, seen_in, supply_in}
use Rattle.frames.specs.Serve.{Served, fills, empties, done, fresh_in, respond}
use Rattle.served.specs.Acted.{edited}
use Rattle.edits.specs.Edits.{shared_act, released_act}
use Rattle.calls.specs.Calls.{with_walks}
use Rattle.serving.specs.States.{Runs}
use Rattle.serving.specs.Passed.{Entered, later_checks}
use Rattle.serving.specs.Does.{Does}
use Rattle.serving.proofs.Filling.{new-does, set_does, push-does, drop-does}
use Rattle.serving.proofs.Releasing.{release-does}
use Rattle.answering.specs.Turned.{changed_place, old_in, turned}
use Rattle.answering.proofs.Calling.{no-charge, bad-bits, nothing-there, full, no-nodes, call-fills, share-fills}

-- what a call has copied fits a byte
copied-small : (o : Op) (r : Run) (f : Frame) (e : Edit) → Does o r f → done o r f ≡ fills r f e → r.store.free - e.store.free < 256
unfolding fresh_in fills
copied-small o r f e d h =
    let fell : r.store.free - e.store.free ≡ (cost o (seen_in r f).bits (seen_in r f).length).fresh = sym (ap (λ (x : Served). fresh_in r x.run) h) ∙ d.fresh in
    omega (arith, fell, cost-le o (seen_in r f).bits (seen_in r f).length)

module _ (r : Run) (f : Frame) (k : Runs r) (below : taker f < parties) where
  module _ (here : changed_place f ≡ slot_place (taker f) f.destination) where
    pub new-turns : Entered new f (seen_in r f).standing
        → respond (first_of (later_checks new (supply_in r) f (seen_in r f))) r (done new r f) ≡ turned r f (with_walks (edited (old_in r f) (new_call r.store f.index)) r.walks)
    unfolding later_checks find_checks nodes_check ◌if◌ first_of uses anyone any_field faults no_fault nothing_there is_full cost priced plain is_short seen_in done new_call new_edit
    new-turns p = rw (or-none (not (leb 1 f.index && leb f.index max_bits))) (by (not (leb 1 f.index && leb f.index max_bits)) (ltb r.store.free new_cost.charge) refl refl)
      where
        by : (a b : Bool) → not (leb 1 f.index && leb f.index max_bits) ≡ a → ltb r.store.free new_cost.charge ≡ b
            → respond (cond a 7 (cond b 10 0)) r (fills r f (new_edit r.store f.index))
            ≡ turned r f (with_walks (edited (old_in r f) (cond a (vector.refused r.store BadBits) (cond b (vector.refused r.store NoNodes) (vector.done r.store.free (new_edit r.store f.index))))) r.walks)
        by true b q h = bad-bits r f _
        by false true q h = no-nodes r f _
        by false false q h =
            call-fills r f _ here (new_edit r.store f.index) refl refl
            (copied-small new r f (new_edit r.store f.index) (new-does r f k below (record { entered = p; bits = or-none _ ∙ q; there = refl; room = refl; nodes = h })) refl)

    pub set-turns : Entered set_at f (seen_in r f).standing
        → respond (first_of (later_checks set_at (supply_in r) f (seen_in r f))) r (done set_at r f) ≡ turned r f (with_walks (edited (old_in r f) (set_call r.store (source_in r f) f.index f.value)) r.walks)
    unfolding later_checks find_checks nodes_check ◌if◌ first_of uses anyone any_field faults no_fault nothing_there is_full cost priced plain is_short seen_in done set_call set_edit
    set-turns p = by (leb (source_in r f).length f.index) (ltb r.store.free (set_cost (source_in r f).bits (source_in r f).length).charge) refl refl
      where
        by : (a b : Bool) → leb (source_in r f).length f.index ≡ a → ltb r.store.free (set_cost (source_in r f).bits (source_in r f).length).charge ≡ b
            → respond (cond a 8 (cond b 10 0)) r (fills r f (set_edit r.store (source_in r f) f.index f.value))
            ≡ turned r f (with_walks (edited (old_in r f) (cond a (vector.refused r.store NothingThere) (cond b (vector.refused r.store NoNodes) (vector.done r.store.free (set_edit r.store (source_in r f) f.index f.value))))) r.walks)
        by true b q h = nothing-there r f _
        by false true q h = no-nodes r f _
        by false false q h =
            call-fills r f _ here (set_edit r.store (source_in r f) f.index f.value) refl refl
            (copied-small set_at r f (set_edit r.store (source_in r f) f.index f.value) (set_does r f k below (record { entered = p; bits = refl; there = q; room = refl; nodes = h })) refl)

    pub push-turns : Entered push_back f (seen_in r f).standing
        → respond (first_of (later_checks push_back (supply_in r) f (seen_in r f))) r (done push_back r f) ≡ turned r f (with_walks (edited (old_in r f) (push_call r.store (source_in r f) f.value)) r.walks)
    unfolding later_checks find_checks nodes_check ◌if◌ first_of uses anyone any_field faults no_fault nothing_there is_full cost priced plain is_short seen_in done push_call push_edit
    push-turns p = by (leb max_length (source_in r f).length) (ltb r.store.free (push_cost (source_in r f).bits (source_in r f).length).charge) refl refl
      where
        by : (a b : Bool) → leb max_length (source_in r f).length ≡ a → ltb r.store.free (push_cost (source_in r f).bits (source_in r f).length).charge ≡ b
            → respond (cond a 9 (cond b 10 0)) r (fills r f (push_edit r.store (source_in r f) f.value))
            ≡ turned r f (with_walks (edited (old_in r f) (cond a (vector.refused r.store Full) (cond b (vector.refused r.store NoNodes) (vector.done r.store.free (push_edit r.store (source_in r f) f.value))))) r.walks)
        by true b q h = full r f _
        by false true q h = no-nodes r f _
        by false false q h =
            call-fills r f _ here (push_edit r.store (source_in r f) f.value) refl refl
            (copied-small push_back r f (push_edit r.store (source_in r f) f.value) (push-does r f k below (record { entered = p; bits = refl; there = refl; room = q; nodes = h })) refl)

    pub drop-turns : Entered drop_last f (seen_in r f).standing
        → respond (first_of (later_checks drop_last (supply_in r) f (seen_in r f))) r (done drop_last r f) ≡ turned r f (with_walks (edited (old_in r f) (drop_call r.store (source_in r f))) r.walks)
    unfolding later_checks find_checks nodes_check ◌if◌ first_of uses anyone any_field faults no_fault nothing_there is_full cost priced plain is_short seen_in done drop_call drop_edit
    drop-turns p = by (eqb (source_in r f).length 0) (ltb r.store.free (drop_cost (source_in r f).bits (source_in r f).length).charge) refl refl
      where
        by : (a b : Bool) → eqb (source_in r f).length 0 ≡ a → ltb r.store.free (drop_cost (source_in r f).bits (source_in r f).length).charge ≡ b
            → respond (cond a 8 (cond b 10 0)) r (fills r f (drop_edit r.store (source_in r f)))
            ≡ turned r f (with_walks (edited (old_in r f) (cond a (vector.refused r.store NothingThere) (cond b (vector.refused r.store NoNodes) (vector.done r.store.free (drop_edit r.store (source_in r f)))))) r.walks)
        by true b q h = nothing-there r f _
        by false true q h = no-nodes r f _
        by false false q h =
            call-fills r f _ here (drop_edit r.store (source_in r f)) refl refl
            (copied-small drop_last r f (drop_edit r.store (source_in r f)) (drop-does r f k below (record { entered = p; bits = refl; there = q; room = refl; nodes = h })) refl)

    pub clone-turns : respond (first_of (later_checks clone (supply_in r) f (seen_in r f))) r (done clone r f) ≡ turned r f (with_walks (shared_act r.store (source_in r f)) r.walks)
    unfolding later_checks find_checks nodes_check ◌if◌ first_of uses anyone any_field faults no_fault nothing_there is_full cost priced plain is_short seen_in done
    clone-turns = rw (no-charge r.store.free) (share-fills r f _ here (source_in r f) refl)

    pub hand-over-turns : respond (first_of (later_checks hand_over (supply_in r) f (seen_in r f))) r (done hand_over r f) ≡ turned r f (with_walks (shared_act r.store (source_in r f)) r.walks)
    unfolding later_checks find_checks nodes_check ◌if◌ first_of uses host_alone any_field faults no_fault nothing_there is_full cost priced plain is_short seen_in done
    hand-over-turns = rw (no-charge r.store.free) (share-fills r f _ here (source_in r f) refl)

  pub release-turns : changed_place f ≡ slot_place (taker f) f.slot → giver f ≡ taker f → Entered release f (seen_in r f).standing
      → respond (first_of (later_checks release (supply_in r) f (seen_in r f))) r (done release r f) ≡ turned r f (with_walks (released_act r.store (source_in r f)) r.walks)
  unfolding later_checks find_checks nodes_check ◌if◌ first_of uses anyone any_field faults no_fault nothing_there is_full cost priced plain is_short seen_in done respond empties released_act
  release-turns here own p =
      let none : fresh_in r (empties r f).run ≡ 0 = (release-does r f k below own (record { entered = p; bits = refl; there = refl; room = refl; nodes = no-charge r.store.free })).fresh in
      rw (no-charge r.store.free, none, here)

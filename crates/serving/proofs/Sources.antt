-- What a frame that passes its checks names: a live source, an empty target, an open walk.
use mathlib.Core.Path.{◌≡◌}
use mathlib.Core.Logic.{◌≢◌}
use Prim.Native.Nat.{◌≤◌, ◌<◌}
use native.Mathlib.Omega.{arith}
use borrow.Author.Tests.{ltb-false, eqb-true, eqb-false, not-false}
use Rattle.meaning.specs.Limits.{last_slot, last_walk, party_slots, party_walks}
use Rattle.meaning.specs.Lent.{closed_record}
use Rattle.meaning.specs.Trees.{contents}
use Rattle.meaning.specs.WellFormed.{Live, Open}
use Rattle.meaning.specs.Frames.{Frame}
use Rattle.meaning.specs.Operations.{Op, source, filled, walked, opened, uses, giver, taker}
use Rattle.meaning.specs.Costs.{cost}
use Rattle.meaning.specs.Supply.{is_short}
use Rattle.meaning.specs.Checks.{faults, source_of}
use Rattle.frames.specs.Run.{Run, source_in, target_in, walked_in, opened_in, seen_in, supply_in}
use Rattle.serving.specs.States.{Runs}
use Rattle.serving.specs.Passed.{Entered, Passed}
use Rattle.serving.specs.Does.{version_for}
use Rattle.serving.proofs.Seeing.{slot_seen, version-legal, walk-legal, version-seen, live-is, open_is, closed_is}
use Rattle.serving.proofs.Passing.{no_field}

-- the charge is there
pub charge-met : (o : Op) (r : Run) (f : Frame) → Passed o (supply_in r) f (seen_in r f) → (cost o (source_in r f).bits (source_in r f).length).charge ≤ r.store.free
unfolding is_short seen_in
charge-met o r f p = ltb-false r.store.free _ p.nodes

module _ (o : Op) (r : Run) (f : Frame) (k : Runs r) (p : Entered o f (seen_in r f).standing) where
  -- ---- a source

  pub source-within : (uses o).slot ≡ source → f.slot < party_slots
  unfolding faults
  source-within e = let h = rw e at (no_field (uses o) f _ _ p.range).slot in omega (arith, ltb-false last_slot f.slot h)

  pub source-lives : (uses o).slot ≡ source → (source_in r f).live ≡ 1
  unfolding faults seen_in
  source-lives e = let h = rw e at (no_field (uses o) f _ _ p.source).slot in eqb-true _ 1 (not-false _ h)

  pub source-live : (uses o).slot ≡ source → Live r.store.nodes (source_in r f)
  source-live e = live-is r.store.nodes (version-legal r (giver f) f.slot k) (source-lives e)

  pub source_is : (uses o).slot ≡ source → version_for r f ≡ record { bits = (source_in r f).bits; items = contents r.store.nodes (source_in r f) }
  unfolding source_of
  source_is e = rw (slot_seen r (giver f) f.slot) (version-seen r.store.nodes (source_in r f) (source-lives e))

  -- ---- a slot to be filled, or another source

  pub filled_within : (uses o).destination ≡ filled → f.destination < party_slots
  unfolding faults
  filled_within e = let h = rw e at (no_field (uses o) f _ _ p.range).destination in omega (arith, ltb-false last_slot f.destination h)

  pub filled-vacant : (uses o).destination ≡ filled → (target_in r f).live ≢ 1
  unfolding faults seen_in
  filled-vacant e = let h = rw e at (no_field (uses o) f _ _ p.target).destination in eqb-false _ 1 h

  pub other-lives : (uses o).destination ≡ source → (target_in r f).live ≡ 1
  unfolding faults seen_in
  other-lives e = let h = rw e at (no_field (uses o) f _ _ p.source).destination in eqb-true _ 1 (not-false _ h)

  -- ---- a walk

  pub walked-within : (uses o).slot ≡ walked → f.slot < party_walks
  unfolding faults
  walked-within e = let h = rw e at (no_field (uses o) f _ _ p.range).slot in omega (arith, ltb-false last_walk f.slot h)

  pub walked-open : (uses o).slot ≡ walked → Open r.store.nodes (walked_in r f)
  unfolding faults seen_in
  walked-open e = let h = rw e at (no_field (uses o) f _ _ p.source).slot in open_is r.store.nodes (walk-legal r (giver f) f.slot k) (eqb-true _ 1 (not-false _ h))

  pub opened-within : (uses o).destination ≡ opened → f.destination < party_walks
  unfolding faults
  opened-within e = let h = rw e at (no_field (uses o) f _ _ p.range).destination in omega (arith, ltb-false last_walk f.destination h)

  pub opened-closed : (uses o).destination ≡ opened → opened_in r f ≡ closed_record
  unfolding faults seen_in
  opened-closed e = let h = rw e at (no_field (uses o) f _ _ p.target).destination in closed_is r.store.nodes (walk-legal r (taker f) f.destination k) (eqb-false _ 1 h)

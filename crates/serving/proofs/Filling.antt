-- New, clone, hand-over, set, push and drop: a slot is filled.
use mathlib.Core.Path.{◌≡◌, refl, ap, ◌∙◌}
use mathlib.Core.Logic.{◌≢◌}
use mathlib.Core.List.{List, [], ◌∷◌, ◌++◌}
use Prim.Native.Nat.{ℕ, ◌+◌, ◌-◌, ◌≤◌, ◌<◌}
use native.Mathlib.Omega.{arith}
use lib.Dec.{leb}
use lib.ListN.{get_or, set, take}
use borrow.Author.Tests.{leb-true, leb-false, eqb-false, not-false}
use Rattle.meaning.specs.Limits.{parties, party_slots, max_bits, max_length}
use Rattle.meaning.specs.Lent.{VersionRecord, empty_record}
use Rattle.meaning.specs.Trees.{contents}
use Rattle.meaning.specs.WellFormed.{LegalBits}
use Rattle.meaning.specs.Frames.{Frame}
use Rattle.meaning.specs.Operations.{Op, new, clone, set_at, push_back, drop_last, hand_over, anyone, host_alone, uses, taker}
use Rattle.meaning.specs.Costs.{plain, new_cost, push_cost, set_cost, drop_cost, priced, cost}
use Rattle.meaning.specs.Checks.{no_fault, faults, nothing_there, is_full}
use Rattle.meaning.specs.Effects.{without_last, fill, effect}
use Rattle.meaning.proofs.Answers.{drop_le}
use Rattle.meaning.proofs.Booleans.{both_true}
use Rattle.lookup.proofs.Found.{contents-length}
use Rattle.paths.specs.Edits.{Edit, new_edit, share_edit, set_edit, push_edit, drop_edit}
use Rattle.trees.specs.Edited.{Edited}
use Rattle.trees.proofs.Editing.{new-edits, share-edits, set-edits, push-edits}
use Rattle.trees.proofs.Shortening.{drop-edits}
use Rattle.upkeep.proofs.Climbs.{kept-stocks}
use Rattle.upkeep.proofs.Filling.{filled_runs}
use Rattle.upkeep.proofs.Stands.{filled-table}
use Rattle.frames.specs.Run.{Run, slot_place, source_in, target_in, seen_in, supply_in}
use Rattle.frames.specs.Serve.{fills, done, fresh_in}
use Rattle.serving.specs.States.{Runs, table_in}
use Rattle.serving.specs.Passed.{Passed}
use Rattle.serving.specs.Does.{taker_in, effect_on, Does}
use Rattle.serving.proofs.Seeing.{version-here}
use Rattle.serving.proofs.Passing.{no_field}
use Rattle.serving.proofs.Sources.{charge-met, source-live, source_is, filled_within, filled-vacant}

-- ---- by any edit

module _ (r : Run) (f : Frame) (k : Runs r) (below : taker f < parties) (within : f.destination < party_slots) (vacant : (target_in r f).live ≢ 1)
    (fresh j : ℕ) (items : List ℕ) (e : Edit) (d : Edited r.store fresh j items e) where
  empty-there : (get_or r.versions (slot_place (taker f) f.destination) empty_record).live ≢ 1
  empty-there h = vacant (ap (λ (v : VersionRecord). v.live) (version-here r (taker f) f.destination below within) ∙ h)

  fills-runs : Runs (fills r f e).run
  unfolding fills
  fills-runs = filled_runs r.store r.versions r.walks k (slot_place (taker f) f.destination) (omega (arith, k.fits.versions)) empty-there fresh j items e d

  fills-table : table_in (fills r f e).run ≡ set (table_in r) (taker f) (fill (taker_in r f) f e.version.bits items)
  unfolding fills fill
  fills-table = filled-table r.store r.versions r.walks k (taker f) f.destination below within empty-there fresh j items e d

  fills-fresh : fresh_in r (fills r f e).run ≡ fresh
  unfolding fills fresh_in
  fills-fresh = omega (arith, d.free)

  fills-falls : (fills r f e).run.store.free ≤ r.store.free
  unfolding fills
  fills-falls = omega (arith, d.free)

  fills-value : (fills r f e).value ≡ 0
  unfolding fills
  fills-value = refl

  fills-does : (o : Op) → done o r f ≡ fills r f e → effect_on o r f ≡ (fill (taker_in r f) f e.version.bits items, 0) → (cost o (seen_in r f).bits (seen_in r f).length).fresh ≡ fresh → Does o r f
  fills-does o h effect c = record {
    runs = rw h fills-runs;
    table = rw (h, effect) fills-table;
    value = rw (h, effect) fills-value;
    fresh = rw (h, c) fills-fresh;
    falls = λ _ _. rw h fills-falls;
  }

-- ---- each operation

module _ (r : Run) (f : Frame) (k : Runs r) (below : taker f < parties) where
  pub new-does : Passed new (supply_in r) f (seen_in r f) → Does new r f
  unfolding uses anyone done effect cost priced new_cost plain new_edit no_fault faults
  new-does p =
      let both = both_true (leb 1 f.index) (leb f.index max_bits) (not-false _ (no_field (uses new) f (seen_in r f).standing _ p.bits).index) in
      let legal : LegalBits f.index = record { least = leb-true 1 f.index both.0; most = leb-true f.index max_bits both.1 } in
      fills-does r f k below (filled_within new r f k p.entered refl) (filled-vacant new r f k p.entered refl) new_cost.fresh 0 [] (new_edit r.store f.index)
      (new-edits r.store f.index 0 legal (kept-stocks k.kept (new_cost.fresh + 0) (omega (arith, charge-met new r f p))))
      new refl refl refl

  pub clone-does : Passed clone (supply_in r) f (seen_in r f) → Does clone r f
  unfolding uses anyone done effect cost priced plain share_edit
  clone-does p =
      let live = source-live clone r f k p.entered refl in
      fills-does r f k below (filled_within clone r f k p.entered refl) (filled-vacant clone r f k p.entered refl) 0 0 _ (share_edit r.store (source_in r f))
      (share-edits r.store (source_in r f) 0 live (kept-stocks k.kept 0 (omega arith)))
      clone refl (rw (source_is clone r f k p.entered refl)) refl

  pub hand-over-does : Passed hand_over (supply_in r) f (seen_in r f) → Does hand_over r f
  unfolding uses host_alone done effect cost priced plain share_edit
  hand-over-does p =
      let live = source-live hand_over r f k p.entered refl in
      fills-does r f k below (filled_within hand_over r f k p.entered refl) (filled-vacant hand_over r f k p.entered refl) 0 0 _ (share_edit r.store (source_in r f))
      (share-edits r.store (source_in r f) 0 live (kept-stocks k.kept 0 (omega arith)))
      hand_over refl (rw (source_is hand_over r f k p.entered refl)) refl

  pub set_does : Passed set_at (supply_in r) f (seen_in r f) → Does set_at r f
  unfolding uses anyone done effect cost priced set_cost plain set_edit nothing_there seen_in
  set_does p =
      let v : VersionRecord = source_in r f in
      let live = source-live set_at r f k p.entered refl in
      fills-does r f k below (filled_within set_at r f k p.entered refl) (filled-vacant set_at r f k p.entered refl) (set_cost v.bits v.length).fresh 0
      (set (contents r.store.nodes v) f.index f.value) (set_edit r.store v f.index f.value)
      (set-edits r.store v f.index f.value 0 live (kept-stocks k.kept ((set_cost v.bits v.length).fresh + 0) (omega (arith, charge-met set_at r f p)))
      (leb-false v.length f.index p.there))
      set_at refl (rw (source_is set_at r f k p.entered refl)) refl

  pub push-does : Passed push_back (supply_in r) f (seen_in r f) → Does push_back r f
  unfolding uses anyone done effect cost priced push_cost plain push_edit is_full seen_in
  push-does p =
      let v : VersionRecord = source_in r f in
      let live = source-live push_back r f k p.entered refl in
      fills-does r f k below (filled_within push_back r f k p.entered refl) (filled-vacant push_back r f k p.entered refl) (push_cost v.bits v.length).fresh 0
      (contents r.store.nodes v ++ (f.value ∷ [])) (push_edit r.store v f.value)
      (push-edits r.store v f.value 0 live (kept-stocks k.kept ((push_cost v.bits v.length).fresh + 0) (omega (arith, charge-met push_back r f p)))
      (leb-false max_length v.length p.room))
      push_back refl (rw (source_is push_back r f k p.entered refl)) refl

  pub drop-does : Passed drop_last (supply_in r) f (seen_in r f) → Does drop_last r f
  unfolding uses anyone done effect cost priced drop_cost drop_edit without_last nothing_there seen_in
  drop-does p =
      let v : VersionRecord = source_in r f in
      let live = source-live drop_last r f k p.entered refl in
      let some : v.length ≢ 0 = eqb-false v.length 0 p.there in
      fills-does r f k below (filled_within drop_last r f k p.entered refl) (filled-vacant drop_last r f k p.entered refl) (drop_cost v.bits v.length).fresh 0
      (take (v.length - 1) (contents r.store.nodes v)) (drop_edit r.store v)
      (drop-edits r.store v 0 live
      (kept-stocks k.kept ((drop_cost v.bits v.length).fresh + 0) (omega (arith, charge-met drop_last r f p, drop_le v.bits v.length))) (omega arith))
      drop_last refl (rw (source_is drop_last r f k p.entered refl, contents-length r.store.nodes v)) refl

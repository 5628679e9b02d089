-- Open, next, next_back and close.
use mathlib.Core.Path.{◌≡◌, refl, sym, ap, ◌∙◌}
use mathlib.Core.Logic.{◌≢◌, inr}
use mathlib.Core.Bool.{Bool, true, false, false≢true}
use mathlib.Core.List.{List, []}
use Prim.Native.Nat.{ℕ, ◌+◌, ◌≤◌, ◌<◌}
use native.Mathlib.Omega.{arith}
use lib.Dec.{eqb}
use lib.ListN.{length, set}
use Rattle.meaning.specs.Limits.{parties, party_walks}
use Rattle.meaning.specs.Lent.{WalkRecord, closed_record, walk_record}
use Rattle.meaning.specs.WellFormed.{Open}
use Rattle.meaning.specs.Table.{taking, rest, put_walk}
use Rattle.meaning.specs.Stands.{walk_of}
use Rattle.meaning.specs.Frames.{Frame}
use Rattle.meaning.specs.Operations.{Op, open_walk, next, next_back, close_walk, anyone, uses, giver, taker}
use Rattle.meaning.specs.Costs.{plain, priced, cost}
use Rattle.meaning.specs.Checks.{nothing_there, left_of}
use Rattle.meaning.specs.Effects.{effect}
use Rattle.ledger.proofs.Releasing.{release-remains}
use Rattle.walk.specs.Walk as walk
use Rattle.walk_laws.specs.Took.{Took}
use Rattle.walk_laws.proofs.Takes.{left_is, next-takes, next-back-takes}
use Rattle.walking.proofs.Records.{slices-fit}
use Rattle.walking.proofs.Opening.{opened-runs, opened-table}
use Rattle.walking.proofs.Taking.{taken_runs, taken-table}
use Rattle.walking.proofs.Closing.{closed-runs, closed-table}
use Rattle.frames.specs.Run.{Run, walk_place, walk_in, source_in, walked_in, seen_in, supply_in}
use Rattle.frames.specs.Serve.{opens, got_of, takes, closes, done, fresh_in}
use Rattle.serving.specs.States.{Runs, table_in}
use Rattle.serving.specs.Passed.{Passed}
use Rattle.serving.specs.Does.{left_for, taker_in, effect_on, Does}
use Rattle.serving.proofs.Seeing.{walk_here, walk-seen, ended-seen}
use Rattle.serving.proofs.Sources.{source-live, source_is, walked-within, walked-open, opened-within, opened-closed}

-- ---- opening

module _ (r : Run) (f : Frame) (k : Runs r) (below : taker f < parties) where
  pub open-does : Passed open_walk (supply_in r) f (seen_in r f) → Does open_walk r f
  unfolding uses anyone done effect cost priced plain opens fresh_in
  open-does p =
      let within = opened-within open_walk r f k p.entered refl in
      let live = source-live open_walk r f k p.entered refl in
      let vacant : walk_record r.walks (walk_place (taker f) f.destination) ≡ closed_record =
      sym (walk_here r (taker f) f.destination below within) ∙ opened-closed open_walk r f k p.entered refl in
      record {
        runs = opened-runs r.store r.versions r.walks k (walk_place (taker f) f.destination) (omega arith) vacant (source_in r f) live;
        table = rw (source_is open_walk r f k p.entered refl) (opened-table r.store r.versions r.walks k (taker f) f.destination below within vacant (source_in r f) live);
        value = refl;
        fresh = omega arith;
        falls = λ _ _. omega arith;
      }

-- ---- closing

module _ (r : Run) (f : Frame) (k : Runs r) (below : taker f < parties) (own : giver f ≡ taker f) where
  close-here : (f.slot < party_walks) → walked_in r f ≡ walk_record r.walks (walk_place (taker f) f.slot)
  close-here within = ap (λ (p : ℕ). walk_in r p f.slot) own ∙ walk_here r (taker f) f.slot below within

  pub close-does : Passed close_walk (supply_in r) f (seen_in r f) → Does close_walk r f
  unfolding uses anyone done effect cost priced plain closes fresh_in
  close-does p =
      let within = walked-within close_walk r f k p.entered refl in
      let here = close-here within in
      let lives : (walk_record r.walks (walk_place (taker f) f.slot)).version.live ≡ 1 = rw here at (walked-open close_walk r f k p.entered refl).version.live in
      record {
        runs = rw (here, own) (closed-runs r.store r.versions r.walks k (walk_place (taker f) f.slot) (omega arith) lives);
        table = rw (here, own) (closed-table r.store r.versions r.walks k (taker f) f.slot below within lives);
        value = refl;
        fresh = omega (arith, (release-remains r.store (walked_in r f).version.root).more);
        falls = λ _ not. absurd (not refl);
      }

-- ---- taking

module _ (r : Run) (f : Frame) (k : Runs r) (below : taker f < parties) (own : giver f ≡ taker f) (within : f.slot < party_walks)
    (opened : Open r.store.nodes (walked_in r f)) (going : eqb ((walked_in r f).front + (walked_in r f).back) (walked_in r f).version.length ≡ false) where
  walk_at : walked_in r f ≡ walk_record r.walks (walk_place (taker f) f.slot)
  walk_at = close-here r f k below own within

  left-for : left_for r f ≡ rest (walk_of r.store.nodes (walked_in r f))
  unfolding left_of
  left-for = ap rest (walk-seen r (giver f) f.slot)

  left-taking : walk_of r.store.nodes (walk_record r.walks (walk_place (taker f) f.slot)) ≡ taking (left_for r f)
  unfolding rest
  left-taking =
      let is = left_is r.store.nodes (walked_in r f) opened.version.live in
      ap (walk_of r.store.nodes) (sym walk_at) ∙ (is ∙ ap taking (sym (left-for ∙ ap rest is)))

  some_left : left_for r f ≢ []
  some_left e =
      false≢true (sym going ∙ (ended-seen r.store.nodes (walked_in r f) (inr opened) ∙ ap (λ (xs : List ℕ). eqb (length xs) 0) (sym left-for ∙ e)))

  module _ (back : Bool) (item : ℕ) (others : List ℕ) (w : WalkRecord) (same : w.version ≡ (walk_record r.walks (walk_place (taker f) f.slot)).version)
      (took : Took r.store.nodes r.walks (walk_place (taker f) f.slot) item others w (walk.taken_by r.store.nodes.cells r.store.nodes.used back r.walks (walk_place (taker f) f.slot))) where
    takes-runs : Runs (takes r f back).run
    unfolding takes
    takes-runs = rw own (taken_runs r.store r.versions r.walks k (walk_place (taker f) f.slot) (omega arith) item others w _ took same)

    takes-table : table_in (takes r f back).run ≡ set (table_in r) (taker f) (put_walk (taker_in r f) f.slot (taking others))
    unfolding takes
    takes-table = rw own (taken-table r.store r.versions r.walks (taker f) f.slot below within item others w _ took)

    takes-value : (takes r f back).value ≡ item
    unfolding takes got_of
    takes-value = rw (own, took.answer)

    takes-falls : (takes r f back).run.store.free ≤ r.store.free
    unfolding takes
    takes-falls = omega arith

    takes-fresh : fresh_in r (takes r f back).run ≡ 0
    unfolding takes fresh_in
    takes-fresh = omega arith

    takes-does : (o : Op) → done o r f ≡ takes r f back → effect_on o r f ≡ (put_walk (taker_in r f) f.slot (taking others), item) → (cost o (seen_in r f).bits (seen_in r f).length).fresh ≡ 0 → Does o r f
    takes-does o h effect c = record {
      runs = rw h takes-runs;
      table = rw (h, effect) takes-table;
      value = rw (h, effect) takes-value;
      fresh = rw (h, c) takes-fresh;
      falls = λ _ _. rw h takes-falls;
    }

module _ (r : Run) (f : Frame) (k : Runs r) (below : taker f < parties) (own : giver f ≡ taker f) where
  pub next-does : Passed next (supply_in r) f (seen_in r f) → Does next r f
  unfolding uses anyone done effect cost priced plain nothing_there seen_in
  next-does p =
      let within = walked-within next r f k p.entered refl in
      let opened = walked-open next r f k p.entered refl in
      let at = walk_at r f k below own within opened p.there in
      let took = next-takes r.store.nodes r.walks (walk_place (taker f) f.slot) (slices-fit k) (omega arith) (rw at at opened) (left_for r f)
      (left-taking r f k below own within opened p.there) (some_left r f k below own within opened p.there) in
      takes-does r f k below own within opened p.there false _ _ _ refl took next refl refl refl

  pub next-back-does : Passed next_back (supply_in r) f (seen_in r f) → Does next_back r f
  unfolding uses anyone done effect cost priced plain nothing_there seen_in
  next-back-does p =
      let within = walked-within next_back r f k p.entered refl in
      let opened = walked-open next_back r f k p.entered refl in
      let at = walk_at r f k below own within opened p.there in
      let took = next-back-takes r.store.nodes r.walks (walk_place (taker f) f.slot) (slices-fit k) (omega arith) (rw at at opened) (left_for r f)
      (left-taking r f k below own within opened p.there) (some_left r f k below own within opened p.there) in
      takes-does r f k below own within opened p.there true _ _ _ refl took next_back refl refl refl

-- Release: a slot is emptied.
use mathlib.Core.Path.{◌≡◌, refl, sym, ap, ◌∙◌}
use Prim.Native.Nat.{ℕ, ◌<◌}
use native.Mathlib.Omega.{arith}
use lib.ListN.{get_or, set}
use Rattle.meaning.specs.Limits.{parties, party_slots}
use Rattle.meaning.specs.Lent.{VersionRecord, empty_record}
use Rattle.meaning.specs.Table.{empty, put_slot}
use Rattle.meaning.specs.Frames.{Frame}
use Rattle.meaning.specs.Operations.{release, anyone, uses, giver, taker}
use Rattle.meaning.specs.Costs.{plain, priced, cost}
use Rattle.meaning.specs.Effects.{effect}
use Rattle.ledger.proofs.Releasing.{release-remains}
use Rattle.upkeep.proofs.Emptying.{emptied-runs}
use Rattle.upkeep.proofs.Stands.{emptied-table}
use Rattle.frames.specs.Run.{Run, slot_place, version_in, source_in, seen_in, supply_in}
use Rattle.frames.specs.Serve.{empties, done, fresh_in}
use Rattle.serving.specs.States.{Runs, table_in}
use Rattle.serving.specs.Passed.{Passed}
use Rattle.serving.specs.Does.{taker_in, Does}
use Rattle.serving.proofs.Seeing.{version-here}
use Rattle.serving.proofs.Sources.{source-within, source-lives}

module _ (r : Run) (f : Frame) (k : Runs r) (below : taker f < parties) (own : giver f ≡ taker f) (within : f.slot < party_slots) (lives : (source_in r f).live ≡ 1) where
  source-here : source_in r f ≡ get_or r.versions (slot_place (taker f) f.slot) empty_record
  source-here = ap (λ (p : ℕ). version_in r p f.slot) own ∙ version-here r (taker f) f.slot below within

  lives-here : (get_or r.versions (slot_place (taker f) f.slot) empty_record).live ≡ 1
  lives-here = ap (λ (v : VersionRecord). v.live) (sym source-here) ∙ lives

  empties-runs : Runs (empties r f).run
  unfolding empties
  empties-runs = rw source-here (emptied-runs r.store r.versions r.walks k (slot_place (taker f) f.slot) (omega (arith, k.fits.versions)) lives-here)

  empties-table : table_in (empties r f).run ≡ set (table_in r) (taker f) (put_slot (taker_in r f) f.slot empty)
  unfolding empties
  empties-table = rw source-here (emptied-table r.store r.versions r.walks k (taker f) f.slot below within lives-here)

  empties-fresh : fresh_in r (empties r f).run ≡ 0
  unfolding empties fresh_in
  empties-fresh = omega (arith, (release-remains r.store (source_in r f).root).more)

  empties-value : (empties r f).value ≡ 0
  unfolding empties
  empties-value = refl

module _ (r : Run) (f : Frame) (k : Runs r) (below : taker f < parties) (own : giver f ≡ taker f) where
  pub release-does : Passed release (supply_in r) f (seen_in r f) → Does release r f
  unfolding uses anyone done effect cost priced plain
  release-does p =
      let within = source-within release r f k p.entered refl in
      let lives = source-lives release r f k p.entered refl in
      record {
        runs = empties-runs r f k below own within lives;
        table = empties-table r f k below own within lives;
        value = empties-value r f k below own within lives;
        fresh = empties-fresh r f k below own within lives;
        falls = λ not _. absurd (not refl);
      }

-- A well-formed state is one that runs, and a running one is well-formed.
use mathlib.Core.Path.{◌∙◌}
use mathlib.Core.List.{List}
use native.Mathlib.Omega.{arith}
use Rattle.meaning.specs.Lent.{VersionRecord, WalkSlices, Lent, free_order}
use Rattle.meaning.specs.Links.{links}
use Rattle.meaning.specs.WellFormed.{WellFormed}
use Rattle.meaning.proofs.Sums.{occurs-none}
use Rattle.store.specs.Store.{Store}
use Rattle.ledger.specs.Kept.{store_in}
use Rattle.ledger.proofs.Reaching.{used-iff-reached, free-nodes}
use Rattle.ledger.proofs.Formed.{well-formed-keeps}
use Rattle.upkeep.specs.Running.{state_of, Running}

pub well-formed-runs : (s : Lent) → WellFormed s → Running (store_in s) s.versions s.walks
well-formed-runs s w = record { fits = w.sizes; versions = w.versions; walks = w.walks; kept = well-formed-keeps s w }

pub running-formed : (s : Store) (vs : List VersionRecord) (ws : WalkSlices) → Running s vs ws → WellFormed (state_of s vs ws)
unfolding links free_order
running-formed s vs ws r = record {
  sizes = r.fits;
  versions = r.versions;
  walks = r.walks;
  counted = r.kept.counted;
  reached = used-iff-reached r.kept;
  once = λ n. rw (free-nodes r.kept) (r.kept.ordered n ∙ omega (arith, occurs-none n));
  spare = r.kept.spare;
  free_used = λ n l e. r.kept.free_used n e;
  free_count = λ n l e. r.kept.free_count n e;
}

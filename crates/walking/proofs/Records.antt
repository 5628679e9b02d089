-- The walk records of a state in which one walk has changed, and the links from them.
use mathlib.Core.Path.{◌≡◌, refl, ap}
use mathlib.Core.Logic.{◌≢◌}
use mathlib.Core.List.{List}
use Prim.Native.Nat.{ℕ, ◌+◌, ◌<◌}
use lib.ListN.{length, get_or, set}
use Rattle.meaning.specs.Limits.{walk_count}
use Rattle.meaning.specs.Counting.{occurrences}
use Rattle.meaning.specs.Lent.{VersionRecord, empty_record, WalkSlices, WalkRecord, walk_record, walk_records}
use Rattle.meaning.specs.Links.{live_roots, roots}
use Rattle.meaning.specs.WellFormed.{SizesFit}
use Rattle.meaning.proofs.Lists.{occurs-append}
use Rattle.meaning.proofs.Rows.{rows-length, rows_at, rows-set, rows-map}
use Rattle.store.specs.Store.{Store, node_count}
use Rattle.ledger.specs.Kept.{Kept}
use Rattle.walk_laws.specs.Took.{SlicesFit}
use Rattle.upkeep.specs.Running.{state_of, Running}
use Rattle.walking.specs.Walked.{walked}

-- ---- the links

pub walked-length : (ws : WalkSlices) → length (walked ws) ≡ walk_count
unfolding walked
walked-length ws = rows-length walk_count (λ n. (walk_record ws n).version)

pub walked_at : (ws : WalkSlices) (i : ℕ) → i < walk_count → get_or (walked ws) i empty_record ≡ (walk_record ws i).version
unfolding walked
walked_at ws i l = rows_at walk_count i (λ n. (walk_record ws n).version) empty_record l

-- the links from slots, and those from walks
pub root-count : (s : Store) (vs : List VersionRecord) (ws : WalkSlices) (n : ℕ)
    → occurrences n (roots (state_of s vs ws)) ≡ occurrences n (live_roots vs) + occurrences n (live_roots (walked ws))
unfolding roots walk_records walked
root-count s vs ws n = rw (rows-map (λ (w : WalkRecord). w.version) walk_count (walk_record ws)) (occurs-append n (live_roots vs) _)

-- ---- one walk changes

module _ (ws us : WalkSlices) (i : ℕ) (inside : i < walk_count) (others : (m : ℕ) → m ≢ i → walk_record us m ≡ walk_record ws m) where
  pub walked-set : walked us ≡ set (walked ws) i (walk_record us i).version
  unfolding walked
  walked-set = rows-set walk_count (λ n. (walk_record ws n).version) (λ n. (walk_record us n).version) i _ inside refl (λ m l f. ap (λ (w : WalkRecord). w.version) (others m f))

  pub records-set : (s t : Store) (vs vs' : List VersionRecord) → walk_records (state_of t vs' us) ≡ set (walk_records (state_of s vs ws)) i (walk_record us i)
  unfolding walk_records
  records-set s t vs vs' = rows-set walk_count (walk_record ws) (walk_record us) i _ inside refl (λ m l f. others m f)

-- ---- the lent sizes

pub slices-fit : {s : Store} {vs : List VersionRecord} {ws : WalkSlices} → Running s vs ws → SlicesFit ws
slices-fit r = record { numbers = r.fits.walk_numbers; levels = record { nodes = r.fits.walk_nodes; indices = r.fits.walk_indices } }

-- a store that has as many nodes, over the same version records
pub sizes-again : {s t : Store} {vs : List VersionRecord} {ws us : WalkSlices} {rs : List ℕ} → Running s vs ws → node_count t ≡ node_count s → Kept t rs → SlicesFit us → SizesFit (state_of t vs us)
sizes-again r size k f = record {
  least = rw size r.fits.least;
  most = rw size r.fits.most;
  used = k.sized.used;
  cells = k.sized.cells;
  counts = k.sized.counts;
  order = k.sized.order;
  versions = r.fits.versions;
  walk_numbers = f.numbers;
  walk_nodes = f.levels.nodes;
  walk_indices = f.levels.indices;
}

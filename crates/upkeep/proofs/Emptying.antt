-- A slot emptied: its root loses a link, what nothing reaches any longer is given back, and every other record stays as it was.
use mathlib.Core.Path.{◌≡◌, refl, ◌∙◌}
use mathlib.Core.Logic.{inl}
use mathlib.Core.List.{List, ◌∷◌, ◌++◌, map}
use Prim.Native.Nat.{ℕ, ◌<◌}
use native.Mathlib.Omega.{arith}
use lib.ListN.{length, get_or, set, length-set}
use Rattle.meaning.specs.Counting.{occurrences}
use Rattle.meaning.specs.Lent.{VersionRecord, empty_record, WalkSlices, WalkRecord, walk_records}
use Rattle.meaning.specs.Links.{live_roots, roots}
use Rattle.meaning.specs.WellFormed.{LegalVersion}
use Rattle.meaning.proofs.Lists.{each_set, occurs-append}
use Rattle.meaning.proofs.Sums.{occurs-cons}
use Rattle.store.specs.Store.{Store}
use Rattle.sweep.specs.Sweep.{release}
use Rattle.ledger.specs.Kept.{Kept}
use Rattle.ledger.proofs.Raising.{roots-permute}
use Rattle.ledger.proofs.Releasing.{release-keeps, release-remains, release-reached}
use Rattle.trees.specs.Agreeing.{RecordsStay}
use Rattle.trees.proofs.Agreeing.{records-stay, stays-legal}
use Rattle.upkeep.specs.Running.{state_of, Running}
use Rattle.upkeep.proofs.Roots.{roots-clear}

module _ (s : Store) (vs : List VersionRecord) (ws : WalkSlices) (r : Running s vs ws) (i : ℕ) (inside : i < length vs)
    (live : (get_or vs i empty_record).live ≡ 1) where
  abbrev root : ℕ
  root = (get_or vs i empty_record).root

  abbrev after : Store
  after = release s root

  emptied-links : (n : ℕ) → occurrences n (roots (state_of s vs ws)) ≡ occurrences n (root ∷ roots (state_of after (set vs i empty_record) ws))
  unfolding roots walk_records
  emptied-links n =
      let walked = live_roots (map (λ (w : WalkRecord). w.version) (walk_records (state_of s vs ws))) in
      let rest = live_roots (set vs i empty_record) in
      omega (arith, occurs-append n (live_roots vs) walked, occurs-append n rest walked, occurs-cons n root (rest ++ walked), roots-clear n vs i inside live)

  -- before: the slot's root first
  slot-first : Kept s (root ∷ roots (state_of after (set vs i empty_record) ws))
  slot-first = roots-permute _ r.kept emptied-links

  emptied-kept : Kept after (roots (state_of after (set vs i empty_record) ws))
  emptied-kept = release-keeps slot-first

  pub emptied-stays : RecordsStay s.nodes (release s (get_or vs i empty_record).root).nodes (state_of (release s (get_or vs i empty_record).root) (set vs i empty_record) ws)
  unfolding walk_records
  emptied-stays =
      records-stay s.nodes after.nodes (state_of after (set vs i empty_record) ws) (λ n q. (release-reached slot-first q).1)
      (each_set (LegalVersion s.nodes) vs i empty_record r.versions (inl refl)) r.walks

  pub emptied-runs : Running after (set vs i empty_record) ws
  emptied-runs = record {
    fits = record {
      least = rw (release-remains s root).size r.fits.least;
      most = rw (release-remains s root).size r.fits.most;
      used = emptied-kept.sized.used;
      cells = emptied-kept.sized.cells;
      counts = emptied-kept.sized.counts;
      order = emptied-kept.sized.order;
      versions = length-set vs i empty_record ∙ r.fits.versions;
      walk_numbers = r.fits.walk_numbers;
      walk_nodes = r.fits.walk_nodes;
      walk_indices = r.fits.walk_indices;
    };
    versions = (stays-legal s.nodes after.nodes (state_of after (set vs i empty_record) ws) emptied-stays).0;
    walks = (stays-legal s.nodes after.nodes (state_of after (set vs i empty_record) ws) emptied-stays).1;
    kept = emptied-kept;
  }

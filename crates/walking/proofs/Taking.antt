-- One element taken of a walk, from either end: nothing else changes.
use mathlib.Core.Path.{◌≡◌, refl, sym, ap, ◌∙◌}
use mathlib.Core.Logic.{inr}
use mathlib.Core.List.{List}
use Prim.Native.Nat.{ℕ, ◌+◌, ◌*◌, ◌<◌}
use native.Mathlib.Omega.{arith}
use lib.ListN.{set}
use lib.Seq.{set-get_or}
use Rattle.meaning.specs.Limits.{parties, party_walks, walk_count}
use Rattle.meaning.specs.Counting.{occurrences}
use Rattle.meaning.specs.Lent.{VersionRecord, empty_record, WalkSlices, WalkRecord, walk_record, walk_records}
use Rattle.meaning.specs.Links.{live_roots, roots}
use Rattle.meaning.specs.WellFormed.{LegalWalk}
use Rattle.meaning.specs.Table.{taking, party_at, put_walk}
use Rattle.meaning.specs.Stands.{walk_of, table_of}
use Rattle.meaning.proofs.Lists.{each_set}
use Rattle.store.specs.Store.{Store}
use Rattle.ledger.specs.Kept.{Kept}
use Rattle.ledger.proofs.Raising.{roots-permute}
use Rattle.walk.specs.Walk.{Step}
use Rattle.walk_laws.specs.Took.{Took}
use Rattle.upkeep.specs.Running.{state_of, Running}
use Rattle.upkeep.proofs.Tables.{table-walk}
use Rattle.walking.specs.Walked.{walked}
use Rattle.walking.proofs.Records.{walked_at, root-count, walked-set, records-set, sizes-again}

module _ (s : Store) (vs : List VersionRecord) (ws : WalkSlices) (r : Running s vs ws) (i : ℕ) (inside : i < walk_count)
    (item : ℕ) (rest : List ℕ) (w : WalkRecord) (step : Step) (took : Took s.nodes ws i item rest w step) (same : w.version ≡ (walk_record ws i).version) where
  abbrev then : WalkSlices
  then = step.slices

  taken-walked : walked then ≡ walked ws
  taken-walked =
      walked-set ws then i inside took.others
      ∙ (ap (set (walked ws) i) (ap (λ (x : WalkRecord). x.version) took.record_is ∙ (same ∙ sym (walked_at ws i inside))) ∙ set-get_or (walked ws) i empty_record)

  taken-links : (n : ℕ) → occurrences n (roots (state_of s vs ws)) ≡ occurrences n (roots (state_of s vs then))
  taken-links n = omega (arith, root-count s vs ws n, root-count s vs then n, ap (λ us. occurrences n (live_roots us)) taken-walked)

  taken-kept : Kept s (roots (state_of s vs then))
  taken-kept = roots-permute _ r.kept taken-links

  pub taken_runs : Running s vs then
  taken_runs = record {
    fits = sizes-again r refl taken-kept took.sizes;
    versions = r.versions;
    walks = rw (records-set ws then i inside took.others s s vs vs) (each_set (LegalWalk s.nodes) (walk_records (state_of s vs ws)) i _ r.walks (inr took.legal));
    kept = taken-kept;
  }

module _ (s : Store) (vs : List VersionRecord) (ws : WalkSlices) (p n : ℕ) (lp : p < parties) (ln : n < party_walks)
    (item : ℕ) (rest : List ℕ) (w : WalkRecord) (step : Step) (took : Took s.nodes ws (party_walks * p + n) item rest w step) where
  pub taken-table : table_of (state_of s vs step.slices) ≡ set (table_of (state_of s vs ws)) p (put_walk (party_at (table_of (state_of s vs ws)) p) n (taking rest))
  taken-table =
      table-walk (state_of s vs ws) (state_of s vs step.slices) p n _ lp ln
      (λ q m lq lm f. refl) (λ q m lq lm f. ap (walk_of s.nodes) (took.others (party_walks * q + m) f)) took.walk

-- A walk closed: the root of its version loses a link, what nothing reaches any longer is given back, and every slot and every other walk stays as it was.
use mathlib.Core.Path.{◌≡◌, ap, ◌∙◌}
use mathlib.Core.Logic.{inl}
use mathlib.Core.List.{List, ◌∷◌}
use Prim.Native.Nat.{ℕ, ◌+◌, ◌*◌, ◌<◌}
use native.Mathlib.Omega.{arith}
use lib.ListN.{get_or, set}
use Rattle.meaning.specs.Limits.{parties, party_walks, walk_count}
use Rattle.meaning.specs.Counting.{occurrences}
use Rattle.meaning.specs.Lent.{VersionRecord, empty_record, WalkSlices, WalkRecord, walk_record, walk_records}
use Rattle.meaning.specs.Links.{live_roots, roots}
use Rattle.meaning.specs.WellFormed.{LegalWalk}
use Rattle.meaning.specs.Table.{closed, party_at, put_walk}
use Rattle.meaning.specs.Stands.{walk_of, table_of}
use Rattle.meaning.proofs.Lists.{each_set}
use Rattle.meaning.proofs.Sums.{occurs-cons}
use Rattle.store.specs.Store.{Store}
use Rattle.sweep.specs.Sweep.{release}
use Rattle.ledger.specs.Kept.{Kept}
use Rattle.ledger.proofs.Raising.{roots-permute}
use Rattle.ledger.proofs.Releasing.{release-keeps, release-remains, release-reached}
use Rattle.walk.specs.Walk as walk
use Rattle.walk_laws.specs.Took.{Closed}
use Rattle.walk_laws.proofs.Opening.{close-clears}
use Rattle.trees.specs.Agreeing.{RecordsStay}
use Rattle.trees.proofs.Agreeing.{records-stay, stays-legal}
use Rattle.upkeep.specs.Running.{state_of, Running}
use Rattle.upkeep.proofs.Roots.{roots-clear}
use Rattle.upkeep.proofs.Tables.{slot-stays, walk-stays, SlotsAgree, WalksAgree, nowhere, table-walk}
use Rattle.walking.specs.Walked.{walked}
use Rattle.walking.proofs.Records.{walked-length, walked_at, root-count, walked-set, records-set, slices-fit, sizes-again}

module _ (s : Store) (vs : List VersionRecord) (ws : WalkSlices) (r : Running s vs ws) (i : ℕ) (inside : i < walk_count)
    (live : (walk_record ws i).version.live ≡ 1) where
  abbrev root : ℕ
  root = (walk_record ws i).version.root

  abbrev after : Store
  after = release s root

  abbrev then : WalkSlices
  then = walk.closed ws i

  promise : Closed ws i then
  promise = close-clears ws i (slices-fit r) inside

  closed-walked : walked then ≡ set (walked ws) i empty_record
  closed-walked = walked-set ws then i inside promise.others ∙ ap (λ (w : WalkRecord). set (walked ws) i w.version) promise.record_is

  closed-links : (n : ℕ) → occurrences n (roots (state_of s vs ws)) ≡ occurrences n (root ∷ roots (state_of after vs then))
  closed-links n =
      let at : get_or (walked ws) i empty_record ≡ (walk_record ws i).version = walked_at ws i inside in
      let clear = roots-clear n (walked ws) i (omega (arith, walked-length ws)) (rw at live) in
      omega (arith, occurs-cons n root (roots (state_of after vs then)), root-count s vs ws n, root-count after vs then n, ap (λ us. occurrences n (live_roots us)) closed-walked, rw at at clear)

  -- before: the walk's root first
  walk_first : Kept s (root ∷ roots (state_of after vs then))
  walk_first = roots-permute _ r.kept closed-links

  closed-kept : Kept after (roots (state_of after vs then))
  closed-kept = release-keeps walk_first

  pub closed-stays : RecordsStay s.nodes (release s (walk_record ws i).version.root).nodes (state_of (release s (walk_record ws i).version.root) vs (walk.closed ws i))
  closed-stays =
      records-stay s.nodes after.nodes (state_of after vs then) (λ n q. (release-reached walk_first q).1) r.versions
      (rw (records-set ws then i inside promise.others s after vs vs) (each_set (LegalWalk s.nodes) (walk_records (state_of s vs ws)) i _ r.walks (inl promise.record_is)))

  pub closed-runs : Running after vs then
  closed-runs = record {
    fits = sizes-again r (release-remains s root).size closed-kept promise.sizes;
    versions = (stays-legal s.nodes after.nodes (state_of after vs then) closed-stays).0;
    walks = (stays-legal s.nodes after.nodes (state_of after vs then) closed-stays).1;
    kept = closed-kept;
  }

module _ (s : Store) (vs : List VersionRecord) (ws : WalkSlices) (r : Running s vs ws) (p n : ℕ) (lp : p < parties) (ln : n < party_walks)
    (live : (walk_record ws (party_walks * p + n)).version.live ≡ 1) where
  abbrev gone : Store
  gone = release s (walk_record ws (party_walks * p + n)).version.root

  abbrev left : WalkSlices
  left = walk.closed ws (party_walks * p + n)

  clears : Closed ws (party_walks * p + n) left
  clears = close-clears ws (party_walks * p + n) (slices-fit r) (omega arith)

  stays : RecordsStay s.nodes gone.nodes (state_of gone vs left)
  stays = closed-stays s vs ws r (party_walks * p + n) (omega arith) live

  slots-agree : SlotsAgree (state_of s vs ws) (state_of gone vs left) nowhere
  slots-agree q m lq lm f = slot-stays s.nodes gone.nodes (state_of gone vs left) stays q m

  walks-agree : WalksAgree (state_of s vs ws) (state_of gone vs left) (party_walks * p + n)
  walks-agree q m lq lm f =
      walk-stays s.nodes gone.nodes (state_of gone vs left) stays q m lq lm ∙ ap (walk_of s.nodes) (clears.others (party_walks * q + m) f)

  shut : walk_of gone.nodes (walk_record left (party_walks * p + n)) ≡ closed
  unfolding walk_of
  shut = rw clears.record_is

  pub closed-table : table_of (state_of gone vs left) ≡ set (table_of (state_of s vs ws)) p (put_walk (party_at (table_of (state_of s vs ws)) p) n closed)
  closed-table = table-walk (state_of s vs ws) (state_of gone vs left) p n closed lp ln slots-agree walks-agree shut

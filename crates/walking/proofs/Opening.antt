-- A walk opened: the root of its version has one link more, and every slot and every other walk stays as it was.
use mathlib.Core.Path.{◌≡◌, refl, sym, ap, ◌∙◌}
use mathlib.Core.Logic.{◌≢◌, inr}
use mathlib.Core.List.{List, [], ◌∷◌}
use Prim.Native.Nat.{ℕ, zero, ◌+◌, ◌*◌, ◌<◌}
use native.Mathlib.Nat.{lt_irrefl}
use native.Mathlib.Omega.{arith}
use lib.ListN.{get_or, set}
use Rattle.meaning.specs.Limits.{parties, party_walks, walk_count}
use Rattle.meaning.specs.Counting.{occurrences}
use Rattle.meaning.specs.Lent.{VersionRecord, empty_record, WalkSlices, WalkRecord, closed_record, walk_record, walk_records}
use Rattle.meaning.specs.Links.{live_roots, roots}
use Rattle.meaning.specs.Trees.{height_of, contents}
use Rattle.meaning.specs.WellFormed.{Live, LegalWalk}
use Rattle.meaning.specs.Table.{taking, party_at, put_walk}
use Rattle.meaning.specs.Stands.{walk_of, table_of}
use Rattle.meaning.proofs.Reaching.{shaped-used}
use Rattle.meaning.proofs.Lists.{each_set}
use Rattle.meaning.proofs.Sums.{occurs-cons}
use Rattle.store.specs.Store.{Store, raised}
use Rattle.ledger.specs.Kept.{Kept}
use Rattle.ledger.proofs.Raising.{roots-permute, raised-one}
use Rattle.walk.specs.Walk.{open_record, opened}
use Rattle.walk_laws.specs.Took.{Opened}
use Rattle.walk_laws.proofs.Records.{record-read}
use Rattle.walk_laws.proofs.Stored.{stored-version}
use Rattle.walk_laws.proofs.Opening.{open-takes}
use Rattle.upkeep.specs.Running.{state_of, Running}
use Rattle.upkeep.proofs.Roots.{roots-fill}
use Rattle.upkeep.proofs.Tables.{table-walk}
use Rattle.walking.specs.Walked.{walked}
use Rattle.walking.proofs.Records.{walked-length, walked_at, root-count, walked-set, records-set, slices-fit, sizes-again}

module _ (s : Store) (vs : List VersionRecord) (ws : WalkSlices) (r : Running s vs ws) (i : ℕ) (inside : i < walk_count)
    (vacant : walk_record ws i ≡ closed_record) (v : VersionRecord) (live : Live s.nodes v) where
  abbrev after : Store
  after = raised s (v.root ∷ [])

  abbrev then : WalkSlices
  then = opened ws i v

  promise : Opened s.nodes v ws i then
  promise = open-takes s.nodes ws i v (slices-fit r) inside live vacant

  version-is : (walk_record then i).version ≡ v
  unfolding opened
  version-is =
      ap (λ (w : WalkRecord). w.version) (record-read then i)
      ∙ (stored-version ws.numbers i (open_record v) r.fits.walk_numbers inside ∙ rw (← live.live))

  opened-links : (n : ℕ) → occurrences n (v.root ∷ roots (state_of s vs ws)) ≡ occurrences n (roots (state_of after vs then))
  opened-links n =
      let new : walked then ≡ set (walked ws) i v = walked-set ws then i inside promise.others ∙ ap (set (walked ws) i) version-is in
      let none : (get_or (walked ws) i empty_record).live ≢ 1 = λ e. lt_irrefl zero (omega (arith, sym e ∙ ap (λ (x : VersionRecord). x.live) (walked_at ws i inside ∙ ap (λ (w : WalkRecord). w.version) vacant))) in
      let fill = roots-fill n (walked ws) i (omega (arith, walked-length ws)) v none live.live in
      omega (arith, occurs-cons n v.root (roots (state_of s vs ws)), root-count s vs ws n, root-count after vs then n, ap (λ us. occurrences n (live_roots us)) new, fill)

  opened-kept : Kept after (roots (state_of after vs then))
  opened-kept = roots-permute _ (raised-one v.root r.kept (shaped-used s.nodes v.bits (height_of v) v.length v.root live.shape)) opened-links

  pub opened-runs : Running after vs then
  opened-runs = record {
    fits = sizes-again r refl opened-kept promise.sizes;
    versions = r.versions;
    walks = rw (records-set ws then i inside promise.others s after vs vs) (each_set (LegalWalk s.nodes) (walk_records (state_of s vs ws)) i _ r.walks (inr promise.legal));
    kept = opened-kept;
  }

module _ (s : Store) (vs : List VersionRecord) (ws : WalkSlices) (r : Running s vs ws) (p n : ℕ) (lp : p < parties) (ln : n < party_walks)
    (vacant : walk_record ws (party_walks * p + n) ≡ closed_record) (v : VersionRecord) (live : Live s.nodes v) where
  pub opened-table : table_of (state_of (raised s (v.root ∷ [])) vs (opened ws (party_walks * p + n) v))
      ≡ set (table_of (state_of s vs ws)) p (put_walk (party_at (table_of (state_of s vs ws)) p) n (taking (contents s.nodes v)))
  opened-table =
      let o = open-takes s.nodes ws (party_walks * p + n) v (slices-fit r) (omega arith) live vacant in
      table-walk (state_of s vs ws) (state_of (raised s (v.root ∷ [])) vs (opened ws (party_walks * p + n) v)) p n _ lp ln
      (λ q m lq lm f. refl) (λ q m lq lm f. ap (walk_of s.nodes) (o.others (party_walks * q + m) f)) o.walk

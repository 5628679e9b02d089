-- A slot filled by an edit: the state runs on, with the new version in it and every other one as it was.
use mathlib.Core.Path.{◌≡◌, ◌∙◌}
use mathlib.Core.Logic.{◌≢◌, inr}
use mathlib.Core.List.{List, ◌∷◌, ◌++◌, map}
use Prim.Native.Nat.{ℕ, ◌≤◌, ◌<◌}
use native.Mathlib.Omega.{arith}
use lib.ListN.{length, get_or, set, length-set}
use Rattle.meaning.specs.Counting.{occurrences}
use Rattle.meaning.specs.Lent.{Nodes, VersionRecord, empty_record, WalkSlices, WalkRecord, walk_records}
use Rattle.meaning.specs.Links.{live_roots, roots}
use Rattle.meaning.specs.WellFormed.{SizesFit, LegalVersion}
use Rattle.meaning.proofs.Lists.{each_set, occurs-append}
use Rattle.meaning.proofs.Sums.{occurs-cons}
use Rattle.store.specs.Store.{Store}
use Rattle.ledger.specs.Kept.{Kept}
use Rattle.ledger.proofs.Reaching.{reached-used}
use Rattle.ledger.proofs.Raising.{roots-permute, raised-one}
use Rattle.paths.specs.Edits.{Edit, share_edit}
use Rattle.trees.specs.Extends.{Extends}
use Rattle.trees.specs.Edited.{Rooted, made, shared, Edited}
use Rattle.trees.specs.Agreeing.{RecordsStay}
use Rattle.trees.proofs.Agreeing.{records-stay, stays-legal}
use Rattle.upkeep.specs.Running.{state_of, Running}
use Rattle.upkeep.proofs.Climbs.{climb-keeps}
use Rattle.upkeep.proofs.Roots.{roots-fill}

-- an edit keeps the invariant of the store, with the link to its root
pub rooted-keeps : {s : Store} {fresh : ℕ} {e : Edit} {rs : List ℕ} → Rooted s fresh e → Kept s rs → fresh ≤ s.free → Kept e.store (e.version.root ∷ rs)
unfolding share_edit
rooted-keeps (made bits n climb) k l = climb-keeps climb k l
rooted-keeps (shared v f) k l = raised-one v.root k f

-- every record stays as it was where nodes are only added
pub extended-stays : {s : Store} {vs : List VersionRecord} {ws : WalkSlices} {t : Nodes} → Running s vs ws → Extends s.nodes t → RecordsStay s.nodes t (state_of s vs ws)
extended-stays {s} {vs} {ws} {t} r e = records-stay s.nodes t (state_of s vs ws) (λ n q. e.same n (reached-used r.kept q)) r.versions r.walks

-- ---- the state

module _ (s : Store) (vs : List VersionRecord) (ws : WalkSlices) (r : Running s vs ws) (i : ℕ) (inside : i < length vs)
    (empty : (get_or vs i empty_record).live ≢ 1) (fresh k : ℕ) (items : List ℕ) (e : Edit) (d : Edited s fresh k items e) where
  filled-links : (n : ℕ) → occurrences n (e.version.root ∷ roots (state_of s vs ws)) ≡ occurrences n (roots (state_of e.store (set vs i e.version) ws))
  unfolding roots walk_records
  filled-links n =
      let walked = live_roots (map (λ (w : WalkRecord). w.version) (walk_records (state_of s vs ws))) in
      omega (
        arith,
        occurs-cons n e.version.root (live_roots vs ++ walked),
        occurs-append n (live_roots vs) walked,
        occurs-append n (live_roots (set vs i e.version)) walked,
        roots-fill n vs i inside e.version empty d.live.live,
      )

  filled-kept : Kept e.store (roots (state_of e.store (set vs i e.version) ws))
  filled-kept = roots-permute _ (rooted-keeps d.rooted r.kept (omega (arith, d.free))) filled-links

  filled-fits : SizesFit (state_of e.store (set vs i e.version) ws)
  filled-fits =
      let size : length e.store.nodes.kinds ≡ length s.nodes.kinds = d.extends.size in
      record {
        least = rw size r.fits.least;
        most = rw size r.fits.most;
        used = filled-kept.sized.used;
        cells = filled-kept.sized.cells;
        counts = filled-kept.sized.counts;
        order = filled-kept.sized.order;
        versions = length-set vs i e.version ∙ r.fits.versions;
        walk_numbers = r.fits.walk_numbers;
        walk_nodes = r.fits.walk_nodes;
        walk_indices = r.fits.walk_indices;
      }

  pub filled_runs : Running e.store (set vs i e.version) ws
  unfolding walk_records
  filled_runs =
      let legal = stays-legal s.nodes e.store.nodes (state_of s vs ws) (extended-stays r d.extends) in
      record {
        fits = filled-fits;
        versions = each_set (LegalVersion e.store.nodes) vs i e.version legal.0 (inr d.live);
        walks = legal.1;
        kept = filled-kept;
      }

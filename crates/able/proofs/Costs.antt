-- The copied-node count that a call answers is document 01's fresh count, by the source's bits and length alone.
use mathlib.Core.Path.{◌≡◌}
use mathlib.Core.List.{List}
use Prim.Native.Nat.{ℕ, ◌+◌, ◌-◌, ◌≤◌, ◌<◌}
use native.Mathlib.Omega.{arith}
use Rattle.meaning.specs.Limits.{max_length}
use Rattle.meaning.specs.Lent.{VersionRecord}
use Rattle.meaning.specs.Costs.{new_cost, set_cost, push_cost, drop_cost}
use Rattle.meaning.specs.WellFormed.{LegalBits, Live}
use Rattle.store.specs.Store.{Store}
use Rattle.ledger.specs.Kept.{Kept}
use Rattle.paths.specs.Edits.{Edit, new_edit, set_edit, push_edit, drop_edit}
use Rattle.trees.specs.Edited.{Edited}
use Rattle.trees.proofs.Editing.{new-edits, set-edits, push-edits}
use Rattle.trees.proofs.Shortening.{drop-edits}
use Rattle.upkeep.proofs.Climbs.{kept-stocks}

-- what a done call answers as copied: free before less free after
abbrev pub copied_by : Store → Edit → ℕ
copied_by s e = s.free - e.store.free

fell : (s : Store) (fresh k : ℕ) (items : List ℕ) (e : Edit) → Edited s fresh k items e → copied_by s e ≡ fresh
fell s fresh k items e d = omega (arith, d.free)

module _ (s : Store) (rs : List ℕ) (k : Kept s rs) where
  pub new-copied : (bits : ℕ) → LegalBits bits → new_cost.fresh ≤ s.free → copied_by s (new_edit s bits) ≡ new_cost.fresh
  new-copied bits legal l = fell s _ 0 _ _ (new-edits s bits 0 legal (kept-stocks k (new_cost.fresh + 0) (omega arith)))

  module _ (v : VersionRecord) (live : Live s.nodes v) where
    pub set-copied : (i x : ℕ) → i < v.length → (set_cost v.bits v.length).fresh ≤ s.free → copied_by s (set_edit s v i x) ≡ (set_cost v.bits v.length).fresh
    set-copied i x m l = fell s _ 0 _ _ (set-edits s v i x 0 live (kept-stocks k ((set_cost v.bits v.length).fresh + 0) (omega arith)) m)

    pub push-copied : (x : ℕ) → v.length < max_length → (push_cost v.bits v.length).fresh ≤ s.free → copied_by s (push_edit s v x) ≡ (push_cost v.bits v.length).fresh
    push-copied x m l = fell s _ 0 _ _ (push-edits s v x 0 live (kept-stocks k ((push_cost v.bits v.length).fresh + 0) (omega arith)) m)

    pub drop-copied : 1 ≤ v.length → (drop_cost v.bits v.length).fresh ≤ s.free → copied_by s (drop_edit s v) ≡ (drop_cost v.bits v.length).fresh
    drop-copied m l = fell s _ 0 _ _ (drop-edits s v 0 live (kept-stocks k ((drop_cost v.bits v.length).fresh + 0) (omega arith)) m)

-- No promise is empty: the well-formed state of two versions that share a leaf keeps all this, and one of them is released.
use mathlib.Core.Path.{◌≡◌, refl}
use mathlib.Core.List.{[], ◌∷◌}
use lib.ListN.{take}
use Rattle.meaning.specs.Limits.{free_kind, leaf_kind, branch_kind}
use Rattle.meaning.specs.Links.{roots}
use Rattle.meaning.proofs.Shared.{opened, shared, shared-well-formed}
use Rattle.cells.specs.Cells.{cells_of}
use Rattle.store.specs.Store.{Store, children_of}
use Rattle.sweep.specs.Sweep.{lower_from, lower, lowers, vacate, scan, sweep, release}
use Rattle.ledger.specs.Kept.{Kept, store_in}
use Rattle.ledger.proofs.Formed.{well-formed-keeps}
use Rattle.ledger.proofs.Releasing.{release-keeps}

pub shared_keeps : Kept (store_in shared) (roots shared)
shared_keeps = well-formed-keeps shared shared-well-formed

-- the roots are 2, 4 and 4
pub shared-roots : roots shared ≡ 2 ∷ 4 ∷ 4 ∷ []
unfolding opened
shared-roots = refl

unfoldable pub after : Store
after = release (store_in shared) 2

pub after-keeps : Kept after (4 ∷ 4 ∷ [])
unfolding opened after
after-keeps = release-keeps shared_keeps

-- the branch and its own leaf are free; the leaf that both versions had has one link left
pub after_is : (after.nodes.kinds ≡ leaf_kind ∷ free_kind ∷ free_kind ∷ leaf_kind ∷ branch_kind ∷ free_kind ∷ free_kind ∷ [])
    × (after.counts ≡ 1 ∷ 0 ∷ 0 ∷ 1 ∷ 2 ∷ 0 ∷ 0 ∷ [])
    × (take after.free after.order ≡ 6 ∷ 5 ∷ 2 ∷ 1 ∷ [])
unfolding opened after lower_from lower lowers vacate scan sweep release children_of cells_of
after_is = (refl, refl, refl)

-- What the steps of a way keep.
use mathlib.Core.Path.{◌∙◌}
use Prim.Native.Nat.{ℕ, suc, ◌+◌, max}
use native.Mathlib.Omega.{arith}
use lib.ListN.{set, length-set}
use lib.Seq.{slice}
use Rattle.meaning.specs.Limits.{leaf_kind, branch_kind}
use Rattle.store.specs.Store.{Store, raised}
use Rattle.store.specs.Answers.{others}
use Rattle.paths.specs.Paths.{Made, leaf_with, branch_with, leaf_cut, branch_cut}
use Rattle.trees.specs.Stock.{Stock}
use Rattle.trees.specs.Sources.{Tidy}
use Rattle.trees.specs.Climbs.{Climb, leaf_put, branch_put, leaf_less, branch_less}
use Rattle.trees.specs.Copied.{Copied}
use Rattle.trees.proofs.Making.{make-tidies, raised-stocks, stock-lessens}
use Rattle.trees.proofs.Steps.{leaf-copies, leaf-cut-copies, branch-cut-copies, branch-copies}
use Rattle.trees.proofs.Sharing.{put-spare, cut-spare}

pub climb-copies : (s : Store) (k : ℕ) {taken : ℕ} {r : Made} → Climb s taken r → Stock s (taken + k) → Copied s taken k r
climb-copies s k (leaf_put c b v p l) z = leaf-copies s c b v k (stock-lessens s (1 + k) (suc k) (omega arith) z) p.whole
climb-copies s k (branch_put {taken} {r} c b w p l q) z =
    let below = climb-copies s (suc k) w (stock-lessens s (suc taken + k) (taken + suc k) (omega arith) z) in
    branch-copies r c b k below.stock p.whole s taken below
climb-copies s k (leaf_less c b p l) z = leaf-cut-copies s c b k (stock-lessens s (1 + k) (suc k) (omega arith) z) p.whole
climb-copies s k (branch_less c b p l q) z = branch-cut-copies s c b k (stock-lessens s (1 + k) (suc k) (omega arith) z) p.whole

-- spare cells stay 0
pub climb-tidies : (s : Store) (k : ℕ) {taken : ℕ} {r : Made} → Climb s taken r → Stock s (taken + k) → Tidy s.nodes → Tidy r.store.nodes
unfolding leaf_with branch_with leaf_cut branch_cut
climb-tidies s k (leaf_put c b v p l) z tidy =
    make-tidies s k leaf_kind (max c.used (b + 1)) (set c.cells b v) (stock-lessens s (1 + k) (suc k) (omega arith) z) (length-set c.cells b v ∙ p.whole)
    tidy (put-spare c.cells c.used b v (p.spare tidy))
climb-tidies s k (branch_put {taken} {r} c b w p l q) z tidy =
    let rest = stock-lessens s (suc taken + k) (taken + suc k) (omega arith) z in
    let ns = others c.cells c.used b in
    make-tidies (raised r.store ns) k branch_kind (max c.used (b + 1)) (set c.cells b r.node) (raised-stocks r.store (suc k) ns (climb-copies s (suc k) w rest).stock) (length-set c.cells b r.node ∙ p.whole)
    (climb-tidies s (suc k) w rest tidy) (put-spare c.cells c.used b r.node (p.spare tidy))
climb-tidies s k (leaf_less c b p l) z tidy =
    make-tidies s k leaf_kind b (set c.cells b 0) (stock-lessens s (1 + k) (suc k) (omega arith) z) (length-set c.cells b 0 ∙ p.whole)
    tidy (cut-spare c.cells c.used b l p.whole (p.spare tidy))
climb-tidies s k (branch_less c b p l q) z tidy =
    let ns = slice 0 b c.cells in
    make-tidies (raised s ns) k branch_kind b (set c.cells b 0) (raised-stocks s (suc k) ns (stock-lessens s (1 + k) (suc k) (omega arith) z)) (length-set c.cells b 0 ∙ p.whole)
    tidy (cut-spare c.cells c.used b (omega arith) p.whole (p.spare tidy))

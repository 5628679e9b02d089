-- A copied way keeps the invariant of the store, with one link more: to the node that was made last.
use mathlib.Core.Path.{◌≡◌, ◌∙◌}
use mathlib.Core.Logic.{◌≢◌}
use mathlib.Core.List.{List, [], ◌∷◌}
use Prim.Native.Nat.{ℕ, ◌+◌, ◌≤◌, ◌<◌, max}
use native.Mathlib.Omega.{arith}
use lib.ListN.{set, length-set}
use lib.Seq.{slice}
use Rattle.meaning.specs.Limits.{node_cells, free_kind}
use Rattle.meaning.specs.Lent.{Nodes, kind_of, used_of, cell_of}
use Rattle.meaning.proofs.Sums.{occurs-none, occurs-one, each-occurs}
use Rattle.store.specs.Store.{Store}
use Rattle.store.specs.Answers.{others}
use Rattle.ledger.specs.Kept.{Kept}
use Rattle.ledger.specs.Frame.{Filled}
use Rattle.ledger.proofs.Making.{make-leaf, make-branch}
use Rattle.paths.specs.Paths.{Made, Source, leaf_with, branch_with, leaf_cut, branch_cut}
use Rattle.trees.specs.Stock.{Stock}
use Rattle.trees.specs.Climbs.{Step, Climb, leaf_put, branch_put, leaf_less, branch_less}
use Rattle.trees.specs.Copied.{Copied}
use Rattle.trees.proofs.Framing.{use-stays}
use Rattle.trees.proofs.Making.{stock-lessens}
use Rattle.trees.proofs.Stocking.{order-stocks}
use Rattle.trees.proofs.Climbs.{climb-copies}
use Rattle.trees.proofs.Sharing.{put-occurs, cut-occurs, put-spare, cut-spare, others-used, slice-used}

-- the nodes that are free are there to be taken
pub kept-stocks : {s : Store} {roots : List ℕ} → Kept s roots → (k : ℕ) → k ≤ s.free → Stock s k
kept-stocks {s} k j l = stock-lessens s s.free j l (order-stocks s k.sized k.room (λ n. k.ordered n ∙ omega (arith, occurs-none n)))

-- ---- what is written

pub put-filled : (s : Nodes) (c : Source) (b x : ℕ) → Step s c b → ((n i : ℕ) → kind_of s n ≢ free_kind → used_of s n ≤ i → i < node_cells → cell_of s n i ≡ 0) → Filled (max c.used (b + 1)) (set c.cells b x)
put-filled s c b x p tidy = record {
  fits = omega (arith, p.room, p.small);
  whole = length-set c.cells b x ∙ p.whole;
  spare = put-spare c.cells c.used b x (p.spare tidy);
}

pub cut-filled : (s : Nodes) (c : Source) (b : ℕ) → Step s c b → c.used ≤ b + 1 → ((n i : ℕ) → kind_of s n ≢ free_kind → used_of s n ≤ i → i < node_cells → cell_of s n i ≡ 0) → Filled b (set c.cells b 0)
cut-filled s c b p l tidy = record {
  fits = omega (arith, p.small);
  whole = length-set c.cells b 0 ∙ p.whole;
  spare = cut-spare c.cells c.used b l p.whole (p.spare tidy);
}

-- ---- a climb

pub climb-keeps : {s : Store} {taken : ℕ} {r : Made} {roots : List ℕ} → Climb s taken r → Kept s roots → taken ≤ s.free → Kept r.store (r.node ∷ roots)
unfolding leaf_with branch_with leaf_cut branch_cut
climb-keeps {s} {roots = roots} (leaf_put c b v p l) k some = make-leaf k some (put-filled s.nodes c b v p k.spare)
climb-keeps {s} {roots = roots} (branch_put {taken = taken} {r = r} c b climb p l linked) k some =
    let below = climb-keeps climb k (omega arith) in
    let copied : Copied s taken 0 r = climb-copies s 0 climb (kept-stocks k (taken + 0) (omega arith)) in
    make-branch (r.node ∷ []) (others c.cells c.used b) roots below (omega (arith, copied.free)) (put-filled s.nodes c b r.node p k.spare)
    (λ n. put-occurs c.cells c.used b r.node n l (omega (arith, p.room, p.whole)) (omega (arith, p.small, p.whole)) ∙ omega (arith, occurs-one n r.node))
    (λ n m. use-stays s.nodes r.store.nodes n copied.extends (each-occurs (λ x. kind_of s.nodes x ≢ free_kind) (others c.cells c.used b) n (others-used s.nodes c b l linked) m))
climb-keeps {s} {roots = roots} (leaf_less c b p l) k some = make-leaf k some (cut-filled s.nodes c b p l k.spare)
climb-keeps {s} {roots = roots} (branch_less c b p e linked) k some =
    make-branch [] (slice 0 b c.cells) roots k some (cut-filled s.nodes c b p (omega arith) k.spare)
    (λ n. cut-occurs c.cells b 0 n ∙ omega (arith, occurs-none n))
    (λ n m. each-occurs (λ x. kind_of s.nodes x ≢ free_kind) (slice 0 b c.cells) n (slice-used s.nodes c b (omega arith) linked) m)

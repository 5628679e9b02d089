-- The laws speak of something: two nodes, a new version and a push.
use mathlib.Core.Path.{◌≡◌, refl, ap, ◌∙◌}
use mathlib.Core.List.{[], ◌∷◌, ◌++◌}
use Prim.Native.Nat.{ℕ, zero, suc, ◌<◌}
use native.Mathlib.Nat.{lt_irrefl}
use native.Mathlib.Omega.{arith}
use lib.ListN.{replicate}
use Rattle.meaning.specs.Limits.{free_kind, default_bits}
use Rattle.meaning.specs.Lent.{kind_of}
use Rattle.meaning.specs.Shape.{height}
use Rattle.meaning.specs.Trees.{contents}
use Rattle.meaning.specs.WellFormed.{LegalBits}
use Rattle.meaning.specs.Costs.{plain, new_cost, push_cost}
use Rattle.store.specs.Store.{Store, store_of}
use Rattle.paths.specs.Edits.{Edit, new_edit, push_edit}
use Rattle.trees.specs.Stock.{waiting, Stock}
use Rattle.trees.proofs.Editing.{new-edits, push-edits}

abbrev sample : Store
sample = store_of (0 ∷ 0 ∷ []) (0 ∷ 0 ∷ []) (0 ∷ 0 ∷ []) (replicate 64 0) (0 ∷ 1 ∷ []) 2

sample-stock : Stock sample 2
unfolding waiting
sample-stock = record {
  sizes = record { used = refl; cells = refl; counts = refl; order = refl };
  enough = omega arith;
  within = omega arith;
  node = node;
  kind = kind;
  apart = apart;
}
  where
    node : (j : ℕ) → j < 2 → waiting sample j < 2
    node zero l = omega arith
    node (suc zero) l = omega arith
    node (suc (suc j)) l = absurd (lt_irrefl zero (omega arith))

    kind : (j : ℕ) → j < 2 → kind_of sample.nodes (waiting sample j) ≡ free_kind
    kind zero l = refl
    kind (suc zero) l = refl
    kind (suc (suc j)) l = absurd (lt_irrefl zero (omega arith))

    apart : (i j : ℕ) → i < 2 → j < 2 → waiting sample i ≡ waiting sample j → i ≡ j
    apart zero zero l m e = refl
    apart zero (suc zero) l m e = absurd (lt_irrefl zero (omega arith))
    apart (suc zero) zero l m e = absurd (lt_irrefl zero (omega arith))
    apart (suc zero) (suc zero) l m e = refl
    apart zero (suc (suc j)) l m e = absurd (lt_irrefl zero (omega arith))
    apart (suc zero) (suc (suc j)) l m e = absurd (lt_irrefl zero (omega arith))
    apart (suc (suc i)) j l m e = absurd (lt_irrefl zero (omega arith))

abbrev first : Edit
first = new_edit sample default_bits

abbrev second : Edit
second = push_edit first.store first.version 7

pub sample-holds : contents second.store.nodes second.version ≡ 7 ∷ []
unfolding new_cost push_cost plain new_edit height
sample-holds =
    let legal : LegalBits default_bits = record { least = omega arith; most = omega arith } in
    let made = new-edits sample default_bits 1 legal sample-stock in
    let pushed = push-edits first.store first.version 7 0 made.live made.stock (omega arith) in
    pushed.holds ∙ ap (λ l. l ++ (7 ∷ [])) made.holds

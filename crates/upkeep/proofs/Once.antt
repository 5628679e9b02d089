-- No fresh node is linked twice: each has a count of 1, which is the links to it.
use mathlib.Core.Path.{◌≡◌, ◌∙◌}
use mathlib.Core.Logic.{◌≢◌}
use mathlib.Core.List.{List, []}
use Prim.Native.Nat.{ℕ, ◌+◌, ◌≤◌, ◌<◌}
use native.Mathlib.Decide.{ℕ_discrete}
use native.Mathlib.Omega.{arith}
use lib.ListN.{length}
use lib.Seq.{slice, get_or-set_same, get_or-set_other}
use Rattle.meaning.specs.Limits.{leaf_kind, branch_kind, free_kind}
use Rattle.meaning.specs.Counting.{occurrences, Each}
use Rattle.meaning.specs.Lent.{Nodes, kind_of}
use Rattle.meaning.proofs.Sums.{each-occurs}
use Rattle.meaning.proofs.Nodes.{used-inside}
use Rattle.store.specs.Store.{Store, top, write_node, make, raises, raised}
use Rattle.store.specs.Answers.{others}
use Rattle.store.proofs.Raising.{raises-at, raises-length}
use Rattle.ledger.specs.Kept.{Kept, count_in}
use Rattle.ledger.proofs.Taking.{top-inside}
use Rattle.paths.specs.Paths.{Made, leaf_with, branch_with, leaf_cut, branch_cut}
use Rattle.paths.specs.Edits.{Edit, share_edit}
use Rattle.trees.specs.Climbs.{Climb, leaf_put, branch_put, leaf_less, branch_less}
use Rattle.trees.specs.Copied.{Copied}
use Rattle.trees.specs.Edited.{Rooted, made, shared}
use Rattle.trees.proofs.Climbs.{climb-copies}
use Rattle.trees.proofs.Sharing.{others-used}
use Rattle.upkeep.proofs.Climbs.{kept-stocks, climb-keeps}

-- ---- one node made, of a store whose counts were raised for some nodes in use

-- what is in use afterwards and was not before is the node made
kind-other : (s : Store) (kind u : ℕ) (a : List ℕ) (n : ℕ) → n ≢ top s → kind_of (make s kind u a).nodes n ≡ kind_of s.nodes n
unfolding make write_node
kind-other s kind u a n f = get_or-set_other s.nodes.kinds (top s) n kind free_kind f

count-made : (s : Store) (kind u : ℕ) (a : List ℕ) → top s < length s.counts → count_in (make s kind u a) (top s) ≡ 1
unfolding make
count-made s kind u a l = get_or-set_same s.counts (top s) 1 0 l

count-other : (s : Store) (kind u : ℕ) (a : List ℕ) (n : ℕ) → n ≢ top s → count_in (make s kind u a) n ≡ count_in s n
unfolding make
count-other s kind u a n f = get_or-set_other s.counts (top s) n 1 0 f

-- raising counts changes no node, and not which is taken next
made-once : (s : Store) (kind u : ℕ) (a ns : List ℕ) → top s < length s.counts → (n : ℕ) → (n ≢ top s → kind_of s.nodes n ≢ free_kind → count_in (raised s ns) n ≡ 1)
    → kind_of (make (raised s ns) kind u a).nodes n ≢ free_kind → count_in (make (raised s ns) kind u a) n ≡ 1
unfolding top
made-once s kind u a ns l n old f = pick (ℕ_discrete n (top s))
  where
    pick : Dec (n ≡ top s) → count_in (make (raised s ns) kind u a) n ≡ 1
    pick (yes e) = rw e (count-made (raised s ns) kind u a (rw raises-length l))
    pick (no g) = count-other (raised s ns) kind u a n g ∙ old g (λ e. f (kind-other (raised s ns) kind u a n g ∙ e))

-- ---- a copied way

top-counted : {s : Store} {rs : List ℕ} → Kept s rs → 0 < s.free → top s < length s.counts
top-counted k l = omega (arith, top-inside k l, k.sized.counts)

-- a node that was free is none of those that are shared
unshared : (s : Nodes) (ns : List ℕ) (n : ℕ) → Each (λ x. kind_of s x ≢ free_kind) ns → kind_of s n ≡ free_kind → occurrences n ns ≡ 0
unshared s ns n h e = pick (ℕ_discrete (occurrences n ns) 0)
  where
    pick : Dec (occurrences n ns ≡ 0) → occurrences n ns ≡ 0
    pick (yes z) = z
    pick (no f) = absurd (each-occurs (λ x. kind_of s x ≢ free_kind) ns n h (omega arith) e)

pub climb-once : {s : Store} {taken : ℕ} {r : Made} {rs : List ℕ} → Climb s taken r → Kept s rs → taken ≤ s.free
    → (n : ℕ) → kind_of s.nodes n ≡ free_kind → kind_of r.store.nodes n ≢ free_kind → count_in r.store n ≡ 1
unfolding leaf_with branch_with leaf_cut branch_cut raises
climb-once {s} (leaf_put c b v p l) k some n e f = made-once s leaf_kind _ _ [] (top-counted k some) n (λ g h. absurd (h e)) f
climb-once {s} (branch_put {taken = taken} {r = r} c b climb p l linked) k some n e f =
    let below = climb-keeps climb k (omega arith) in
    let copied : Copied s taken 0 r = climb-copies s 0 climb (kept-stocks k (taken + 0) (omega arith)) in
    made-once r.store branch_kind _ _ (others c.cells c.used b) (top-counted below (omega (arith, copied.free))) n
    (λ g h.
    let inside : n < length r.store.counts = omega (arith, used-inside r.store.nodes n h, below.sized.counts) in
    raises-at r.store.counts (others c.cells c.used b) n inside
    ∙ omega (arith, climb-once climb k (omega arith) n e h, unshared s.nodes (others c.cells c.used b) n (others-used s.nodes c b l linked) e))
    f
climb-once {s} (leaf_less c b p l) k some n e f = made-once s leaf_kind _ _ [] (top-counted k some) n (λ g h. absurd (h e)) f
climb-once {s} (branch_less c b p u linked) k some n e f =
    made-once s branch_kind _ _ (slice 0 b c.cells) (top-counted k some) n (λ g h. absurd (h e)) f

-- each fresh node of an edit has one link
pub fresh-once : {s : Store} {fresh : ℕ} {e : Edit} {rs : List ℕ} → Rooted s fresh e → Kept s rs → fresh ≤ s.free
    → (n : ℕ) → kind_of s.nodes n ≡ free_kind → kind_of e.store.nodes n ≢ free_kind → count_in e.store n ≡ 1
unfolding share_edit
fresh-once (made bits m climb) k l n e f = climb-once climb k l n e f
fresh-once (shared v g) k l n e f = absurd (f e)

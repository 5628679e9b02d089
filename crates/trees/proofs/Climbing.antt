-- Set, push and drop are climbs: the steps that each is made of.
use mathlib.Core.Path.{◌≡◌, refl}
use mathlib.Core.Logic.{◌≢◌}
use mathlib.Core.Bool.{Bool, true, false, cond}
use mathlib.Core.List.{◌∷◌}
use Prim.Native.Nat.{ℕ, zero, suc, ◌+◌, ◌-◌, ◌^◌, ◌≤◌}
use native.Mathlib.Nat.{lt_irrefl, mod_self}
use native.Mathlib.Omega.{arith}
use lib.Dec.{ltb}
use lib.ListN.{get_or, replicate}
use Rattle.meaning.specs.Limits.{node_cells, free_kind}
use Rattle.meaning.specs.Counting.{divides}
use Rattle.meaning.specs.Lent.{Nodes, kind_of}
use Rattle.meaning.specs.Shape.{degree, bucket}
use Rattle.meaning.specs.Trees.{Shaped}
use Rattle.meaning.specs.WellFormed.{LegalBits}
use Rattle.meaning.proofs.Lists.{replicate-at}
use Rattle.meaning.proofs.Reaching.{shaped-used}
use Rattle.store.specs.Store.{Store}
use Rattle.paths.specs.Paths.{Source, source, branch_with, assoc, grow, leaf_cut, branch_cut, drop_last}
use Rattle.paths.specs.Edits.{empty_leaf}
use Rattle.shape.proofs.Powers.{degree-most}
use Rattle.shape.proofs.Buckets.{bucket-below}
use Rattle.store.specs.Ready.{Sized}
use Rattle.trees.specs.Sources.{Spare, Found, LeafSource, BranchSource}
use Rattle.trees.specs.Climbs.{Step, Linked, Climb, leaf_put, branch_put, leaf_less, branch_less}
use Rattle.trees.specs.Elements.{inside, undivided}
use Rattle.trees.proofs.Digits.{inside-splits, inside-leaf, inside-below}
use Rattle.trees.proofs.Undivided.{divides-true, divides-false, undivided-step, undivided-none, undivided-leaf}
use Rattle.trees.proofs.Numbers.{put-bucket}
use Rattle.trees.proofs.Sources.{leaf-source, branch-source, child-found, blank-spare, last-used, last-child}

-- ---- the facts of a step

pub leaf-step : (s : Nodes) (bits m n i : ℕ) (c : Source) → LegalBits bits → LeafSource s bits m n c → Step s c (bucket bits 0 i)
leaf-step s bits m n i c legal q =
    let most = degree-most bits legal.most in
    let small = bucket-below bits 0 i in
    record { whole = q.whole; room = omega (arith, q.uses, q.room); small = omega arith; spare = q.spare }

pub branch-step : (s : Nodes) (bits h m n i : ℕ) (c : Source) → LegalBits bits → BranchSource s bits h m n c → Step s c (bucket bits (suc h) i)
branch-step s bits h m n i c legal q =
    let most = degree-most bits legal.most in
    let small = bucket-below bits (suc h) i in
    record { whole = q.whole; room = omega (arith, q.room); small = omega arith; spare = q.spare }

pub branch-linked : (s : Nodes) (bits h m n : ℕ) (c : Source) → BranchSource s bits h m n c → Linked s c
branch-linked s bits h m n c q i l = shaped-used s bits h _ (get_or c.cells i 0) (q.children i l)

-- ---- set and push

pub assoc-climbs : (s : Store) (bits h : ℕ) (there : Bool) (m n index v : ℕ) → LegalBits bits → Sized s → Found s.nodes bits h there m n → inside bits h index ≤ m
    → Climb s (suc h) (assoc s bits h there n index v)
unfolding assoc
assoc-climbs s bits zero there m n index v legal z p le =
    let q = leaf-source s bits there m n legal z p in
    leaf_put _ _ v (leaf-step s.nodes bits m n index _ legal q) (omega (arith, q.uses, inside-leaf bits index))
assoc-climbs s bits (suc h) there m n index v legal z p le =
    let c = source s.nodes there n in
    let b = bucket bits (suc h) index in
    let q = branch-source s bits h there m n legal z p in
    let splits = inside-splits bits h index in
    let below = inside-below bits h index in
    branch_put c b (assoc-climbs s bits h (ltb b c.used) _ (get_or c.cells b 0) index v legal z (child-found s.nodes bits h m n b c q) (omega arith))
    (branch-step s.nodes bits h m n index c legal q)
    (put-bucket (degree bits ^ suc h) c.used b (inside bits h index) m below (omega arith) q.enough)
    (branch-linked s.nodes bits h m n c q)

-- ---- a new root

pub root-spare : (root : ℕ) → Spare (root ∷ replicate (node_cells - 1) 0) 1
root-spare root zero l m = absurd (lt_irrefl zero (omega arith))
root-spare root (suc i) l m = replicate-at (node_cells - 1) i 0

pub grow-climbs : (s : Store) (bits h root index v : ℕ) → LegalBits bits → Sized s → kind_of s.nodes root ≢ free_kind → index ≡ degree bits ^ suc h
    → Climb s (suc (suc h)) (grow s bits h root index v)
unfolding grow
grow-climbs s bits h root index v legal z f full =
    let begins : inside bits h index ≡ 0 = rw full (mod_self (degree bits ^ suc h)) in
    branch_put (record { cells = root ∷ replicate (node_cells - 1) 0; used = 1 }) 1 (assoc-climbs s bits h false 0 0 index v legal z refl (omega arith))
    (record { whole = refl; room = omega arith; small = omega arith; spare = λ tidy. root-spare root })
    (omega arith)
    (λ i l. let e : i ≡ 0 = omega arith in rw e f)

-- an empty leaf is one of which nothing is kept
pub empty-climbs : (s : Store) → Climb s 1 (empty_leaf s)
unfolding empty_leaf leaf_cut
empty-climbs s =
    leaf_less (record { cells = replicate node_cells 0; used = 0 }) 0 (record { whole = refl; room = omega arith; small = omega arith; spare = λ tidy. blank-spare 0 }) (omega arith)

-- ---- drop

pub drop-climbs : (s : Store) (bits h n last : ℕ) → LegalBits bits → Sized s → Shaped s.nodes bits h (inside bits h last + 1) n → 1 ≤ inside bits h last
    → Climb s (undivided bits h last) (drop_last s bits h n last)
unfolding drop_last
drop-climbs s bits zero n last legal z p some =
    let q = leaf-source s bits true (inside bits 0 last + 1) n legal z p in
    rw (undivided-leaf bits last some) (leaf_less _ _ (leaf-step s.nodes bits _ n last _ legal q) (omega (arith, q.uses, inside-leaf bits last)))
drop-climbs s bits (suc h) n last legal z p some =
    pick (divides (degree bits ^ suc h) last) refl (λ node shape more. drop-climbs s bits h node last legal z shape more)
  where
    c : Source
    c = source s.nodes true n

    b : ℕ
    b = bucket bits (suc h) last

    q : BranchSource s.nodes bits h (inside bits (suc h) last + 1) n c
    q = branch-source s bits h true (inside bits (suc h) last + 1) n legal z p

    uses : c.used ≡ b + 1
    uses = last-used s.nodes bits h n last c q

    step : undivided bits (suc h) last ≡ suc (undivided bits h last)
    step = undivided-step bits h last some

    pick : (empty : Bool) → divides (degree bits ^ suc h) last ≡ empty
        → ((node : ℕ) → Shaped s.nodes bits h (inside bits h last + 1) node → 1 ≤ inside bits h last → Climb s (undivided bits h last) (drop_last s bits h node last))
        → Climb s (undivided bits (suc h) last) (cond empty (branch_cut s c b) (branch_with c b (drop_last s bits h (get_or c.cells b 0) last)))
    pick true e below =
        let none = undivided-none bits h last (divides-true bits h last e) in
        let one : undivided bits (suc h) last ≡ 1 = omega (arith, step) in
        rw one (branch_less c b (branch-step s.nodes bits h _ n last c legal q) uses (branch-linked s.nodes bits h _ n c q))
    pick false e below =
        rw step
        (branch_put c b (below (get_or c.cells b 0) (last-child s.nodes bits h n last c q) (divides-false bits h last e))
        (branch-step s.nodes bits h _ n last c legal q)
        (omega (arith, uses))
        (branch-linked s.nodes bits h _ n c q))

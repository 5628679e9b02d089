-- Which nodes a step links, which of them it shares, and what it leaves 0: what counts of links are made of.
use mathlib.Core.Path.{◌≡◌, refl, ap, ◌∙◌}
use mathlib.Core.Logic.{◌≢◌, ◌⊎◌, inl, inr}
use mathlib.Core.List.{List, [], ◌∷◌, ◌++◌}
use Prim.Native.Nat.{ℕ, zero, suc, ◌+◌, ◌-◌, ◌≤◌, ◌<◌, max}
use native.Mathlib.Decide.{ℕ_discrete}
use native.Mathlib.Nat.{lt_irrefl, eq-or-lt_of_le}
use native.Mathlib.Numerals.{add-one}
use native.Mathlib.Omega.{arith}
use lib.Dec.{eqb}
use lib.ListN.{length, get_or, set, take, drop, replicate, length-take, drop_of_length-le}
use lib.Seq.{slice, take-take, take-set-le, take-set-lt, take-suc-set, set_split, get_or-set_same, get_or-set_other, length-take-le}
use Rattle.meaning.specs.Limits.{node_cells, free_kind}
use Rattle.meaning.specs.Counting.{bit, occurrences, Each}
use Rattle.meaning.specs.Lent.{Nodes, kind_of}
use Rattle.meaning.proofs.Lists.{occurs-append, each_append}
use Rattle.store.specs.Answers.{others}
use Rattle.paths.specs.Paths.{Source}
use Rattle.trees.specs.Sources.{Spare}
use Rattle.trees.specs.Climbs.{Linked}

-- ---- what is shared

-- a fact of the cells from f to t
pub each-slice : (P : ℕ → Type 0) (f t : ℕ) (a : List ℕ) → ((i : ℕ) → f ≤ i → i < t → P (get_or a i 0)) → Each P (slice f t a)
each-slice P zero zero a h = tt
each-slice P zero (suc t) [] h = tt
each-slice P zero (suc t) (x ∷ xs) h = (h 0 (omega arith) (omega arith), each-slice P zero t xs (λ i l m. h (suc i) (omega arith) (omega arith)))
each-slice P (suc f) zero a h = tt
each-slice P (suc f) (suc t) [] h = tt
each-slice P (suc f) (suc t) (x ∷ xs) h = each-slice P f t xs (λ i l m. h (suc i) (omega arith) (omega arith))

pub each-other : (P : ℕ → Type 0) (a : List ℕ) (u b : ℕ) → b ≤ u → ((i : ℕ) → i < u → i ≢ b → P (get_or a i 0)) → Each P (others a u b)
each-other P a u b l h =
    each_append P (slice 0 b a) (slice (b + 1) u a)
    (each-slice P 0 b a (λ i m k. h i (omega arith) (λ e. lt_irrefl zero (omega arith))))
    (each-slice P (b + 1) u a (λ i m k. h i k (λ e. lt_irrefl zero (omega arith))))

-- each is a cell in use that is not at b
pub others-stand : (a : List ℕ) (u b : ℕ) → b ≤ u → Each (λ x. (i : ℕ) × (i < u) × (i ≢ b) × (get_or a i 0 ≡ x)) (others a u b)
others-stand a u b l = each-other _ a u b l (λ i m f. (i, m, f, refl))

-- what a branch shares is in use
pub others-used : (s : Nodes) (c : Source) (b : ℕ) → b ≤ c.used → Linked s c → Each (λ x. kind_of s x ≢ free_kind) (others c.cells c.used b)
others-used s c b l q = each-other _ c.cells c.used b l (λ i m f. q i m)

pub slice-used : (s : Nodes) (c : Source) (b : ℕ) → b ≤ c.used → Linked s c → Each (λ x. kind_of s x ≢ free_kind) (slice 0 b c.cells)
slice-used s c b l q = each-slice _ 0 b c.cells (λ i m k. q i (omega arith))

-- a new root shares the old one
pub root-shared : (root : ℕ) → others (root ∷ replicate (node_cells - 1) 0) 1 1 ≡ root ∷ []
root-shared root = refl

-- ---- what is linked

-- the cells in use of a step: those shared, and the one that is new
pub put-cells : (a : List ℕ) (u b x : ℕ) → b ≤ u → u ≤ length a → b < length a → take (max u (b + 1)) (set a b x) ≡ slice 0 b a ++ (x ∷ slice (b + 1) u a)
put-cells a u b x l within small = pick (eq-or-lt_of_le l)
  where
    pick : (b ≡ u) ⊎ (b < u) → take (max u (b + 1)) (set a b x) ≡ take b a ++ (x ∷ drop (b + 1) (take u a))
    pick (inl e) =
        let k : max u (b + 1) ≡ suc b = omega arith in
        let none : drop (b + 1) (take u a) ≡ [] = drop_of_length-le (take u a) {i = b + 1} (rw length-take (omega arith)) in
        rw (k, none) (take-suc-set a b x small)
    pick (inr m) =
        let k : max u (b + 1) ≡ u = omega arith in
        rw (k, add-one) (take-set-lt u a b x m
        ∙ set_split (take u a) b x (rw (length-take-le u a within) m)
        ∙ ap (λ y. y ++ (x ∷ drop (suc b) (take u a))) (take-take b u a l))

pub put-occurs : (a : List ℕ) (u b x n : ℕ) → b ≤ u → u ≤ length a → b < length a
    → occurrences n (take (max u (b + 1)) (set a b x)) ≡ occurrences n (others a u b) + bit (eqb x n)
unfolding occurrences
put-occurs a u b x n l within small =
    let both = occurs-append n (slice 0 b a) (slice (b + 1) u a) in
    let all = occurs-append n (slice 0 b a) (x ∷ slice (b + 1) u a) in
    rw (put-cells a u b x l within small) (omega arith)

-- the cells in use of a cut are all shared
pub cut_cells : (a : List ℕ) (b x : ℕ) → take b (set a b x) ≡ slice 0 b a
cut_cells a b x = take-set-le b a b x (omega arith)

pub cut-occurs : (a : List ℕ) (b x n : ℕ) → occurrences n (take b (set a b x)) ≡ occurrences n (slice 0 b a)
cut-occurs a b x n = ap (occurrences n) (cut_cells a b x)

-- ---- what is 0

pub put-spare : (a : List ℕ) (u b x : ℕ) → Spare a u → Spare (set a b x) (max u (b + 1))
put-spare a u b x h i l m = get_or-set_other a b i x 0 (λ e. lt_irrefl zero (omega arith)) ∙ h i (omega arith) m

pub cut-spare : (a : List ℕ) (u b : ℕ) → u ≤ b + 1 → length a ≡ node_cells → Spare a u → Spare (set a b 0) b
cut-spare a u b l whole h i m k = pick (ℕ_discrete i b)
  where
    pick : Dec (i ≡ b) → get_or (set a b 0) i 0 ≡ 0
    pick (yes e) = rw e (get_or-set_same a b 0 0 (omega arith))
    pick (no f) = get_or-set_other a b i 0 0 f ∙ h i (omega arith) k

-- A drop below a node that keeps an element: the way to the last copied without it.
use mathlib.Core.Path.{◌≡◌, refl, ap, ◌∙◌}
use mathlib.Core.Bool.{Bool, true, false, cond}
use Prim.Native.Nat.{ℕ, zero, suc, ◌+◌, ◌-◌, ◌*◌, ◌^◌, ◌≤◌, ◌<◌, min, max}
use native.Mathlib.Decide.{ℕ_discrete}
use native.Mathlib.Nat.{lt_irrefl, lt_of_mul-lt-mul_right, mul-le-mul_right}
use native.Mathlib.Omega.{arith}
use lib.ListN.{get_or, set}
use lib.Seq.{get_or-set_other}
use Rattle.meaning.specs.Limits.{branch_kind}
use Rattle.meaning.specs.Counting.{divides}
use Rattle.meaning.specs.Lent.{cell_of}
use Rattle.meaning.specs.Shape.{degree, bucket}
use Rattle.meaning.specs.Trees.{Shaped, element}
use Rattle.meaning.specs.WellFormed.{LegalBits}
use Rattle.store.specs.Store.{Store}
use Rattle.paths.specs.Paths.{Made, Source, source, branch_with, leaf_cut, branch_cut, drop_last}
use Rattle.shape.proofs.Powers.{degree-most}
use Rattle.shape.proofs.Buckets.{bucket-below}
use Rattle.trees.specs.Stock.{Stock}
use Rattle.trees.specs.Extends.{Extends}
use Rattle.trees.specs.Sources.{LeafSource, BranchSource}
use Rattle.trees.specs.Copied.{Written, Copied}
use Rattle.trees.specs.Elements.{inside, Cut, undivided}
use Rattle.trees.proofs.Digits.{inside-splits, inside-leaf, inside-below}
use Rattle.trees.proofs.Undivided.{divides-true, divides-false, undivided-step, undivided-leaf}
use Rattle.trees.proofs.Framing.{shape-stays, element-stays}
use Rattle.trees.proofs.Making.{stock-lessens}
use Rattle.trees.proofs.Sources.{leaf-source, branch-source, last-used, last-child, full-child}
use Rattle.trees.proofs.Climbs.{climb-copies}
use Rattle.trees.proofs.Climbing.{drop-climbs}
use Rattle.trees.proofs.Steps.{leaf-cut-writes, branch-cut-writes, branch-cut-copies, branch-shape, branch-new-element, branch-old-element}

-- a leaf
leaf-cuts : (s : Store) (bits n last k : ℕ) (c : Source) → LegalBits bits → Stock s (suc k) → LeafSource s.nodes bits (inside bits 0 last + 1) n c
    → Cut s.nodes bits 0 n last (leaf_cut s c (bucket bits 0 last))
unfolding Shaped element
leaf-cuts s bits n last k c legal z q =
    let most = degree-most bits legal.most in
    let w = leaf-cut-writes s c (bucket bits 0 last) k z q.whole in
    record {
      shape = record { kind = w.kinds; used = w.uses ∙ inside-leaf bits last; room = omega (arith, q.room) };
      others = λ i l.
          let small = bucket-below bits 0 i in
          let here = inside-leaf bits i in
          let end = inside-leaf bits last in
          w.cell (bucket bits 0 i) (omega arith)
          ∙ get_or-set_other c.cells (bucket bits 0 last) (bucket bits 0 i) 0 0 (λ e. lt_irrefl zero (omega arith))
          ∙ q.cell (bucket bits 0 i) (omega arith);
    }

-- ---- branches

-- the child of the last would be empty
branch-cuts : (s : Store) (bits h n last k : ℕ) (c : Source) → LegalBits bits → Stock s (suc k) → BranchSource s.nodes bits h (inside bits (suc h) last + 1) n c
    → inside bits h last ≡ 0 → 1 ≤ inside bits (suc h) last → Cut s.nodes bits (suc h) n last (branch_cut s c (bucket bits (suc h) last))
unfolding Shaped element
branch-cuts s bits h n last k c legal z q empty some = record {
  shape = record {
    kind = w.kinds;
    room = rw w.uses (omega (arith, small));
    enough = rw w.uses (omega (arith, splits));
    needed = rw w.uses (omega (arith, splits));
    children = λ i l.
        let l₂ : i < b = rw w.uses at l in
        let k₂ : min C (inside bits (suc h) last - i * C) ≡ C = omega (arith, splits, mul-le-mul_right C l₂) in
        rw (cell i l₂, k₂) (shape-stays s.nodes _ bits h C _ legal extends (full-child s.nodes bits h n last c q i l₂));
  };
  others = λ i l.
      let parts = inside-splits bits h i in
      let d : bucket bits (suc h) i < b = lt_of_mul-lt-mul_right C (omega (arith, splits)) in
      rw (cell (bucket bits (suc h) i) d)
      (element-stays s.nodes _ bits h C _ i legal extends (full-child s.nodes bits h n last c q (bucket bits (suc h) i) d) (inside-below bits h i)
      ∙ rw (q.cell (bucket bits (suc h) i) (omega (arith, last-used s.nodes bits h n last c q))));
}
  where
    C : ℕ
    C = degree bits ^ suc h

    b : ℕ
    b = bucket bits (suc h) last

    small : b < degree bits
    small = bucket-below bits (suc h) last

    splits : b * C + inside bits h last ≡ inside bits (suc h) last
    splits = inside-splits bits h last

    w : Written (branch_cut s c b).store.nodes (branch_cut s c b).node branch_kind b (set c.cells b 0)
    w = branch-cut-writes s c b k z q.whole

    extends : Extends s.nodes (branch_cut s c b).store.nodes
    extends = (branch-cut-copies s c b k z q.whole).extends

    cell : (i : ℕ) → i < b → cell_of (branch_cut s c b).store.nodes (branch_cut s c b).node i ≡ get_or c.cells i 0
    cell i l =
        w.cell i (omega (arith, small, degree-most bits legal.most))
        ∙ get_or-set_other c.cells b i 0 0 (λ e. lt_irrefl zero (omega arith))

-- the child of the last keeps an element
branch-drops : (s : Store) (bits h n last taken k : ℕ) (c : Source) (r : Made) → LegalBits bits → BranchSource s.nodes bits h (inside bits (suc h) last + 1) n c
    → 1 ≤ inside bits h last → Copied s taken (suc k) r → Cut s.nodes bits h (get_or c.cells (bucket bits (suc h) last) 0) last r
    → Cut s.nodes bits (suc h) n last (branch_with c (bucket bits (suc h) last) r)
unfolding element
branch-drops s bits h n last taken k c r legal q some copied cut = record {
  shape = branch-shape r c bits b k legal copied.stock q.whole small h _ (omega (arith, uses)) (omega (arith, uses, small))
      (rw wide (omega (arith, splits, below))) (rw wide (omega (arith, splits)))
      (rw rest cut.shape)
      (λ i l f.
      let l₂ : i < b = omega (arith, uses) in
      let k₂ : min C (inside bits (suc h) last - i * C) ≡ C = omega (arith, splits, mul-le-mul_right C l₂) in
      rw k₂ (kept i l₂));
  others = λ i l. pick i l (ℕ_discrete (bucket bits (suc h) i) b);
}
  where
    C : ℕ
    C = degree bits ^ suc h

    b : ℕ
    b = bucket bits (suc h) last

    small : b < degree bits
    small = bucket-below bits (suc h) last

    splits : b * C + inside bits h last ≡ inside bits (suc h) last
    splits = inside-splits bits h last

    below : inside bits h last < C
    below = inside-below bits h last

    uses : c.used ≡ b + 1
    uses = last-used s.nodes bits h n last c q

    wide : max c.used (b + 1) ≡ b + 1
    wide = omega (arith, uses)

    rest : min C (inside bits (suc h) last - b * C) ≡ inside bits h last
    rest = omega (arith, splits, below)

    kept : (i : ℕ) → i < b → Shaped r.store.nodes bits h C (get_or c.cells i 0)
    kept i l = shape-stays s.nodes r.store.nodes bits h C _ legal copied.extends (full-child s.nodes bits h n last c q i l)

    pick : (i : ℕ) → inside bits (suc h) i < inside bits (suc h) last → Dec (bucket bits (suc h) i ≡ b)
        → element (branch_with c b r).store.nodes bits (suc h) (branch_with c b r).node i ≡ element s.nodes bits (suc h) n i
    pick i l (yes e) =
        let same = ap (λ y. y * C) e in
        let parts = inside-splits bits h i in
        let before : inside bits h i < inside bits h last = omega (arith, splits) in
        branch-new-element r c bits b k legal copied.stock q.whole small h _ i e cut.shape before
        ∙ cut.others i before ∙ rw (q.cell b (omega (arith, uses)), e)
    pick i l (no f) =
        let parts = inside-splits bits h i in
        let d : bucket bits (suc h) i < suc b = lt_of_mul-lt-mul_right C (omega (arith, splits, below)) in
        let d₂ : bucket bits (suc h) i < b = omega arith in
        branch-old-element r c bits b k legal copied.stock q.whole small h C i f (kept (bucket bits (suc h) i) d₂) (inside-below bits h i)
        ∙ element-stays s.nodes r.store.nodes bits h C _ i legal copied.extends (full-child s.nodes bits h n last c q (bucket bits (suc h) i) d₂) (inside-below bits h i)
        ∙ rw (q.cell (bucket bits (suc h) i) (omega (arith, uses)))

-- ---- the way

pub drop-copies : (s : Store) (bits h n last k : ℕ) → LegalBits bits → Stock s (undivided bits h last + k) → Shaped s.nodes bits h (inside bits h last + 1) n → 1 ≤ inside bits h last
    → Copied s (undivided bits h last) k (drop_last s bits h n last)
drop-copies s bits h n last k legal z p some = climb-copies s k (drop-climbs s bits h n last legal z.sizes p some) z

pub drop-cuts : (s : Store) (bits h n last k : ℕ) → LegalBits bits → Stock s (undivided bits h last + k) → Shaped s.nodes bits h (inside bits h last + 1) n → 1 ≤ inside bits h last
    → Cut s.nodes bits h n last (drop_last s bits h n last)
unfolding drop_last
drop-cuts s bits zero n last k legal z p some =
    let e = undivided-leaf bits last some in
    leaf-cuts s bits n last k (source s.nodes true n) legal (stock-lessens s _ (suc k) (omega arith) z) (leaf-source s bits true (inside bits 0 last + 1) n legal z.sizes p)
drop-cuts s bits (suc h) n last k legal z p some =
    pick (divides (degree bits ^ suc h) last) refl (λ node stock shape more. drop-cuts s bits h node last (suc k) legal stock shape more)
  where
    c : Source
    c = source s.nodes true n

    b : ℕ
    b = bucket bits (suc h) last

    q : BranchSource s.nodes bits h (inside bits (suc h) last + 1) n c
    q = branch-source s bits h true (inside bits (suc h) last + 1) n legal z.sizes p

    step : undivided bits (suc h) last ≡ suc (undivided bits h last)
    step = undivided-step bits h last some

    pick : (empty : Bool) → divides (degree bits ^ suc h) last ≡ empty
        → ((node : ℕ) → Stock s (undivided bits h last + suc k) → Shaped s.nodes bits h (inside bits h last + 1) node → 1 ≤ inside bits h last
        → Cut s.nodes bits h node last (drop_last s bits h node last))
        → Cut s.nodes bits (suc h) n last (cond empty (branch_cut s c b) (branch_with c b (drop_last s bits h (get_or c.cells b 0) last)))
    pick true e below =
        branch-cuts s bits h n last k c legal (stock-lessens s _ (suc k) (omega (arith, step)) z) q (divides-true bits h last e) some
    pick false e below =
        let rest = stock-lessens s _ (undivided bits h last + suc k) (omega (arith, step)) z in
        let child = last-child s.nodes bits h n last c q in
        let more = divides-false bits h last e in
        branch-drops s bits h n last (undivided bits h last) k c _ legal q more (drop-copies s bits h _ last (suc k) legal rest child more) (below _ rest child more)

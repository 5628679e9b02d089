-- Set and push below a node: the way copied, with a value at its end.
use mathlib.Core.Path.{◌≡◌, refl, sym, ap, ◌∙◌}
use mathlib.Core.Logic.{◌≢◌}
use mathlib.Core.Bool.{Bool, false}
use Prim.Native.Nat.{ℕ, zero, suc, ◌+◌, ◌-◌, ◌*◌, ◌^◌, ◌≤◌, ◌<◌, min, max}
use native.Mathlib.Decide.{ℕ_discrete}
use native.Mathlib.Nat.{lt_of_mul-lt-mul_right}
use native.Mathlib.Omega.{arith}
use lib.Dec.{ltb}
use lib.ListN.{get_or}
use lib.Seq.{get_or-set_same, get_or-set_other}
use Rattle.meaning.specs.Shape.{degree, bucket}
use Rattle.meaning.specs.Trees.{Shaped, element}
use Rattle.meaning.specs.WellFormed.{LegalBits}
use Rattle.store.specs.Store.{Store}
use Rattle.paths.specs.Paths.{Made, Source, source, leaf_with, branch_with, assoc}
use Rattle.shape.proofs.Powers.{degree-most}
use Rattle.shape.proofs.Buckets.{bucket-below}
use Rattle.trees.specs.Stock.{Stock}
use Rattle.trees.specs.Sources.{Found, LeafSource, BranchSource}
use Rattle.trees.specs.Copied.{Copied}
use Rattle.trees.specs.Elements.{inside, Put}
use Rattle.trees.proofs.Digits.{inside-splits, inside-leaf, inside-below}
use Rattle.trees.proofs.Numbers.{put-bucket, put-enough, put-needed, put-child, put_other}
use Rattle.trees.proofs.Framing.{shape-stays, element-stays}
use Rattle.trees.proofs.Making.{stock-lessens}
use Rattle.trees.proofs.Sources.{leaf-source, branch-source, child-found}
use Rattle.trees.proofs.Climbs.{climb-copies}
use Rattle.trees.proofs.Climbing.{assoc-climbs}
use Rattle.trees.proofs.Steps.{leaf-writes, branch-shape, branch-new-element, branch-old-element}

pub assoc-copies : (s : Store) (bits h : ℕ) (there : Bool) (m n index v k : ℕ) → LegalBits bits → Stock s (suc h + k) → Found s.nodes bits h there m n → inside bits h index ≤ m
    → Copied s (suc h) k (assoc s bits h there n index v)
assoc-copies s bits h there m n index v k legal z p le = climb-copies s k (assoc-climbs s bits h there m n index v legal z.sizes p le) z

-- a leaf
leaf-puts : (s : Store) (bits m n index v k : ℕ) (c : Source) → LegalBits bits → Stock s (suc k) → LeafSource s.nodes bits m n c
    → Put s.nodes bits 0 m n index v (leaf_with s c (bucket bits 0 index) v)
unfolding Shaped element
leaf-puts s bits m n index v k c legal z q =
    let b : ℕ = bucket bits 0 index in
    let small = bucket-below bits 0 index in
    let most = degree-most bits legal.most in
    let w = leaf-writes s c b v k z q.whole in
    record {
      shape = record {
        kind = w.kinds;
        used = w.uses ∙ rw (q.uses, inside-leaf bits index);
        room = rw (sym (inside-leaf bits index)) (omega (arith, q.room));
      };
      there = w.cell b (omega arith) ∙ get_or-set_same c.cells b v 0 (omega (arith, q.whole));
      others = λ i l f.
          let below = bucket-below bits 0 i in
          w.cell (bucket bits 0 i) (omega arith)
          ∙ get_or-set_other c.cells b (bucket bits 0 i) v 0 (rw (inside-leaf bits i, inside-leaf bits index) f)
          ∙ q.cell (bucket bits 0 i) (rw (inside-leaf bits i) l);
    }

-- a branch over a child that is right
branch-puts : (s : Store) (bits h m n index v k : ℕ) (c : Source) (r : Made) → LegalBits bits → BranchSource s.nodes bits h m n c
    → inside bits (suc h) index ≤ m → Copied s (suc h) (suc k) r
    → Put s.nodes bits h (min (degree bits ^ suc h) (m - bucket bits (suc h) index * degree bits ^ suc h)) (get_or c.cells (bucket bits (suc h) index) 0) index v r
    → Put s.nodes bits (suc h) m n index v (branch_with c (bucket bits (suc h) index) r)
unfolding element
branch-puts s bits h m n index v k c r legal q le copied put = record {
  shape = shape;
  there = branch-new-element r c bits b k legal copied.stock q.whole small h _ index refl put.shape (omega arith) ∙ put.there;
  others = λ i l f. pick i l f (ℕ_discrete (bucket bits (suc h) i) b);
}
  where
    C : ℕ
    C = degree bits ^ suc h

    b : ℕ
    b = bucket bits (suc h) index

    x : ℕ
    x = inside bits h index

    small : b < degree bits
    small = bucket-below bits (suc h) index

    splits : b * C + x ≡ inside bits (suc h) index
    splits = inside-splits bits h index

    below : x < C
    below = inside-below bits h index

    next : b * C + x ≤ m
    next = rw splits le

    shape : Shaped (branch_with c b r).store.nodes bits (suc h) (max m (inside bits (suc h) index + 1)) (branch_with c b r).node
    shape = rw (← splits)
        (branch-shape r c bits b k legal copied.stock q.whole small h _
        (put-bucket C c.used b x m below next q.enough)
        (omega (arith, q.room, small))
        (put-enough C c.used b x m below next q.enough)
        (put-needed C c.used b x m below next q.enough q.needed)
        (rw (put-child C c.used b x m below next q.enough) put.shape)
        (λ i l f. rw (put_other C c.used b x m below next q.enough i f) (shape-stays s.nodes r.store.nodes bits h _ _ legal copied.extends (q.children i l))))

    pick : (i : ℕ) → inside bits (suc h) i < m → inside bits (suc h) i ≢ inside bits (suc h) index → Dec (bucket bits (suc h) i ≡ b)
        → element (branch_with c b r).store.nodes bits (suc h) (branch_with c b r).node i ≡ element s.nodes bits (suc h) n i
    pick i l f (yes e) =
        let parts = inside-splits bits h i in
        let same = ap (λ y. y * C) e in
        let within = inside-below bits h i in
        let here : b < c.used = lt_of_mul-lt-mul_right C (omega (arith, q.enough)) in
        branch-new-element r c bits b k legal copied.stock q.whole small h _ i e put.shape (omega arith)
        ∙ put.others i (omega arith) (λ d. f (omega (arith, splits))) ∙ rw (q.cell b here, e)
    pick i l f (no g) =
        let parts = inside-splits bits h i in
        let within = inside-below bits h i in
        let d : ℕ = bucket bits (suc h) i in
        let here : d < c.used = lt_of_mul-lt-mul_right C (omega (arith, q.enough)) in
        let old = q.children d here in
        branch-old-element r c bits b k legal copied.stock q.whole small h _ i g (shape-stays s.nodes r.store.nodes bits h _ _ legal copied.extends old) (omega arith)
        ∙ element-stays s.nodes r.store.nodes bits h _ _ i legal copied.extends old (omega arith) ∙ rw (q.cell d here)

-- where the node stands, and where it is not there and the index is its first
pub assoc-puts : (s : Store) (bits h : ℕ) (there : Bool) (m n index v k : ℕ) → LegalBits bits → Stock s (suc h + k) → Found s.nodes bits h there m n
    → inside bits h index ≤ m → Put s.nodes bits h m n index v (assoc s bits h there n index v)
unfolding assoc
assoc-puts s bits zero there m n index v k legal z p le =
    leaf-puts s bits m n index v k (source s.nodes there n) legal (stock-lessens s (1 + k) (suc k) (omega arith) z) (leaf-source s bits there m n legal z.sizes p)
assoc-puts s bits (suc h) there m n index v k legal z p le =
    let c = source s.nodes there n in
    let b = bucket bits (suc h) index in
    let q = branch-source s bits h there m n legal z.sizes p in
    let child = child-found s.nodes bits h m n b c q in
    let rest = stock-lessens s (suc (suc h) + k) (suc h + suc k) (omega arith) z in
    let splits = inside-splits bits h index in
    let below = inside-below bits h index in
    let copied = assoc-copies s bits h (ltb b c.used) _ (get_or c.cells b 0) index v (suc k) legal rest child (omega arith) in
    let put = assoc-puts s bits h (ltb b c.used) _ (get_or c.cells b 0) index v (suc k) legal rest child (omega arith) in
    branch-puts s bits h m n index v k c _ legal q le copied put

-- where the node is not there, one element
pub assoc-starts : (s : Store) (bits h n index v k : ℕ) → LegalBits bits → Stock s (suc h + k) → inside bits h index ≡ 0
    → (let r = assoc s bits h false n index v in Shaped r.store.nodes bits h 1 r.node × (element r.store.nodes bits h r.node index ≡ v))
assoc-starts s bits h n index v k legal z e =
    let put = assoc-puts s bits h false 0 n index v k legal z refl (omega arith) in
    let one : max 0 (inside bits h index + 1) ≡ 1 = omega arith in (rw one at put.shape, put.there)

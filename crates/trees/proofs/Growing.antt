-- A push on a full root.
use mathlib.Core.Path.{◌≡◌, refl, ◌∙◌}
use mathlib.Core.Bool.{false}
use mathlib.Core.List.{◌∷◌}
use Prim.Native.Nat.{ℕ, zero, suc, ◌+◌, ◌-◌, ◌*◌, ◌^◌, ◌≤◌, ◌<◌, min, max}
use native.Mathlib.Nat.{mod_self, lt_irrefl, lt_of_mul-lt-mul_right, eq_of_mul-eq-mul_right}
use native.Mathlib.Omega.{arith}
use lib.ListN.{replicate}
use Rattle.meaning.specs.Limits.{node_cells}
use Rattle.meaning.specs.Shape.{degree, bucket}
use Rattle.meaning.specs.Trees.{Shaped}
use Rattle.meaning.specs.WellFormed.{LegalBits}
use Rattle.meaning.proofs.Reaching.{shaped-used}
use Rattle.store.specs.Store.{Store}
use Rattle.paths.specs.Paths.{Made, Source, assoc, grow}
use Rattle.shape.proofs.Powers.{degree-least, power-positive, power-doubles}
use Rattle.trees.specs.Stock.{Stock}
use Rattle.trees.specs.Copied.{Copied}
use Rattle.trees.specs.Elements.{inside, Put, Grown}
use Rattle.trees.proofs.Digits.{inside-splits, inside_is}
use Rattle.trees.proofs.Framing.{shape-stays, element-stays}
use Rattle.trees.proofs.Making.{stock-lessens}
use Rattle.trees.proofs.Climbs.{climb-copies}
use Rattle.trees.proofs.Climbing.{grow-climbs}
use Rattle.trees.proofs.Steps.{branch-shape, branch-new-element, branch-old-element}
use Rattle.trees.proofs.Putting.{assoc-copies, assoc-puts}

-- the first index beyond a full root is in the second child of the new one
first-beyond : (bits h : ℕ) → LegalBits bits → bucket bits (suc h) (degree bits ^ suc h) ≡ 1
first-beyond bits h legal =
    let c : ℕ = degree bits ^ suc h in
    let some = power-positive bits (suc h) in
    let more = power-doubles bits (suc h) legal.least in
    let splits = inside-splits bits h c in
    let whole = inside_is bits (suc h) c (omega arith) in
    eq_of_mul-eq-mul_right c some (bucket bits (suc h) c) 1 (omega (arith, mod_self c))

-- and what the root held is in the first
pub all-before : (bits h i : ℕ) → LegalBits bits → i < degree bits ^ suc h → bucket bits (suc h) i ≡ 0
all-before bits h i legal l =
    let c : ℕ = degree bits ^ suc h in
    let more = power-doubles bits (suc h) legal.least in
    let splits = inside-splits bits h i in
    let whole = inside_is bits (suc h) i (omega arith) in
    let first : bucket bits (suc h) i < 1 = lt_of_mul-lt-mul_right c (omega arith) in
    omega arith

pub grow-copies : (s : Store) (bits h root index v k : ℕ) → LegalBits bits → Stock s (suc (suc h) + k) → index ≡ degree bits ^ suc h → Shaped s.nodes bits h index root
    → Copied s (suc (suc h)) k (grow s bits h root index v)
grow-copies s bits h root index v k legal z full p = climb-copies s k (grow-climbs s bits h root index v legal z.sizes (shaped-used s.nodes bits h index root p) full) z

pub grow-grows : (s : Store) (bits h root index v k : ℕ) → LegalBits bits → Stock s (suc (suc h) + k) → index ≡ degree bits ^ suc h → Shaped s.nodes bits h index root
    → Grown s.nodes bits h root index v (grow s bits h root index v)
unfolding grow
grow-grows s bits h root index v k legal z full p = record {
  shape = branch-shape r c bits 1 k legal copied.stock refl small h (index + 1) (omega arith) (omega (arith, small))
      (omega (arith, some)) (omega arith)
      (rw one put.shape)
      (λ i l f. let e : i ≡ 0 = omega arith in rw (e, kept) (shape-stays s.nodes r.store.nodes bits h index root legal copied.extends p));
  there = branch-new-element r c bits 1 k legal copied.stock refl small h _ index (rw full (first-beyond bits h legal)) put.shape (omega arith) ∙ put.there;
  others = λ i l.
      let first = all-before bits h i legal (rw (← full) l) in
      let same = inside_is bits h i (rw (← full) l) in
      branch-old-element r c bits 1 k legal copied.stock refl small h index i (λ e. lt_irrefl zero (omega arith)) (rw first (shape-stays s.nodes r.store.nodes bits h index root legal copied.extends p)) (omega arith)
      ∙ rw first (element-stays s.nodes r.store.nodes bits h index root i legal copied.extends p (omega arith));
}
  where
    C : ℕ
    C = degree bits ^ suc h

    c : Source
    c = record { cells = root ∷ replicate (node_cells - 1) 0; used = 1 }

    r : Made
    r = assoc s bits h false 0 index v

    rest : Stock s (suc h + suc k)
    rest = stock-lessens s (suc (suc h) + k) (suc h + suc k) (omega arith) z

    begins : inside bits h index ≡ 0
    begins = rw full (mod_self C)

    copied : Copied s (suc h) (suc k) r
    copied = assoc-copies s bits h false 0 0 index v (suc k) legal rest refl (omega (arith, begins))

    put : Put s.nodes bits h 0 0 index v r
    put = assoc-puts s bits h false 0 0 index v (suc k) legal rest refl (omega (arith, begins))

    small : 1 < degree bits
    small = degree-least bits legal.least

    some : 1 ≤ C
    some = power-positive bits (suc h)

    one : min C (index + 1 - 1 * C) ≡ max 0 (inside bits h index + 1)
    one = omega (arith, begins, some)

    kept : min C (index + 1 - 0 * C) ≡ index
    kept = omega arith

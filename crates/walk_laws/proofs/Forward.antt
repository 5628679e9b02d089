-- Forwards: a step takes the way to an index to the way to the next.
use mathlib.Core.Path.{◌≡◌, sym, ap, ◌∙◌}
use mathlib.Core.Bool.{true, false}
use mathlib.Core.List.{List, [], ◌∷◌, ◌++◌, append_assoc}
use Prim.Native.Nat.{ℕ, zero, suc, ◌+◌, ◌-◌, ◌*◌, ◌^◌, ◌≤◌, ◌<◌, min}
use native.Mathlib.Decide.{dec_lt}
use native.Mathlib.Nat.{suc-mul, lt_of_not-le}
use native.Mathlib.Numerals.{add-one}
use native.Mathlib.Omega.{arith}
use Rattle.meaning.specs.Limits.{max_bits, node_cells}
use Rattle.meaning.specs.Lent.{Nodes, cell_of, used_of, Level}
use Rattle.meaning.specs.Shape.{degree}
use Rattle.meaning.specs.Trees.{Shaped}
use Rattle.meaning.specs.Walks.{way}
use Rattle.shape.proofs.Powers.{degree-most, power-positive}
use Rattle.index.specs.Index.{first, place}
use Rattle.walk_laws.specs.Stack.{Moved, moves, current, begun, digging, renewing, advancing}
use Rattle.walk_laws.proofs.Ways.{at, bucket-zero, Part, part, less, way_at, way-leaf}
use Rattle.walk_laws.proofs.Steps.{renewing-twice, fore-on, fore-end}

module _ (s : Nodes) (bits : ℕ) (few : bits ≤ max_bits) where
  abbrev step : List Level → Moved
  step = advancing s.cells s.used false

  cells-few : degree bits ≤ node_cells
  cells-few = degree-most bits few

  -- from a node down to its first element
  pub digs-first : (h n : ℕ) (acc : List Level) → digging s.cells s.used false h (begun s.used false n ∷ acc) ≡ way s bits h n 0 ++ acc
  unfolding way digging current place first
  digs-first zero n acc = rw (bucket-zero bits 0)
  digs-first (suc h) n acc =
      rw (bucket-zero bits (suc h)) (digs-first h (cell_of s n 0) (at n 0 ∷ acc) ∙ sym (append_assoc (way s bits h (cell_of s n 0) 0) (at n 0 ∷ []) acc))

  -- after the last element all levels have finished
  pub finishes-last : (h m n i : ℕ) (acc : List Level) → Shaped s bits h m n → i + 1 ≡ m → step (way s bits h n i ++ acc) ≡ renewing s.cells s.used false (suc h) (step acc)
  unfolding Shaped
  finishes-last zero m n i acc z l = rw (way-leaf s bits m n i acc z (omega arith)) (fore-end s.cells s.used n i acc (omega (arith, z.used, z.room, cells-few)) (omega (arith, z.used)))
  finishes-last (suc h) m n i acc z l =
      let p = part s bits h m n i z (omega arith) in
      let D : ℕ = degree bits ^ suc h in
      let one = suc-mul p.child D in
      let two = suc-mul (suc p.child) D in
      let last : used_of s n < suc (suc p.child) = less (used_of s n) (suc (suc p.child)) D (omega (arith, z.needed, p.is, p.within, p.below)) in
      rw (way_at s bits h n p.child p.rest i acc p.below p.is (omega (arith, p.used, z.room)))
      (finishes-last h _ (cell_of s n p.child) p.rest (at n p.child ∷ acc) p.shape (omega (arith, p.is, p.within))
      ∙ (ap (renewing s.cells s.used false (suc h)) (fore-end s.cells s.used n p.child acc (omega (arith, z.room, cells-few)) (omega (arith, p.used)))
      ∙ renewing-twice s.cells s.used false (suc h) (step acc).stack (step acc).on))

  -- into the next child
  crosses : (h m n i : ℕ) (acc : List Level) → Shaped s bits (suc h) m n → i + 1 < m → (p : Part s bits h m n i)
      → p.rest + 1 ≡ min (degree bits ^ suc h) (m - p.child * degree bits ^ suc h)
      → step (way s bits (suc h) n i ++ acc) ≡ moves (way s bits (suc h) n (i + 1) ++ acc) true
  unfolding Shaped renewing digging current place
  crosses h m n i acc z l p w =
      let D : ℕ = degree bits ^ suc h in
      let one = suc-mul p.child D in
      let u : suc p.child < used_of s n = less (suc p.child) (used_of s n) D (omega (arith, z.enough, p.is)) in
      let next : i + 1 ≡ (p.child + 1) * D + 0 = rw (add-one p.child) (omega (arith, p.is)) in
      rw (
        way_at s bits h n p.child p.rest i acc p.below p.is (omega (arith, p.used, z.room)),
        way_at s bits h n (p.child + 1) 0 (i + 1) acc (power-positive bits (suc h)) next (omega (arith, z.room)),
      )
      (finishes-last h _ (cell_of s n p.child) p.rest (at n p.child ∷ acc) p.shape w
      ∙ (ap (renewing s.cells s.used false (suc h)) (fore-on s.cells s.used n p.child acc (omega (arith, z.room, cells-few)) (omega arith))
      ∙ ap (λ (st : List Level). moves st true) (digs-first h (cell_of s n (p.child + 1)) (at n (p.child + 1) ∷ acc))))

  within-child : (h m n i : ℕ) (acc : List Level) → Shaped s bits (suc h) m n → i + 1 < m → (p : Part s bits h m n i)
      → Dec (p.rest + 1 < min (degree bits ^ suc h) (m - p.child * degree bits ^ suc h))
      → (p.rest + 1 < min (degree bits ^ suc h) (m - p.child * degree bits ^ suc h)
      → step (way s bits h (cell_of s n p.child) p.rest ++ (at n p.child ∷ acc)) ≡ moves (way s bits h (cell_of s n p.child) (p.rest + 1) ++ (at n p.child ∷ acc)) true)
      → step (way s bits (suc h) n i ++ acc) ≡ moves (way s bits (suc h) n (i + 1) ++ acc) true
  unfolding Shaped
  within-child h m n i acc z l p (yes y) ih =
      rw (
        way_at s bits h n p.child p.rest i acc p.below p.is (omega (arith, p.used, z.room)),
        way_at s bits h n p.child (p.rest + 1) (i + 1) acc (omega arith) (omega (arith, p.is)) (omega (arith, p.used, z.room)),
      )
      (ih y)
  within-child h m n i acc z l p (no y) ih = crosses h m n i acc z l p (omega (arith, lt_of_not-le y, p.within))

  pub goes_on : (h m n i : ℕ) (acc : List Level) → Shaped s bits h m n → i + 1 < m → step (way s bits h n i ++ acc) ≡ moves (way s bits h n (i + 1) ++ acc) true
  unfolding Shaped
  goes_on zero m n i acc z l =
      rw (way-leaf s bits m n i acc z (omega arith), way-leaf s bits m n (i + 1) acc z l) (fore-on s.cells s.used n i acc (omega (arith, z.used, z.room, cells-few)) (omega (arith, z.used)))
  goes_on (suc h) m n i acc z l =
      let p = part s bits h m n i z (omega arith) in
      within-child h m n i acc z l p (dec_lt (p.rest + 1) _) (λ y. goes_on h _ (cell_of s n p.child) p.rest (at n p.child ∷ acc) p.shape y)

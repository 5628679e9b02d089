-- Backwards: a step takes the way to an index to the way to the one before.
use mathlib.Core.Path.{◌≡◌, refl, sym, ap, ◌∙◌}
use mathlib.Core.Bool.{true}
use mathlib.Core.List.{List, ◌∷◌, ◌++◌, append_assoc}
use Prim.Native.Nat.{ℕ, zero, suc, ◌+◌, ◌-◌, ◌*◌, ◌^◌, ◌<◌, min}
use native.Mathlib.Nat.{suc-mul, lt_irrefl}
use native.Mathlib.Omega.{arith}
use Rattle.meaning.specs.Lent.{Nodes, cell_of, used_of, Level}
use Rattle.meaning.specs.Shape.{degree}
use Rattle.meaning.specs.Trees.{Shaped}
use Rattle.meaning.specs.Walks.{way}
use Rattle.shape.proofs.Powers.{power-positive}
use Rattle.index.specs.Index.{place}
use Rattle.walk_laws.specs.Stack.{Moved, moves, current, begun, digging, renewing, advancing}
use Rattle.walk_laws.proofs.Ways.{at, bucket-zero, part, less, way_at, way-leaf}
use Rattle.walk_laws.proofs.Steps.{first-last, renewing-twice, back_on, back_end}

module _ (s : Nodes) (bits : ℕ) where
  abbrev step : List Level → Moved
  step = advancing s.cells s.used true

  begun-last : (n v : ℕ) → used_of s n ≡ suc v → begun s.used true n ≡ at n v
  begun-last n v e = rw (e, first-last v)

  pub resize : (h a c n : ℕ) → a ≡ c → Shaped s bits h a n → Shaped s bits h c n
  resize h a c n e z = rw e at z

  -- from a node down to its last element
  pub digs-last : (h m n : ℕ) (acc : List Level) → Shaped s bits h (suc m) n → digging s.cells s.used true h (begun s.used true n ∷ acc) ≡ way s bits h n m ++ acc
  unfolding digging Shaped current place
  digs-last zero m n acc z = ap (λ (l : Level). l ∷ acc) (begun-last n m z.used) ∙ sym (way-leaf s bits (suc m) n m acc z (omega arith))
  digs-last (suc h) m n acc z =
      let D : ℕ = degree bits ^ suc h in
      let v : ℕ = used_of s n - 1 in
      let some : 0 < used_of s n = less 0 (used_of s n) D (omega (arith, z.enough)) in
      let eu : used_of s n ≡ suc v = omega arith in
      let mu : used_of s n * D ≡ v * D + D = ap (λ (x : ℕ). x * D) eu ∙ suc-mul v D in
      let size : min D (suc m - v * D) ≡ suc (m - v * D) = omega (arith, z.enough, z.needed) in
      ap (λ (l : Level). digging s.cells s.used true (suc h) (l ∷ acc)) (begun-last n v eu)
      ∙ (digs-last h (m - v * D) (cell_of s n v) (at n v ∷ acc) (resize h _ _ (cell_of s n v) size (z.children v (omega arith)))
      ∙ sym (way_at s bits h n v (m - v * D) m acc (omega (arith, z.enough, z.needed)) (omega (arith, z.enough, z.needed)) (omega (arith, z.room))))

  -- before the first element all levels have finished
  pub finishes-first : (h n : ℕ) (acc : List Level) → step (way s bits h n 0 ++ acc) ≡ renewing s.cells s.used true (suc h) (step acc)
  unfolding way
  finishes-first zero n acc = rw (bucket-zero bits 0) (back_end s.cells s.used n acc)
  finishes-first (suc h) n acc =
      rw (bucket-zero bits (suc h), append_assoc)
      (finishes-first h (cell_of s n 0) (at n 0 ∷ acc)
      ∙ (ap (renewing s.cells s.used true (suc h)) (back_end s.cells s.used n acc)
      ∙ renewing-twice s.cells s.used true (suc h) (step acc).stack (step acc).on))

  -- from the first element of a child to the last of the child before
  crosses : (h m n k j : ℕ) (acc : List Level) → Shaped s bits (suc h) m n → suc k < m → suc k ≡ suc j * degree bits ^ suc h + 0 → suc j < used_of s n
      → step (way s bits (suc h) n (suc k) ++ acc) ≡ moves (way s bits (suc h) n k ++ acc) true
  unfolding Shaped renewing digging current place
  crosses h m n k j acc z l e u =
      let D : ℕ = degree bits ^ suc h in
      let some : 0 < D = power-positive bits (suc h) in
      let one : suc j * D ≡ j * D + D = suc-mul j D in
      let full : min D (m - j * D) ≡ suc (D - 1) = omega arith in
      rw (
        way_at s bits h n (suc j) 0 (suc k) acc some e (omega (arith, z.room)),
        way_at s bits h n j (D - 1) k acc (omega arith) (omega arith) (omega (arith, z.room)),
      )
      (finishes-first h (cell_of s n (suc j)) (at n (suc j) ∷ acc)
      ∙ (ap (renewing s.cells s.used true (suc h)) (back_on s.cells s.used n j acc)
      ∙ ap (λ (st : List Level). moves st true) (digs-last h (D - 1) (cell_of s n j) (at n j ∷ acc) (resize h _ _ (cell_of s n j) full (z.children j (omega arith))))))

  within-child : (h m n k : ℕ) (acc : List Level) → Shaped s bits (suc h) m n → suc k < m → (j r : ℕ) → suc k ≡ j * degree bits ^ suc h + r → r < degree bits ^ suc h → j < used_of s n
      → ((q : ℕ) → r ≡ suc q → step (way s bits h (cell_of s n j) (suc q) ++ (at n j ∷ acc)) ≡ moves (way s bits h (cell_of s n j) q ++ (at n j ∷ acc)) true)
      → step (way s bits (suc h) n (suc k) ++ acc) ≡ moves (way s bits (suc h) n k ++ acc) true
  unfolding Shaped
  within-child h m n k acc z l zero zero e b u ih = absurd (lt_irrefl zero (omega arith))
  within-child h m n k acc z l (suc j) zero e b u ih = crosses h m n k j acc z l e u
  within-child h m n k acc z l j (suc q) e b u ih =
      rw (way_at s bits h n j (suc q) (suc k) acc b e (omega (arith, z.room)), way_at s bits h n j q k acc (omega arith) (omega arith) (omega (arith, z.room))) (ih q refl)

  pub goes_back : (h m n k : ℕ) (acc : List Level) → Shaped s bits h m n → suc k < m → step (way s bits h n (suc k) ++ acc) ≡ moves (way s bits h n k ++ acc) true
  unfolding Shaped
  goes_back zero m n k acc z l = rw (way-leaf s bits m n (suc k) acc z l, way-leaf s bits m n k acc z (omega arith)) (back_on s.cells s.used n k acc)
  goes_back (suc h) m n k acc z l =
      let p = part s bits h m n (suc k) z l in
      within-child h m n k acc z l p.child p.rest p.is p.below p.used (λ q e. goes_back h _ (cell_of s n p.child) q (at n p.child ∷ acc) p.shape (omega (arith, p.within)))

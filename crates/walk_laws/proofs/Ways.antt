-- The way to an element, by the child that has it: the children of a branch hold D elements each, and child j's element r is the branch's element j D + r.
use mathlib.Core.Path.{◌≡◌, refl, sym, ap, ◌∙◌}
use mathlib.Core.List.{List, [], ◌∷◌, ◌++◌, append_assoc}
use Prim.Native.Nat.{ℕ, zero, suc, ◌+◌, ◌-◌, ◌*◌, ◌/◌, ◌%◌, ◌^◌, ◌≤◌, ◌<◌, min}
use native.Mathlib.Nat.{suc-mul, mul_comm, mul-le-mul_left, pow-suc, zero-div, zero-mod, mod-lt, mod-eq_of_lt, div-eq_of_lt, div-add-mod', mul-add-div_right, mul-add-mod_self_right, add-zero, lt_of_mul-lt-mul_right}
use native.Mathlib.Omega.{arith}
use lib.ListN.{length, length-append}
use lib.IntN.{pos}
use Rattle.meaning.specs.Lent.{Nodes, cell_of, used_of, Level}
use Rattle.meaning.specs.Shape.{degree, bucket}
use Rattle.meaning.specs.Trees.{Shaped, element}
use Rattle.meaning.specs.Walks.{way}
use Rattle.shape.proofs.Powers.{power-positive}
use Rattle.shape.proofs.Buckets.{bucket-leaf, bucket-top, bucket-rest}
use Rattle.walk_laws.specs.Stack.{current}
use Rattle.index.specs.Index.{place}

abbrev pub at : (node index : ℕ) → Level
at n i = record { node = n; index = pos i }

-- ---- an index in its child

pub bucket-zero : (bits k : ℕ) → bucket bits k 0 ≡ 0
unfolding bucket
bucket-zero bits k = rw (zero-div, zero-mod)

pub digits : (bits h j r i : ℕ) → r < degree bits ^ suc h → i ≡ j * degree bits ^ suc h + r → j < degree bits
    → (bucket bits (suc h) i ≡ j) × (i % degree bits ^ suc h ≡ r)
digits bits h j r i lr e lj =
    let D : ℕ = degree bits ^ suc h in
    let m : D * suc j ≤ D * degree bits = mul-le-mul_left D lj in
    let short : i < degree bits ^ suc (suc h) = rw pow-suc (omega (arith, mul_comm D (suc j), suc-mul j D)) in
    let q : (j * D + r) / D ≡ j = mul-add-div_right (power-positive bits (suc h)) j r ∙ (ap (λ (x : ℕ). j + x) (div-eq_of_lt lr) ∙ add-zero j) in
    let k : (j * D + r) % D ≡ r = mul-add-mod_self_right j D r ∙ mod-eq_of_lt lr in
    (bucket-top bits (suc h) i short ∙ rw e q, rw e k)

-- child j of a branch, and element r of it
pub record Part (s : Nodes) (bits h m n i : ℕ) : Type 0 where
  pub child : ℕ
  pub rest : ℕ
  pub is : i ≡ child * degree bits ^ suc h + rest
  pub below : rest < degree bits ^ suc h
  pub used : child < used_of s n
  pub within : rest < min (degree bits ^ suc h) (m - child * degree bits ^ suc h)
  pub shape : Shaped s bits h (min (degree bits ^ suc h) (m - child * degree bits ^ suc h)) (cell_of s n child)

pub less : (a c k : ℕ) → a * k < c * k → a < c
less a c k l = lt_of_mul-lt-mul_right k l

pub part : (s : Nodes) (bits h m n i : ℕ) → Shaped s bits (suc h) m n → i < m → Part s bits h m n i
unfolding Shaped
part s bits h m n i z l =
    let D : ℕ = degree bits ^ suc h in
    let lr : i % D < D = mod-lt i (power-positive bits (suc h)) in
    let e : i / D * D + i % D ≡ i = div-add-mod' i D in
    let u : i / D < used_of s n = less (i / D) (used_of s n) D (omega (arith, z.enough)) in
    record { child = i / D; rest = i % D; is = sym e; below = lr; used = u; within = omega arith; shape = z.children (i / D) u }

module _ (s : Nodes) (bits : ℕ) where
  -- ---- ways

  way-rest : (h k c i : ℕ) → h < k → way s bits h c i ≡ way s bits h c (i % degree bits ^ k)
  unfolding way
  way-rest zero k c i l = ap (λ (b : ℕ). at c b ∷ []) (bucket-rest bits k 0 i l)
  way-rest (suc h) k c i l =
      let b = bucket bits (suc h) (i % degree bits ^ k) in
      rw (bucket-rest bits k (suc h) i l) (ap (λ (w : List Level). w ++ (at c b ∷ [])) (way-rest h k (cell_of s c b) i (omega arith)))

  pub way_at : (h n j r i : ℕ) (acc : List Level) → r < degree bits ^ suc h → i ≡ j * degree bits ^ suc h + r → j < degree bits
      → way s bits (suc h) n i ++ acc ≡ way s bits h (cell_of s n j) r ++ (at n j ∷ acc)
  unfolding way
  way_at h n j r i acc lr e lj =
      let d = digits bits h j r i lr e lj in
      rw (d.0, way-rest h (suc h) (cell_of s n j) i (omega arith), d.1) (append_assoc (way s bits h (cell_of s n j) r) (at n j ∷ []) acc)

  pub way-leaf : (m n i : ℕ) (acc : List Level) → Shaped s bits 0 m n → i < m → way s bits 0 n i ++ acc ≡ at n i ∷ acc
  unfolding way Shaped
  way-leaf m n i acc z l = let short : i < degree bits = omega (arith, z.room) in rw (bucket-leaf bits i, mod-eq_of_lt short)

  pub way-length : (h n i : ℕ) → length (way s bits h n i) ≡ suc h
  unfolding way
  way-length zero n i = refl
  way-length (suc h) n i = rw (length-append, way-length h (cell_of s n (bucket bits (suc h) i)) i) (omega arith)

  -- ---- elements

  -- the element is what the leaf's level is at
  pub element-current : (h n i : ℕ) (acc : List Level) → element s bits h n i ≡ current s.cells (way s bits h n i ++ acc)
  unfolding element way current place
  element-current zero n i acc = refl
  element-current (suc h) n i acc =
      let b = bucket bits (suc h) i in
      rw append_assoc (element-current h (cell_of s n b) i (at n b ∷ acc))

  element-rest : (h k c i : ℕ) → h < k → element s bits h c i ≡ element s bits h c (i % degree bits ^ k)
  unfolding element
  element-rest zero k c i l = ap (cell_of s c) (bucket-rest bits k 0 i l)
  element-rest (suc h) k c i l = rw (bucket-rest bits k (suc h) i l) (element-rest h k _ i (omega arith))

  pub element-at : (h n j r i : ℕ) → r < degree bits ^ suc h → i ≡ j * degree bits ^ suc h + r → j < degree bits
      → element s bits (suc h) n i ≡ element s bits h (cell_of s n j) r
  unfolding element
  element-at h n j r i lr e lj =
      let d = digits bits h j r i lr e lj in
      rw (d.0, element-rest h (suc h) (cell_of s n j) i (omega arith), d.1)

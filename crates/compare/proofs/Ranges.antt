-- Ranges of indices in which two trees have the same elements, and what ends them.
use mathlib.Core.Path.{◌≡◌, refl, sym, ap, ◌∙◌}
use mathlib.Core.Logic.{◌≢◌}
use mathlib.Core.List.{List}
use Prim.Native.Nat.{ℕ, ◌+◌, ◌-◌, ◌*◌, ◌≤◌, ◌<◌}
use native.Mathlib.Nat.{lt_irrefl, le_refl}
use native.Mathlib.Decide.{dec_lt}
use native.Mathlib.Omega.{arith}
use lib.ListN.{get_or}
use Rattle.meaning.specs.Limits.{node_cells}
use Rattle.meaning.specs.Shape.{bucket}
use Rattle.lookup.specs.Lookup.{element_in}
use Rattle.lookup.proofs.Found.{leaf-found, branch-found}
use Rattle.compare.specs.Differences.{SameIn, FirstDifference, child_end}
use Rattle.compare.proofs.Spans.{end-within, one-bucket}

module _ (cells : List ℕ) (bits h n m from to : ℕ) where
  -- one node
  pub shared_same : from ≤ to → n ≡ m → FirstDifference cells bits h n m from to to
  shared_same l e =
      record { least = l; most = le_refl to; same = λ j _ _. ap (λ k. element_in cells bits h k j) e; differs = λ k. absurd (lt_irrefl to k) }

  -- a range is gone through
  pub none-differs : (i : ℕ) → from ≤ i → i ≤ to → to ≤ i → SameIn cells bits h n m from i → FirstDifference cells bits h n m from to to
  none-differs i l k g s =
      record { least = omega arith; most = le_refl to; same = λ j a b. s j a (omega arith); differs = λ f. absurd (lt_irrefl to f) }

  one-differs : (i : ℕ) → from ≤ i → i < to → SameIn cells bits h n m from i → element_in cells bits h n i ≢ element_in cells bits h m i → FirstDifference cells bits h n m from to i
  one-differs i l k s f = record { least = l; most = omega arith; same = s; differs = λ _. f }

  ranges-join : (i e : ℕ) → SameIn cells bits h n m from i → SameIn cells bits h n m i e → SameIn cells bits h n m from e
  ranges-join i e s t j l k = pick (dec_lt j i)
    where
      pick : Dec (j < i) → element_in cells bits h n j ≡ element_in cells bits h m j
      pick (yes a) = s j l a
      pick (no f) = t j (omega arith) k

-- ---- one index of a leaf

module _ (cells : List ℕ) (bits h n m from to i b x y : ℕ) (eh : h ≡ 0) (eb : b ≡ bucket bits h i)
    (ex : x ≡ get_or cells (node_cells * n + b) 0) (ey : y ≡ get_or cells (node_cells * m + b) 0)
    (l : from ≤ i) (s : SameIn cells bits h n m from i) where
  left : x ≡ element_in cells bits h n i
  left = leaf-found cells bits h n i b x eh eb ex

  right : y ≡ element_in cells bits h m i
  right = leaf-found cells bits h m i b y eh eb ey

  pub leaf-differs : i < to → x ≢ y → FirstDifference cells bits h n m from to i
  leaf-differs k f = one-differs cells bits h n m from to i l k s (λ e. f (left ∙ e ∙ sym right))

  pub leaf-goes-on : x ≡ y → SameIn cells bits h n m from (i + 1)
  leaf-goes-on e =
      let one : element_in cells bits h n i ≡ element_in cells bits h m i = sym left ∙ e ∙ right in
      ranges-join cells bits h n m from to i (i + 1) s (λ j a k. let is : i ≡ j = omega arith in rw is at one)

-- ---- one child of a branch

module _ (cells : List ℕ) (bits h to i b e : ℕ) (f : h ≢ 0) (eb : b ≡ bucket bits h i) (ee : e ≡ child_end bits h i to) where
  -- the child's element is the node's
  below : (n x j : ℕ) → x ≡ get_or cells (node_cells * n + b) 0 → i ≤ j → j < e → element_in cells bits (h - 1) x j ≡ element_in cells bits h n j
  below n x j ex l k = branch-found cells bits h n j b x _ f (eb ∙ one-bucket bits h i to j l (rw ee at k)) ex refl

module _ (cells : List ℕ) (bits h n m from to i b e x y r : ℕ) (f : h ≢ 0) (eb : b ≡ bucket bits h i) (ee : e ≡ child_end bits h i to)
    (ex : x ≡ get_or cells (node_cells * n + b) 0) (ey : y ≡ get_or cells (node_cells * m + b) 0)
    (l : from ≤ i) (s : SameIn cells bits h n m from i) (d : FirstDifference cells bits (h - 1) x y i e r) where
  child-same : SameIn cells bits h n m from r
  child-same =
      ranges-join cells bits h n m from to i r s λ j a k.
      let u : j < e = omega (arith, d.most) in
      sym (below cells bits h to i b e f eb ee n x j ex a u) ∙ d.same j a k ∙ below cells bits h to i b e f eb ee m y j ey a u

  pub child-differs : r < e → FirstDifference cells bits h n m from to r
  child-differs k =
      let u : e ≤ to = rw ee (end-within bits h i to) in
      let there : (node cell : ℕ) → cell ≡ get_or cells (node_cells * node + b) 0 → element_in cells bits (h - 1) cell r ≡ element_in cells bits h node r =
      λ node cell c. below cells bits h to i b e f eb ee node cell r c d.least k in
      one-differs cells bits h n m from to r (omega (arith, d.least)) (omega arith) child-same λ g. d.differs k (there n x ex ∙ g ∙ sym (there m y ey))

  pub child-goes-on : e ≤ r → SameIn cells bits h n m from e
  child-goes-on k j a b = child-same j a (omega arith)

-- What each return of the code answers, from what it found at place i of the two contents.
use mathlib.Core.Path.{◌≡◌, refl, sym, ap, ap₂, ◌∙◌}
use mathlib.Core.Logic.{◌≢◌}
use mathlib.Core.List.{List, []}
use Prim.Native.Nat.{ℕ, zero, suc, ◌+◌, ◌≤◌, ◌<◌, min}
use native.Mathlib.Numerals.{add-one}
use native.Mathlib.Omega.{arith}
use lib.ListN.{length, get_or, drop}
use Rattle.meaning.specs.Trees.{height_of}
use Rattle.meaning.specs.Effects.{order}
use Rattle.records.specs.Records.{record_of}
use Rattle.records.specs.declared.Version.{Version}
use Rattle.lookup.specs.Lookup.{element_in}
use Rattle.lookup.proofs.Found.{contents-at, contents-length}
use Rattle.std.specs.Ordering.{nat_cmp}
use Rattle.compare.specs.Compare.{ordering_of, contents_in, ordering}
use Rattle.compare.specs.Differences.{FirstDifference, AlikeUntil}
use Rattle.compare.proofs.Turns.{order-decided, order-goes-on, order-ends}

-- what a lookup found is the contents' element
pub item-at : (cells : List ℕ) (v : Version) (h i x : ℕ) → h ≡ height_of (record_of v) → i < v.length → x ≡ element_in cells v.bits h v.root i → x ≡ get_or (contents_in cells v) i 0
item-at cells v h i x e l f = f ∙ ap (λ (k : ℕ). element_in cells v.bits k v.root i) e ∙ contents-at (record { kinds = []; used = []; cells = cells }) (record_of v) i l

pub size_of : (cells : List ℕ) (v : Version) → length (contents_in cells v) ≡ v.length
size_of cells v = contents-length (record { kinds = []; used = []; cells = cells }) (record_of v)

-- the two lists have one order from place i on and from the start
abbrev pub SameFrom : (cells : List ℕ) → (a b : Version) → (i : ℕ) → Type 0
SameFrom cells a b i = order (drop i (contents_in cells a)) (drop i (contents_in cells b)) ≡ order (contents_in cells a) (contents_in cells b)

module _ (cells : List ℕ) (a b : Version) (h k i x y : ℕ) (eh : h ≡ height_of (record_of a)) (ek : k ≡ height_of (record_of b)) (ha : i < a.length) (hb : i < b.length)
    (fx : x ≡ element_in cells a.bits h a.root i) (fy : y ≡ element_in cells b.bits k b.root i) (inv : SameFrom cells a b i) where
  ex : x ≡ get_or (contents_in cells a) i 0
  ex = item-at cells a h i x eh ha fx

  ey : y ≡ get_or (contents_in cells b) i 0
  ey = item-at cells b k i y ek hb fy

  pub answers-decided : x ≢ y → nat_cmp x y ≡ ordering cells a b
  unfolding ordering
  answers-decided f =
      let decided = order-decided (contents_in cells a) (contents_in cells b) i (rw size_of ha) (rw size_of hb) (λ e. f (ex ∙ e ∙ sym ey)) in
      ap₂ nat_cmp ex ey ∙ sym decided ∙ ap ordering_of inv

  pub goes_on : x ≡ y → SameFrom cells a b (i + 1)
  goes_on e =
      rw add-one (sym (order-goes-on (contents_in cells a) (contents_in cells b) i (rw size_of ha) (rw size_of hb) (sym ex ∙ e ∙ ey)) ∙ inv)

-- trees of one form are alike until they differ
pub alike-found : (cells : List ℕ) (a b : Version) (h k n r : ℕ) → a.bits ≡ b.bits → h ≡ k → FirstDifference cells a.bits h a.root b.root 0 n r
    → (r ≤ n) × AlikeUntil cells a b h k r
alike-found cells a b h k n r e f d = (d.most, λ j l. d.same j (omega arith) l ∙ ap₂ (λ q g. element_in cells q g b.root j) e f)

-- the order is not decided by what is alike
pub alike-goes-on : (cells : List ℕ) (a b : Version) (h k r : ℕ) → h ≡ height_of (record_of a) → k ≡ height_of (record_of b) → r ≤ a.length → r ≤ b.length
    → AlikeUntil cells a b h k r → SameFrom cells a b r
alike-goes-on cells a b h k zero ea eb la lb s = refl
alike-goes-on cells a b h k (suc r) ea eb la lb s =
    let before = alike-goes-on cells a b h k r ea eb (omega arith) (omega arith) (λ j l. s j (omega arith)) in
    rw add-one at (goes_on cells a b h k r _ _ ea eb la lb refl refl before (s r (omega arith)))

pub answers-by-length : (cells : List ℕ) (a b : Version) (i : ℕ) → i ≡ min a.length b.length → SameFrom cells a b i → nat_cmp a.length b.length ≡ ordering cells a b
unfolding ordering
answers-by-length cells a b i e inv =
    let sizes : nat_cmp a.length b.length ≡ nat_cmp (length (contents_in cells a)) (length (contents_in cells b)) =
    ap₂ nat_cmp (sym (size_of cells a)) (sym (size_of cells b)) in
    sizes ∙ sym (order-ends (contents_in cells a) (contents_in cells b) i (rw (size_of cells a, size_of cells b) e)) ∙ ap ordering_of inv

-- What the descent finds is the element; and the element is what the contents have there.
use mathlib.Core.Path.{◌≡◌, refl, sym, ap, ◌∙◌}
use mathlib.Core.Logic.{◌≢◌}
use mathlib.Core.List.{List}
use Prim.Native.Nat.{ℕ, zero, suc, ◌+◌, ◌-◌, ◌*◌, ◌/◌, ◌%◌, ◌^◌, ◌≤◌, ◌<◌}
use native.Mathlib.Nat.{lt_irrefl, add_comm, zero-mul, suc-mul, div-div-eq-div-mul}
use native.Mathlib.Omega.{arith}
use lib.Bits.{bit_and}
use lib.Pow.{pow-add}
use lib.ListN.{length, get_or}
use Rattle.meaning.specs.Limits.{node_cells, max_bits}
use Rattle.meaning.specs.Lent.{Nodes}
use Rattle.meaning.specs.Lent.{VersionRecord}
use Rattle.meaning.specs.Shape.{degree, mask, bucket}
use Rattle.meaning.specs.Trees.{height_of, element, contents}
use Rattle.meaning.proofs.Rows.{rows-length, rows_at}
use Rattle.shape.proofs.Computed.{bucket-computed}
use Rattle.lookup.specs.Lookup.{leaf_in, element_in}

-- ---- the descent

-- the way down to leaf l has come to node n: the shift is that of the node's height
pub record Descending (cells : List ℕ) (bits index shift n l : ℕ) : Type 0 where
  pub height : ℕ
  pub shifts : shift ≡ height * bits
  pub leads : leaf_in cells bits height n index ≡ l

module _ {cells : List ℕ} {bits index shift n l : ℕ} (d : Descending cells bits index shift n l) where
  -- what a turn takes off the shift is there
  pub shift-lasts : 0 < shift → bits ≤ shift
  shift-lasts hs = by d.height d.shifts
    where
      by : (h : ℕ) → shift ≡ h * bits → bits ≤ shift
      by zero e = absurd (lt_irrefl 0 (omega (arith, zero-mul bits)))
      by (suc h) e = omega (arith, suc-mul h bits)

  -- a turn: one level lower
  pub level-passed : (m r : ℕ) → 0 < shift → bits ≤ max_bits → m ≡ mask bits → r ≡ get_or cells (node_cells * n + bit_and (index / 2 ^ shift) m) 0 → Descending cells bits index (shift - bits) r l
  unfolding leaf_in
  level-passed m r hs hb e f = by d.height d.shifts d.leads
    where
      by : (h : ℕ) → shift ≡ h * bits → leaf_in cells bits h n index ≡ l → Descending cells bits index (shift - bits) r l
      by zero es el = absurd (lt_irrefl 0 (omega (arith, zero-mul bits)))
      by (suc h) es el =
          let b : bit_and (index / 2 ^ shift) m ≡ bucket bits (suc h) index = rw es (bucket-computed bits (suc h) index m hb e).0 in
          record { height = h; shifts = omega (arith, suc-mul h bits); leads = rw (f, b) el }

  -- with no shift left it is at the leaf
  pub leaf-reached : 1 ≤ bits → shift ≤ 0 → n ≡ l
  unfolding leaf_in
  leaf-reached hb hs = by d.height d.shifts d.leads
    where
      by : (h : ℕ) → shift ≡ h * bits → leaf_in cells bits h n index ≡ l → n ≡ l
      by zero es el = el
      by (suc h) es el = absurd (lt_irrefl 0 (omega (arith, suc-mul h bits)))

module _ (cells : List ℕ) (bits index : ℕ) where
  element-there : (h n : ℕ) → get_or cells (node_cells * leaf_in cells bits h n index + bucket bits 0 index) 0 ≡ element_in cells bits h n index
  unfolding leaf_in element
  element-there zero n = refl
  element-there (suc h) n = element-there h _

  -- in the leaf's cell of the index
  pub element-found : (h n m b r : ℕ) → m ≡ leaf_in cells bits h n index → b ≡ bucket bits 0 index → r ≡ get_or cells (node_cells * m + b) 0 → r ≡ element_in cells bits h n index
  element-found h n m b r e f g = g ∙ rw (f, e) (element-there h n)

-- the shift falls with the height
pub shift-below : (bits h w : ℕ) → h * bits < w → (h - 1) * bits < w
shift-below bits zero w l = l
shift-below bits (suc h) w l = let s : suc h - 1 ≡ h = omega arith in rw s (omega arith)

-- ---- an element by its height

pub leaf-found : (cells : List ℕ) (bits h n i b r : ℕ) → h ≡ 0 → b ≡ bucket bits h i → r ≡ get_or cells (node_cells * n + b) 0 → r ≡ element_in cells bits h n i
unfolding element
leaf-found cells bits h n i b r e f g = rw (g, f, e)

pub branch-found : (cells : List ℕ) (bits h n i b c r : ℕ) → h ≢ 0 → b ≡ bucket bits h i → c ≡ get_or cells (node_cells * n + b) 0
    → r ≡ element_in cells bits (h - 1) c i → r ≡ element_in cells bits h n i
unfolding element
branch-found cells bits zero n i b c r f e g k = absurd (f refl)
branch-found cells bits (suc h) n i b c r f e g k = let s : suc h - 1 ≡ h = omega arith in rw (k, s, g, e)

-- ---- one leaf for all indices of a block

bucket-same : (b k i j : ℕ) → i / 2 ^ b ≡ j / 2 ^ b → bucket b (suc k) i ≡ bucket b (suc k) j
unfolding bucket
bucket-same b k i j e =
    let split : (n : ℕ) → n / 2 ^ (suc k * b) ≡ n / 2 ^ b / 2 ^ (k * b) = λ n. rw (suc-mul k b, add_comm (k * b) b, pow-add 2 b (k * b)) (sym (div-div-eq-div-mul n (2 ^ b) (2 ^ (k * b)))) in
    ap (λ (n : ℕ). n % degree b) (split i ∙ (ap (λ (n : ℕ). n / 2 ^ (k * b)) e ∙ sym (split j)))

pub leaf-same : (cells : List ℕ) (bits h n i j : ℕ) → i / 2 ^ bits ≡ j / 2 ^ bits → leaf_in cells bits h n i ≡ leaf_in cells bits h n j
unfolding leaf_in
leaf-same cells bits zero n i j e = refl
leaf-same cells bits (suc h) n i j e =
    ap (λ (b : ℕ). leaf_in cells bits h (get_or cells (node_cells * n + b) 0) i) (bucket-same bits h i j e) ∙ leaf-same cells bits h _ i j e

-- ---- the contents

-- kinds and used numbers don't matter to an element
pub element-in : (s : Nodes) (bits h n i : ℕ) → element_in s.cells bits h n i ≡ element s bits h n i
unfolding element
element-in s bits zero n i = refl
element-in s bits (suc h) n i = element-in s bits h _ i

pub contents-length : (s : Nodes) (v : VersionRecord) → length (contents s v) ≡ v.length
unfolding contents
contents-length s v = rows-length v.length _

-- the code's element is the contents' at that index
pub contents-at : (s : Nodes) (v : VersionRecord) (i : ℕ) → i < v.length → element_in s.cells v.bits (height_of v) v.root i ≡ get_or (contents s v) i 0
unfolding contents
contents-at s v i l = element-in s v.bits (height_of v) v.root i ∙ sym (rows_at v.length i _ 0 l)

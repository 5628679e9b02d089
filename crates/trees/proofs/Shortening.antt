-- Drop: the version that is answered, and what it costs.
use mathlib.Core.Path.{◌≡◌, refl, sym, subst}
use mathlib.Core.Logic.{◌≢◌}
use mathlib.Core.Bool.{Bool, true, false, cond, ◌&&◌, false≢true}
use mathlib.Core.List.{[], ◌∷◌}
use Prim.Native.Nat.{ℕ, suc, ◌+◌, ◌-◌, ◌*◌, ◌^◌, ◌≤◌, ◌<◌, min}
use native.Mathlib.Nat.{lt_of_mul-lt-mul_right}
use native.Mathlib.Omega.{arith}
use lib.Dec.{eqb, leb}
use lib.ListN.{get_or, take}
use borrow.Author.Tests.{eqb-true, eqb-false}
use Rattle.meaning.specs.Lent.{Nodes, used_of, cell_of, VersionRecord}
use Rattle.meaning.specs.Shape.{degree, height}
use Rattle.meaning.specs.Trees.{Shaped, height_of, element, contents}
use Rattle.meaning.specs.WellFormed.{LegalBits, Live}
use Rattle.meaning.specs.Costs.{loses_root, drop_fresh, drop_cost}
use Rattle.meaning.proofs.Reaching.{shaped-used}
use Rattle.cells.specs.Cells.{cells_of}
use Rattle.store.specs.Store.{Store}
use Rattle.paths.specs.Paths.{drop_last}
use Rattle.paths.specs.Edits.{edit, live_record, empty_leaf, share_edit, first_child, drop_edit}
use Rattle.shape.proofs.Powers.{power-positive}
use Rattle.shape.proofs.Capacity.{height-holds}
use Rattle.shape.proofs.Growth.{height-drop}
use Rattle.trees.specs.Stock.{Stock}
use Rattle.trees.specs.Elements.{inside, undivided}
use Rattle.trees.specs.Edited.{shared, Edited}
use Rattle.trees.proofs.Digits.{inside_is}
use Rattle.meaning.proofs.Rows.{rows_take}
use Rattle.cells.proofs.CellLaws.{cells_at}
use Rattle.trees.proofs.Framing.{extends-refl}
use Rattle.trees.proofs.Making.{raised-stocks, stock-lessens}
use Rattle.trees.proofs.Growing.{all-before}
use Rattle.trees.proofs.Climbing.{drop-climbs}
use Rattle.trees.proofs.Dropping.{drop-cuts}
use Rattle.trees.proofs.Editing.{climb-edits, version-index, empty-edits}

-- ---- a root left with one child

-- the first child is the shorter version
pub first-shape : (s : Nodes) (bits h m n : ℕ) → Shaped s bits (suc h) m n → m - 1 ≡ degree bits ^ suc h → Shaped s bits h (m - 1) (cell_of s n 0)
unfolding Shaped
first-shape s bits h m n p e =
    let some : 0 < used_of s n = lt_of_mul-lt-mul_right (degree bits ^ suc h) (omega (arith, p.enough, power-positive bits (suc h))) in
    let k : min (degree bits ^ suc h) (m - 0 * degree bits ^ suc h) ≡ m - 1 = omega arith in
    rw k at (p.children 0 some)

pub first-element : (s : Nodes) (bits h n i : ℕ) → LegalBits bits → i < degree bits ^ suc h → element s bits (suc h) n i ≡ element s bits h (cell_of s n 0) i
unfolding element
first-element s bits h n i legal l = rw (all-before bits h i legal l)

-- what the test says
loses-true : (bits n : ℕ) → loses_root bits n ≡ true → n - 1 ≡ degree bits ^ height bits n
loses-true bits n e = pick (leb 1 (height bits n)) e
  where
    pick : (high : Bool) → (high && eqb (n - 1) (degree bits ^ height bits n)) ≡ true → n - 1 ≡ degree bits ^ height bits n
    pick true q = eqb-true (n - 1) (degree bits ^ height bits n) q
    pick false q = absurd (false≢true q)

pub first-edits : (s : Store) (v : VersionRecord) (k : ℕ) → Live s.nodes v → Stock s k → loses_root v.bits v.length ≡ true
    → Edited s 0 k (take (v.length - 1) (contents s.nodes v)) (edit (first_child s v.root) v.bits (v.length - 1))
unfolding first_child share_edit contents
first-edits s v k l z e = record {
  rooted = shared (live_record c v.bits (v.length - 1)) (shaped-used s.nodes v.bits h (v.length - 1) c first);
  extends = extends-refl s.nodes;
  stock = raised-stocks s k (c ∷ []) z;
  order = refl;
  free = omega arith;
  live = record { live = refl; bits = l.bits; length = omega (arith, l.length); shape = first };
  holds = rows_take v.length _ _ (v.length - 1) (omega arith) (λ i m. rw (child, high) (sym (first-element s.nodes v.bits h v.root i l.bits (rw (← full) m))));
}
  where
    h : ℕ
    h = height v.bits (v.length - 1)

    c : ℕ
    c = get_or (cells_of s.nodes.cells v.root) 0 0

    child : c ≡ cell_of s.nodes v.root 0
    child = cells_at s.nodes.cells v.root 0 (omega arith)

    high : height_of v ≡ suc h
    high = let d = height-drop v.bits v.length l.bits.least (omega (arith, l.length)) in omega (arith, rw e at d)

    shape : Shaped s.nodes v.bits (suc h) v.length v.root
    shape = rw high at l.shape

    full : v.length - 1 ≡ degree v.bits ^ suc h
    full = rw high at (loses-true v.bits v.length e)

    first : Shaped s.nodes v.bits h (v.length - 1) c
    first = rw child (first-shape s.nodes v.bits h v.length v.root shape full)

-- ---- a root that stays

last-edits : (s : Store) (v : VersionRecord) (k : ℕ) → Live s.nodes v → Stock s (undivided v.bits (height_of v) (v.length - 1) + k) → 2 ≤ v.length → loses_root v.bits v.length ≡ false
    → Edited s (undivided v.bits (height_of v) (v.length - 1)) k (take (v.length - 1) (contents s.nodes v)) (edit (drop_last s v.bits (height_of v) v.root (v.length - 1)) v.bits (v.length - 1))
unfolding contents
last-edits s v k l z two e =
    let h : ℕ = height_of v in
    let last : ℕ = v.length - 1 in
    let holds = height-holds v.bits v.length l.bits.least (omega (arith, l.length)) in
    let at : inside v.bits h last ≡ last = inside_is v.bits h last (omega arith) in
    let same : height v.bits last ≡ h = let d = height-drop v.bits v.length l.bits.least (omega (arith, l.length)) in omega (arith, rw e at d) in
    let count : v.length ≡ inside v.bits h last + 1 = omega arith in
    let shape : Shaped s.nodes v.bits h (inside v.bits h last + 1) v.root = subst (λ n. Shaped s.nodes v.bits h n v.root) count l.shape in
    let climb = drop-climbs s v.bits h v.root last l.bits z.sizes shape (omega arith) in
    let cut = drop-cuts s v.bits h v.root last k l.bits z shape (omega arith) in
    climb-edits s _ v.bits last _ k _ climb z
    (record { live = refl; bits = l.bits; length = omega (arith, l.length); shape = rw same (rw at at cut.shape) })
    (rw same (rows_take v.length _ _ last (omega arith) (λ i m.
    let here = version-index s.nodes v i l (omega arith) in
    cut.others i (omega arith))))

pub drop-edits : (s : Store) (v : VersionRecord) (k : ℕ) → Live s.nodes v → Stock s ((drop_cost v.bits v.length).fresh + k) → 1 ≤ v.length
    → Edited s (drop_cost v.bits v.length).fresh k (take (v.length - 1) (contents s.nodes v)) (drop_edit s v)
unfolding drop_cost drop_fresh drop_edit
drop-edits s v k l z some = pick (eqb v.length 1) (loses_root v.bits v.length) refl refl z
  where
    fresh : (single loses : Bool) → ℕ
    fresh single loses = cond single 1 (cond loses 0 (undivided v.bits (height_of v) (v.length - 1)))

    pick : (single loses : Bool) → eqb v.length 1 ≡ single → loses_root v.bits v.length ≡ loses → Stock s (fresh single loses + k)
        → Edited s (fresh single loses) k (take (v.length - 1) (contents s.nodes v))
        (edit (cond single (empty_leaf s) (cond loses (first_child s v.root) (drop_last s v.bits (height_of v) v.root (v.length - 1)))) v.bits (v.length - 1))
    pick true loses e₁ e₂ stock =
        let none : v.length - 1 ≡ 0 = omega (arith, eqb-true v.length 1 e₁) in
        rw none (empty-edits s v.bits k l.bits (stock-lessens s (1 + k) (suc k) (omega arith) stock))
    pick false true e₁ e₂ stock = first-edits s v k l (stock-lessens s (0 + k) k (omega arith) stock) e₂
    pick false false e₁ e₂ stock =
        let f : v.length ≢ 1 = eqb-false v.length 1 e₁ in
        last-edits s v k l stock (omega arith) e₂

-- A way copied without its last index: what each height makes, what is left free and which counts have room.
use mathlib.Core.Path.{◌≡◌, refl, sym, ap, ◌∙◌}
use mathlib.Core.Bool.{Bool, true, false, cond, ◌&&◌}
use mathlib.Core.List.{List}
use Prim.Native.Nat.{ℕ, zero, suc, ◌+◌, ◌-◌, ◌*◌, ◌%◌, ◌^◌, ◌≤◌, ◌<◌}
use native.Mathlib.Numerals.{sub-one}
use native.Mathlib.Nat.{pos_of_ne-zero}
use native.Mathlib.Omega.{arith}
use lib.Dec.{leb, eqb}
use lib.ListN.{length, drop, get_or}
use lib.Pow.{pow_pos}
use lib.Seq.{slice, get_or-take, get_or-drop}
use Rattle.meaning.specs.Limits.{node_cells, word_width}
use Rattle.meaning.specs.Counting.{divides}
use Rattle.meaning.specs.Shape.{degree, bucket}
use Rattle.cells.specs.Cells.{cells_of}
use Rattle.store.specs.Store.{Store, node_count, raise, raises, make}
use Rattle.store.specs.Ready.{Sized, Room}
use Rattle.store.specs.Lent.{nodes_with, held, SameSlices}
use Rattle.store.specs.declared.Store as code
use Rattle.store.proofs.Raising.{room-less, room-raises}
use Rattle.shape.proofs.Powers.{degree-power, one-shifts}
use Rattle.paths.specs.Paths.{Made, Source, source, branch_with, leaf_cut, branch_cut, drop_last}
use Rattle.paths.specs.Edits.{first_child}
use Rattle.paths.specs.Ready.{made_of, HasCells, Fork, CanShare, WayToLast, Ready}
use Rattle.paths.proofs.Steps.{recounted}
use Rattle.paths.proofs.Ways.{room-made, room-others, length-slice-most, ready-lower, height-small, Kept, kept, share-after}

-- ---- `index % (1 << (height * bits)) == 0`

pub shift_is : (b h : ℕ) → h * b < word_width → (1 * 2 ^ (h * b)) % 2 ^ word_width ≡ degree b ^ h
shift_is b h l = one-shifts (h * b) l ∙ sym (degree-power b h)

pub shift-some : (b h : ℕ) → h * b < word_width → 0 < (1 * 2 ^ (h * b)) % 2 ^ word_width
shift-some b h l = rw (one-shifts (h * b) l) (pow_pos (h * b))

pub first-computed : (b h i : ℕ) → h * b < word_width → eqb (i % ((1 * 2 ^ (h * b)) % 2 ^ word_width)) 0 ≡ divides (degree b ^ h) i
unfolding divides
first-computed b h i l = rw (shift_is b h l)

-- ---- what the callees require

pub last-cells : (s : Store) (bits h n i : ℕ) → Sized s → WayToLast s bits h n i → HasCells s.nodes.used s.nodes.cells n
unfolding WayToLast
last-cells s bits h n i z w =
    let l : n < node_count s = first h w in
    record { used = omega (arith, z.used); cells = omega (arith, z.cells) }
  where
    first : (h : ℕ) → WayToLast s bits h n i → n < node_count s
    first zero w = w
    first (suc h) w = w.0

last-lower : (s : Store) (bits h n i : ℕ) (c : Source) (b : ℕ) → (h ≡ 0 → ⊥) → c ≡ source s.nodes true n → b ≡ bucket bits h i → WayToLast s bits h n i
    → Fork (node_count s) c b × WayToLast s bits (h - 1) (get_or c.cells b 0) i
unfolding WayToLast
last-lower s bits zero n i c b ne p q w = absurd (ne refl)
last-lower s bits (suc h) n i c b ne p q w = rw (sub-one, p, q) (w.1, w.2)

-- ---- what is left

-- the copy below a branch, and what a drop then makes of the branch
abbrev below : Store → (bits h n i : ℕ) → Made
below s bits h n i = drop_last s bits h (get_or (source s.nodes true n).cells (bucket bits (suc h) i) 0) i

abbrev dropped : Store → (bits h n i : ℕ) → (below : Made) → (first : Bool) → Made
dropped s bits h n i d t = let c = source s.nodes true n in let b = bucket bits (suc h) i in cond t (branch_cut s c b) (branch_with c b d)

pub drop-free : (s : Store) (bits h n i : ℕ) → let f = (drop_last s bits h n i).store.free in (f ≤ s.free) × (s.free ≤ f + suc h)
unfolding drop_last leaf_cut branch_cut branch_with make
drop-free s bits zero n i = (omega arith, omega arith)
drop-free s bits (suc h) n i = by (below s bits h n i) (divides (degree bits ^ suc h) i) (drop-free s bits h (get_or (source s.nodes true n).cells (bucket bits (suc h) i) 0) i)
  where
    by : (d : Made) (t : Bool) → (d.store.free ≤ s.free) × (s.free ≤ d.store.free + suc h)
        → let f = (dropped s bits h n i d t).store.free in (f ≤ s.free) × (s.free ≤ f + suc (suc h))
    by d true o = (omega arith, omega arith)
    by d false o = (omega arith, omega arith)

drop-room : (s : Store) (bits h n i k : ℕ) → node_cells * suc h + k + 1 < 2 ^ word_width → WayToLast s bits h n i
    → Room (node_cells * suc h + k) s.counts → Room k (drop_last s bits h n i).store.counts
unfolding drop_last leaf_cut branch_cut branch_with make WayToLast
drop-room s bits zero n i k l w r = room-made k _ _ (omega arith) (room-less k (node_cells * 1 + k) _ (omega arith) r)
drop-room s bits (suc h) n i k l w r =
    by (below s bits h n i) (divides (degree bits ^ suc h) i) (drop-room s bits h _ i (node_cells + k) (omega arith) w.2 (room-less _ (node_cells * suc (suc h) + k) _ (omega arith) r))
  where
    by : (d : Made) (t : Bool) → Room (node_cells + k) d.store.counts → Room k (dropped s bits h n i d t).store.counts
    by d true o =
        let c = source s.nodes true n in
        let b = bucket bits (suc h) i in
        room-made k _ _ (omega arith)
        (room-raises k s.counts (slice 0 b c.cells) (room-less _ (node_cells * suc (suc h) + k) _ (omega (arith, length-slice-most 0 b c.cells, w.1.next, w.1.few)) r))
    by d false o = room-made k _ _ (omega arith) (room-others k _ _ _ _ w.1.next w.1.few o)

-- ---- `drop_last`, by its height

pub leaf-drop : (s : Store) (bits h n i : ℕ) (c : Source) (b : ℕ) (m : Made) → h ≡ 0 → c ≡ source s.nodes true n → b ≡ bucket bits h i → m ≡ leaf_cut s c b
    → m ≡ drop_last s bits h n i
unfolding drop_last
leaf-drop s bits zero n i c b m z p q e = e ∙ rw (p, q)
leaf-drop s bits (suc h) n i c b m z p q e = absurd (omega arith)

pub cut-drop : (s : Store) (bits h n i : ℕ) (c : Source) (b : ℕ) (m : Made) → (h ≡ 0 → ⊥) → divides (degree bits ^ h) i ≡ true
    → c ≡ source s.nodes true n → b ≡ bucket bits h i → m ≡ branch_cut s c b → m ≡ drop_last s bits h n i
unfolding drop_last
cut-drop s bits zero n i c b m ne t p q e = absurd (ne refl)
cut-drop s bits (suc h) n i c b m ne t p q e = e ∙ rw (t, p, q)

pub branch-drop : (s : Store) (bits h n i : ℕ) (c : Source) (b : ℕ) (r m : Made) → (h ≡ 0 → ⊥) → divides (degree bits ^ h) i ≡ false
    → c ≡ source s.nodes true n → b ≡ bucket bits h i → r ≡ drop_last s bits (h - 1) (get_or c.cells b 0) i → m ≡ branch_with c b r
    → m ≡ drop_last s bits h n i
unfolding drop_last
branch-drop s bits zero n i c b r m ne t p q k e = absurd (ne refl)
branch-drop s bits (suc h) n i c b r m ne t p q k e = e ∙ rw (t, k, sub-one, p, q)

pub drop-lower : (s : Store) (bits h n i : ℕ) (c : Source) (b : ℕ) → (h ≡ 0 → ⊥) → c ≡ source s.nodes true n → b ≡ bucket bits h i
    → Ready s bits h (WayToLast s bits h n i) → Ready s bits (h - 1) (WayToLast s bits (h - 1) (get_or c.cells b 0) i)
drop-lower s bits h n i c b ne p q r = ready-lower s bits h ne r (last-lower s bits h n i c b ne p q r.way).1

drop-order : (s : Store) (bits h n i : ℕ) → (drop_last s bits h n i).store.order ≡ s.order
unfolding drop_last leaf_cut branch_cut branch_with make
drop-order s bits zero n i = refl
drop-order s bits (suc h) n i = by (below s bits h n i) (divides (degree bits ^ suc h) i) (drop-order s bits h (get_or (source s.nodes true n).cells (bucket bits (suc h) i) 0) i)
  where
    by : (d : Made) (t : Bool) → d.store.order ≡ s.order → (dropped s bits h n i d t).store.order ≡ s.order
    by d true e = refl
    by d false e = e

pub drop-shares : (p q : code.Store) (cells cells' order order' : List ℕ) (bits h n i : ℕ) (c : Source) (b m : ℕ) → (h ≡ 0 → ⊥) → c ≡ source (nodes_with p cells) true n → b ≡ bucket bits h i
    → b < node_cells → Ready (held p cells order) bits h (WayToLast (held p cells order) bits h n i)
    → made_of (held q cells' order') m ≡ drop_last (held p cells order) bits (h - 1) (get_or c.cells b 0) i
    → SameSlices p q → length cells' ≡ length cells → CanShare (held q cells' order') c b
drop-shares p q cells cells' order order' bits h n i c b m ne x y l r e same z =
    let s = held p cells order in
    let s' = held q cells' order' in
    let w = last-lower s bits h n i c b ne x y r.way in
    let child = get_or c.cells b 0 in
    let f : s'.free ≡ (drop_last s bits (h - 1) child i).store.free = ap (λ (d : Made). d.store.free) e in
    let o = drop-free s bits (h - 1) child i in
    let kept-order : order' ≡ order = ap (λ (d : Made). d.store.order) e ∙ drop-order s bits (h - 1) child i in
    let k : Kept s s' = rw kept-order (kept p q cells cells' order same z) in
    let small = height-small s bits h r in
    let some = pos_of_ne-zero ne in
    let room : Room node_cells (drop_last s bits (h - 1) child i).store.counts = drop-room s bits (h - 1) child i node_cells (omega arith) w.1 (room-less _ (node_cells * suc h) s.counts (omega arith) r.room) in
    share-after s s' bits h c b r k l w.0 (omega (arith, o.1, r.enough)) (omega (arith, o.0)) (rw (ap (λ (d : Made). d.store.counts) e) room)

-- a branch can be cut
pub ready-shares : (s : Store) (bits h n i : ℕ) (c : Source) (b : ℕ) → (h ≡ 0 → ⊥) → c ≡ source s.nodes true n → b ≡ bucket bits h i
    → b < node_cells → Ready s bits h (WayToLast s bits h n i) → CanShare s c b
ready-shares s bits h n i c b ne p q l r =
    share-after s s bits h c b r (record { kinds = refl; used = refl; counts = refl; cells = refl; order = refl }) l
    (last-lower s bits h n i c b ne p q r.way).0 (omega (arith, r.enough)) (omega arith)
    (room-less node_cells (node_cells * suc h) s.counts (omega arith) r.room)

-- ---- the root

pub loses-computed : (b h n : ℕ) → h * b < word_width → (leb 1 h && eqb (n - 1) ((1 * 2 ^ (h * b)) % 2 ^ word_width)) ≡ (leb 1 h && eqb (n - 1) (degree b ^ h))
loses-computed b h n l = rw (shift_is b h l)

pub first_cell : (cells : List ℕ) (n : ℕ) → get_or cells (node_cells * n + 0) 0 ≡ get_or (cells_of cells n) 0 0
unfolding cells_of
first_cell cells n = rw (get_or-take node_cells (drop (node_cells * n) cells) 0 0 (omega arith), get_or-drop (node_cells * n) cells 0 0)

pub root-compressed : (s : Store) (cs : List ℕ) (n m : ℕ) → m ≡ get_or (cells_of s.nodes.cells n) 0 0 → cs ≡ raise s.counts m
    → made_of (recounted s cs) m ≡ first_child s n
unfolding first_child raises
root-compressed s cs n m p q = rw (q, p)

-- A call that is not refused: its path can be copied, and what it makes is the model's edit.
use mathlib.Core.Path.{◌≡◌, refl, sym, ap, ◌∙◌}
use mathlib.Core.Bool.{Bool, true, false, cond, ◌&&◌}
use mathlib.Core.List.{List}
use Prim.Native.Nat.{ℕ, zero, suc, ◌+◌, ◌-◌, ◌*◌, ◌^◌, ◌≤◌, ◌<◌}
use native.Mathlib.Nat.{suc-mul, div_self, pos_of_ne-zero}
use native.Mathlib.Omega.{arith}
use mir.Val.{bool_byte}
use borrow.Author.Tests.{leb-true, eqb-true, eq-eqb, ne_eqb}
use lib.Dec.{leb, eqb}
use lib.ListN.{length, drop, get_or, length-drop}
use lib.Seq.{length-take-le}
use Rattle.meaning.specs.Limits.{node_cells, word_width, length_bits, walk_levels, max_length}
use Rattle.meaning.specs.Counting.{bit}
use Rattle.meaning.specs.Lent.{used_of, VersionRecord}
use Rattle.meaning.specs.Shape.{degree, height, bucket, is_root_full}
use Rattle.meaning.specs.Trees.{height_of}
use Rattle.meaning.specs.Costs.{loses_root}
use Rattle.meaning.specs.WellFormed.{LegalBits}
use Rattle.meaning.proofs.Booleans.{both_true}
use Rattle.shape.specs.Legal.{Legal}
use Rattle.shape.proofs.Powers.{power-positive, power-doubles}
use Rattle.shape.proofs.Buckets.{bucket-top}
use Rattle.shape.proofs.Growth.{height-push}
use Rattle.cells.specs.Cells.{cells_of}
use Rattle.store.specs.Store.{Store, node_count, make, raise, raises}
use Rattle.store.specs.Ready.{Sized, Room}
use Rattle.store.proofs.Raising.{below_at, room-less}
use Rattle.paths.specs.Paths.{Made, source, branch_with, assoc, grow, drop_last}
use Rattle.paths.specs.Edits.{Edit, edit, empty_leaf, share_edit, set_edit, push_edit, first_child, drop_edit}
use Rattle.paths.specs.Ready.{made_of, CanMake, Way, WayToLast, Ready}
use Rattle.paths.proofs.Ways.{assoc-free, height-small, top-free}
use Rattle.cuts.proofs.Cutting.{drop-free}
use Rattle.vector.specs.Ready.{edit_of, Steady, Editable, SetWay, PushWay, DropWay, CanPush, CanDrop, Fell}

-- ---- what is required of the copy

ready_at : {W : Type 0} (s : Store) (bits h : ℕ) → Steady s → LegalBits bits → h * bits < word_width → h ≤ walk_levels → h < s.free → W → Ready s bits h W
ready_at s bits h z b l k f w = record {
  legal = b;
  shift = l;
  sized = z.sized;
  enough = f;
  most = z.most;
  free = z.free;
  room = room-less (node_cells * suc h) (node_cells * suc walk_levels) s.counts (omega arith) z.room;
  way = w;
}

-- the bounds that `height` ensures
abbrev Low : (bits h : ℕ) → Type 0
Low bits h = (h < walk_levels) × (h * bits < length_bits)

pub new-can : (s : Store) → Steady s → 1 ≤ s.free → CanMake s 0
new-can s z f = record { sized = z.sized; top = top-free s f z.most z.free; cell = omega arith }

pub set-ready : (s : Store) (v : VersionRecord) (i h : ℕ) → Editable s v (SetWay s v i) → h ≡ height_of v → Low v.bits h → i < v.length → h + 1 ≤ s.free
    → Ready s v.bits h (Way s v.bits h true v.root i)
set-ready s v i h e p b l f = ready_at s v.bits h e.steady e.legal.bits (omega (arith, b.1)) (omega (arith, b.0)) (omega arith) (rw p (e.way l))

-- the height with one element more, as the code adds it up
pub push-height : (b n h : ℕ) (full : Bool) → Legal b n → h ≡ height b n → full ≡ is_root_full b n → (h + bool_byte full ≡ height b (n + 1)) × (bool_byte full ≤ 1)
push-height b n h true z p q = (omega (arith, height-push b n z.bits.least (omega arith), ap bit q), omega arith)
push-height b n h false z p q = (omega (arith, height-push b n z.bits.least (omega arith), ap bit q), omega arith)

pub push-can : (s : Store) (v : VersionRecord) (h : ℕ) (full : Bool) → Editable s v (PushWay s v) → h ≡ height_of v → Low v.bits h → v.length < max_length
    → full ≡ is_root_full v.bits v.length → h + bool_byte full + 1 ≤ s.free → CanPush s v h full
push-can s v h full e p b l q f =
    let legal = e.legal.bits in
    record {
      height = p;
      root = q;
      within = λ t. ready_at s v.bits h e.steady legal (omega (arith, b.1)) (omega (arith, b.0)) (omega (arith, ap bool_byte t)) (rw p (e.way.within l (sym q ∙ t)));
      beyond = λ t. ready_at s v.bits (suc h) e.steady legal (omega (arith, b.1, suc-mul h v.bits, legal.most)) (omega (arith, b.0)) (omega (arith, ap bool_byte t)) (rw p (e.way.beyond l (sym q ∙ t)));
    }

pub drop-can : (s : Store) (v : VersionRecord) (h : ℕ) → Editable s v (DropWay s v) → h ≡ height_of v → Low v.bits h → (v.length ≡ 0 → ⊥) → h + 1 ≤ s.free
    → CanDrop s v h
drop-can s v h e p b ne f =
    let some : 1 ≤ v.length = pos_of_ne-zero ne in
    record {
      legal = e.legal;
      height = p;
      some = some;
      ready = ready_at s v.bits h e.steady e.legal.bits (omega (arith, b.1)) (omega (arith, b.0)) (omega arith) (rw p (e.way some));
    }

-- ---- the first child of a root that keeps one

cells-length : (s : Store) (n : ℕ) → Sized s → n < node_count s → length (cells_of s.nodes.cells n) ≡ node_cells
unfolding cells_of
cells-length s n z l = length-take-le node_cells (drop (node_cells * n) s.nodes.cells) (simp length-drop (omega (arith, z.cells)))

-- the last of d ^ h + 1 elements stands below the second child
bucket-second : (b h : ℕ) → 1 ≤ b → bucket b h (degree b ^ h) ≡ 1
bucket-second b h l =
    bucket-top b h (degree b ^ h) (omega (arith, power-doubles b h l, power-positive b h)) ∙ div_self (power-positive b h)

child-below : (s : Store) (bits h n : ℕ) → Sized s → 1 ≤ bits → 1 ≤ h → WayToLast s bits h n (degree bits ^ h)
    → get_or (cells_of s.nodes.cells n) 0 0 < node_count s
unfolding WayToLast source
child-below s bits zero n z b l w = absurd (omega arith)
child-below s bits (suc h) n z b l w =
    below_at (node_count s) (cells_of s.nodes.cells n) (used_of s.nodes n) 0 w.1.children
    (omega (arith, w.1.next, bucket-second bits (suc h) b)) (rw (cells-length s n z w.0) w.1.few)

pub compress-can : (s : Store) (v : VersionRecord) (h : ℕ) → CanDrop s v h → (leb 1 h && eqb (v.length - 1) (degree v.bits ^ h)) ≡ true
    → (get_or (cells_of s.nodes.cells v.root) 0 0 < length s.counts) × Room 1 s.counts
compress-can s v h d t =
    let e = both_true (leb 1 h) (eqb (v.length - 1) (degree v.bits ^ h)) t in
    let r = d.ready in
    let w : WayToLast s v.bits h v.root (degree v.bits ^ h) = rw (eqb-true (v.length - 1) (degree v.bits ^ h) e.1) at r.way in (
      rw r.sized.counts (child-below s v.bits h v.root r.sized r.legal.least (leb-true 1 h e.0) w),
      room-less 1 (node_cells * suc h) s.counts (omega arith) r.room,
    )

-- ---- what is made

pub root-shared : (s : Store) (c : List ℕ) (v : VersionRecord) → c ≡ raise s.counts v.root
    → edit_of (record { nodes = s.nodes; counts = c; order = s.order; free = s.free }) v ≡ share_edit s v
unfolding share_edit raises
root-shared s c v e = rw e

pub set-made : (s : Store) (v : VersionRecord) (i x h : ℕ) (d : Made) → h ≡ height_of v → d ≡ assoc s v.bits h true v.root i x
    → edit d v.bits v.length ≡ set_edit s v i x
unfolding set_edit
set-made s v i x h d p e = ap (λ (m : Made). edit m v.bits v.length) e ∙ rw p

pub push-grown : (s : Store) (v : VersionRecord) (x h : ℕ) (full : Bool) (d : Made) → CanPush s v h full → full ≡ true
    → d ≡ grow s v.bits h v.root v.length x → edit d v.bits (v.length + 1) ≡ push_edit s v x
unfolding push_edit
push-grown s v x h full d can t e = ap (λ (m : Made). edit m v.bits (v.length + 1)) e ∙ rw (can.height, ← can.root, t)

pub push-made : (s : Store) (v : VersionRecord) (x h : ℕ) (full : Bool) (d : Made) → CanPush s v h full → full ≡ false
    → d ≡ assoc s v.bits h true v.root v.length x → edit d v.bits (v.length + 1) ≡ push_edit s v x
unfolding push_edit
push-made s v x h full d can t e = ap (λ (m : Made). edit m v.bits (v.length + 1)) e ∙ rw (can.height, ← can.root, t)

pub drop-only : (s : Store) (v : VersionRecord) (d : Made) → v.length ≡ 1 → d ≡ empty_leaf s → edit d v.bits (v.length - 1) ≡ drop_edit s v
unfolding drop_edit
drop-only s v d p e = ap (λ (m : Made). edit m v.bits (v.length - 1)) e ∙ rw (eq-eqb v.length 1 p)

pub drop-root : (s : Store) (v : VersionRecord) (h : ℕ) (d : Made) → h ≡ height_of v → (v.length ≡ 1 → ⊥)
    → (leb 1 h && eqb (v.length - 1) (degree v.bits ^ h)) ≡ true → d ≡ first_child s v.root → edit d v.bits (v.length - 1) ≡ drop_edit s v
unfolding drop_edit
drop-root s v h d p ne t e =
    let loses : loses_root v.bits v.length ≡ true = rw p at t in
    ap (λ (m : Made). edit m v.bits (v.length - 1)) e ∙ rw (ne_eqb v.length 1 ne, loses)

pub drop-made : (s : Store) (v : VersionRecord) (h : ℕ) (d : Made) → h ≡ height_of v → (v.length ≡ 1 → ⊥)
    → (leb 1 h && eqb (v.length - 1) (degree v.bits ^ h)) ≡ false → d ≡ drop_last s v.bits h v.root (v.length - 1)
    → edit d v.bits (v.length - 1) ≡ drop_edit s v
unfolding drop_edit
drop-made s v h d p ne t e =
    let loses : loses_root v.bits v.length ≡ false = rw p at t in
    ap (λ (m : Made). edit m v.bits (v.length - 1)) e ∙ rw (ne_eqb v.length 1 ne, loses, p)

-- ---- what is left free

abbrev made_in : Edit → Made
made_in e = made_of e.store e.version.root

pub new-fell : (s s' : Store) (m : ℕ) → made_of s' m ≡ empty_leaf s → Fell s.free s'.free
unfolding empty_leaf make
new-fell s s' m e = let f : s'.free ≡ s.free - 1 = ap (λ (d : Made). d.store.free) e in record { most = omega arith; least = omega arith }

pub set-fell : {W : Type 0} (s s' : Store) (bits h : ℕ) (there : Bool) (n i x m : ℕ) → Ready s bits h W → made_of s' m ≡ assoc s bits h there n i x → Fell s.free s'.free
set-fell s s' bits h there n i x m r e =
    let f : s'.free ≡ s.free - suc h = ap (λ (d : Made). d.store.free) e ∙ assoc-free s bits h there n i x in
    let l = height-small s bits h r in
    record { most = omega arith; least = omega arith }

pub grow-fell : {W : Type 0} (s s' : Store) (bits h n i x m : ℕ) → Ready s bits (suc h) W → made_of s' m ≡ grow s bits h n i x → Fell s.free s'.free
unfolding grow branch_with make
grow-fell s s' bits h n i x m r e =
    let f = ap (λ (d : Made). d.store.free) e in
    let k = assoc-free s bits h false 0 i x in
    let l = height-small s bits (suc h) r in
    record { most = omega (arith, f); least = omega (arith, f) }

pub push-fell : (s s' : Store) (v : VersionRecord) (h : ℕ) (full : Bool) (m bits n x : ℕ) → CanPush s v h full → edit (made_of s' m) bits n ≡ push_edit s v x
    → Fell s.free s'.free
unfolding push_edit
push-fell s s' v h true m bits n x can e = grow-fell s s' v.bits h v.root v.length x m (can.beyond refl) (ap made_in e ∙ rw (can.height, ← can.root))
push-fell s s' v h false m bits n x can e = set-fell s s' v.bits h true v.root v.length x m (can.within refl) (ap made_in e ∙ rw (can.height, ← can.root))

pub drop-fell : (s s' : Store) (v : VersionRecord) (h m bits n : ℕ) → CanDrop s v h → edit (made_of s' m) bits n ≡ drop_edit s v
    → Fell s.free s'.free
unfolding drop_edit empty_leaf first_child make
drop-fell s s' v h m bits n can e =
    let f = ap (λ (d : Edit). d.store.free) e in
    let o = by (eqb v.length 1) (loses_root v.bits v.length) in
    record { most = omega (arith, f, o.0); least = omega (arith, f, o.1) }
  where
    d : Made
    d = drop_last s v.bits (height_of v) v.root (v.length - 1)

    by : (t u : Bool) → let r = (cond t (empty_leaf s) (cond u (first_child s v.root) d)).store.free in (r ≤ s.free) × (s.free ≤ r + word_width)
    by true u = (omega arith, omega arith)
    by false true = (omega arith, omega arith)
    by false false = let k = drop-free s v.bits (height_of v) v.root (v.length - 1) in (omega (arith, k.0), omega (arith, k.1, can.height, height-small s v.bits h can.ready))

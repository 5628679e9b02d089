-- A way copied: what is left free and which counts have room, at each height.
use mathlib.Core.Path.{◌≡◌, refl, sym, ap, ◌∙◌}
use mathlib.Core.Bool.{Bool, true, false}
use mathlib.Core.List.{List, ◌∷◌}
use Prim.Native.Nat.{ℕ, zero, suc, ◌+◌, ◌-◌, ◌*◌, ◌^◌, ◌≤◌, ◌<◌}
use native.Mathlib.Numerals.{sub-one}
use native.Mathlib.Nat.{lt_of_not-le, pos_of_ne-zero, mul-le-mul_left}
use native.Mathlib.Decide.{ℕ_discrete, dec_lt}
use native.Mathlib.Omega.{arith}
use lib.Dec.{ltb}
use lib.ListN.{length, take, get_or, set, replicate, length-append, length-take, length-drop}
use lib.Seq.{slice, get_or-set_same, get_or-set_other, set_out}
use Rattle.std.specs.Prelude.{Option, is_some}
use Rattle.std.specs.Bool.{then_some}
use Rattle.meaning.specs.Limits.{node_cells, word_width}
use Rattle.meaning.specs.Shape.{bucket}
use Rattle.store.specs.Store.{Store, node_count, raises, top, make}
use Rattle.store.specs.Ready.{Sized, FreeOnTop, Room, AllBelow}
use Rattle.store.specs.Answers.{others}
use Rattle.store.specs.Lent.{nodes_with, held, SameSlices}
use Rattle.store.specs.declared.Store as code
use Rattle.records.specs.declared.NodeNo.{NodeNo}
use Rattle.store.proofs.Raising.{below_at, below-fewer, room-less, room-raises}
use Rattle.shape.proofs.Powers.{shift_falls}
use Rattle.paths.specs.Paths.{Made, Source, source, leaf_with, branch_with, assoc, grow}
use Rattle.paths.specs.Ready.{made_of, source_of, node_number, HasCells, CanMake, Fork, CanShare, Way, WayBeyond, Ready}

-- ---- room

-- a node made has a count of 1
pub room-made : (k : ℕ) (cs : List ℕ) (m : ℕ) → k + 1 < 2 ^ word_width → Room k cs → Room k (set cs m 1)
unfolding Room
room-made k cs m l h i =
    elim (ℕ_discrete i m) [
      | yes e ↦ rw e (elim (dec_lt m (length cs)) [
        | yes b ↦ rw (get_or-set_same cs m 1 0 b) (omega arith)
        | no b ↦ rw (set_out cs m 1 (omega (arith, lt_of_not-le b))) (h m)
      ])
      | no e ↦ rw (get_or-set_other cs m i 1 0 e) (h i)
    ]

pub length-slice-most : (f t : ℕ) (a : List ℕ) → length (slice f t a) ≤ t - f
length-slice-most f t a = simp (length-drop, length-take) (omega arith)

-- the other children of a branch are at most 32
pub room-others : (k : ℕ) (cs a : List ℕ) (used b : ℕ) → b ≤ used → used ≤ node_cells → Room (node_cells + k) cs → Room k (raises cs (others a used b))
room-others k cs a used b l m h =
    let n : length (others a used b) ≤ node_cells = rw (length-append (slice 0 b a) (slice (b + 1) used a)) (omega (arith, length-slice-most 0 b a, length-slice-most (b + 1) used a)) in
    room-raises k cs (others a used b) (room-less _ (node_cells + k) cs (omega arith) h)

-- ---- set and push

pub assoc-free : (s : Store) (bits h : ℕ) (there : Bool) (n i v : ℕ) → (assoc s bits h there n i v).store.free ≡ s.free - suc h
unfolding assoc leaf_with branch_with make
assoc-free s bits zero there n i v = refl
assoc-free s bits (suc h) there n i v = omega (arith, assoc-free s bits h (ltb (bucket bits (suc h) i) (source s.nodes there n).used) (get_or (source s.nodes there n).cells (bucket bits (suc h) i) 0) i v)

pub assoc-room : (s : Store) (bits h : ℕ) (there : Bool) (n i v k : ℕ) → node_cells * h + k + 1 < 2 ^ word_width → Way s bits h there n i
    → Room (node_cells * h + k) s.counts → Room k (assoc s bits h there n i v).store.counts
unfolding assoc leaf_with branch_with make Way
assoc-room s bits zero there n i v k l w r = room-made k _ _ (omega arith) (room-less k (node_cells * 0 + k) _ (omega arith) r)
assoc-room s bits (suc h) there n i v k l w r =
    room-made k _ _ (omega arith)
    (room-others k _ _ _ _ w.1.next w.1.few
    (assoc-room s bits h _ _ i v (node_cells + k) (omega arith) w.2 (room-less _ (node_cells * suc h + k) _ (omega arith) r)))

-- ---- what is required of one level

-- the node that is copied has its cells
pub way-cells : (s : Store) (bits h : ℕ) (there : Bool) (n i : ℕ) → Sized s → Way s bits h there n i → there ≡ true → HasCells s.nodes.used s.nodes.cells n
unfolding Way
way-cells s bits h there n i z w t =
    let l : n < node_count s = first h w t in
    record { used = omega (arith, z.used); cells = omega (arith, z.cells) }
  where
    first : (h : ℕ) → Way s bits h there n i → there ≡ true → n < node_count s
    first zero w = w
    first (suc h) w = w.0

pub top-free : (s : Store) → 0 < s.free → s.free ≤ length s.order → AllBelow (node_count s) (take s.free s.order) → FreeOnTop s
unfolding top
top-free s l m h = record { some = l; most = m; below = below_at (node_count s) s.order s.free (s.free - 1) h (omega arith) m }

pub ready-makes : {W : Type 0} (s : Store) (bits h b : ℕ) → Ready s bits h W → b < node_cells → CanMake s b
ready-makes s bits h b r l = record { sized = r.sized; top = top-free s (omega (arith, r.enough)) r.most r.free; cell = l }

-- one level lower
pub ready-less : {W W' : Type 0} (s : Store) (bits h : ℕ) → Ready s bits (suc h) W → W' → Ready s bits h W'
ready-less s bits h r w = record {
  legal = r.legal;
  shift = shift_falls bits h r.shift;
  sized = r.sized;
  enough = omega (arith, r.enough);
  most = r.most;
  free = r.free;
  room = room-less (node_cells * suc h) (node_cells * suc (suc h)) s.counts (omega arith) r.room;
  way = w;
}

pub ready-lower : {W W' : Type 0} (s : Store) (bits h : ℕ) → (h ≡ 0 → ⊥) → Ready s bits h W → W' → Ready s bits (h - 1) W'
ready-lower s bits zero ne r w = absurd (ne refl)
ready-lower s bits (suc h) ne r w = rw sub-one (ready-less s bits h r w)

pub height-small : {W : Type 0} (s : Store) (bits h : ℕ) → Ready s bits h W → h < word_width
height-small s bits h r = omega (arith, r.shift, mul-le-mul_left h r.legal.least)

-- what a copy leaves as it was
pub record Kept (s s' : Store) : Type 0 where
  pub kinds : length s'.nodes.kinds ≡ length s.nodes.kinds
  pub used : length s'.nodes.used ≡ length s.nodes.used
  pub counts : length s'.counts ≡ length s.counts
  pub cells : length s'.nodes.cells ≡ length s.nodes.cells
  pub order : s'.order ≡ s.order

pub kept : (p q : code.Store) (cells cells' order : List ℕ) → SameSlices p q → length cells' ≡ length cells → Kept (held p cells order) (held q cells' order)
kept p q cells cells' order k l = record { kinds = k.kinds.length; used = k.used.length; counts = k.counts.length; cells = l; order = refl }

-- once the way below is copied, the branch above it can be made
pub share-after : {W : Type 0} (s s' : Store) (bits h : ℕ) (c : Source) (b : ℕ) → Ready s bits h W → Kept s s' → b < node_cells → Fork (node_count s) c b
    → 0 < s'.free → s'.free ≤ s.free → Room node_cells s'.counts → CanShare s' c b
share-after s s' bits h c b r k l f some most room =
    let z = r.sized in
    let most' : s'.free ≤ length s'.order = rw k.order (omega (arith, r.most)) in
    let below : AllBelow (node_count s') (take s'.free s'.order) = rw (k.order, k.kinds) (below-fewer (node_count s) s.order s'.free s.free most r.most r.free) in
    record {
      make = record {
        sized = record {
          used = k.used ∙ (z.used ∙ sym k.kinds);
          counts = k.counts ∙ (z.counts ∙ sym k.kinds);
          order = ap length k.order ∙ (z.order ∙ sym k.kinds);
          cells = k.cells ∙ (z.cells ∙ ap (λ (n : ℕ). node_cells * n) (sym k.kinds));
        };
        top = top-free s' some most' below;
        cell = l;
      };
      fork = record { few = f.few; next = f.next; children = rw k.kinds f.children };
      room = room;
    }

-- ---- `assoc`, by its height

pub leaf-assoc : (s : Store) (bits h : ℕ) (there : Bool) (n i v : ℕ) (c : Source) (b : ℕ) (m : Made) → h ≡ 0 → c ≡ source s.nodes there n → b ≡ bucket bits h i
    → m ≡ leaf_with s c b v → m ≡ assoc s bits h there n i v
unfolding assoc
leaf-assoc s bits zero there n i v c b m z p q e = e ∙ rw (p, q)
leaf-assoc s bits (suc h) there n i v c b m z p q e = absurd (omega arith)

pub branch-assoc : (s : Store) (bits h : ℕ) (there : Bool) (n i v : ℕ) (c : Source) (b : ℕ) (r m : Made) → (h ≡ 0 → ⊥) → c ≡ source s.nodes there n → b ≡ bucket bits h i
    → r ≡ assoc s bits (h - 1) (ltb b c.used) (get_or c.cells b 0) i v → m ≡ branch_with c b r → m ≡ assoc s bits h there n i v
unfolding assoc
branch-assoc s bits zero there n i v c b r m ne p q k e = absurd (ne refl)
branch-assoc s bits (suc h) there n i v c b r m ne p q k e = e ∙ rw (k, sub-one, p, q)

way-lower : (s : Store) (bits h : ℕ) (there : Bool) (n i : ℕ) (c : Source) (b : ℕ) → (h ≡ 0 → ⊥) → c ≡ source s.nodes there n → b ≡ bucket bits h i
    → Way s bits h there n i → Fork (node_count s) c b × Way s bits (h - 1) (ltb b c.used) (get_or c.cells b 0) i
unfolding Way
way-lower s bits zero there n i c b ne p q w = absurd (ne refl)
way-lower s bits (suc h) there n i c b ne p q w = rw (sub-one, p, q) (w.1, w.2)

-- ---- the child that is copied: one of those in use, or none

-- where there is no node, its number does not matter
assoc-new : (s : Store) (bits h n m i v : ℕ) → assoc s bits h false n i v ≡ assoc s bits h false m i v
unfolding assoc source
assoc-new s bits zero n m i v = refl
assoc-new s bits (suc h) n m i v = refl

way-new : (s : Store) (bits h n m i : ℕ) → Way s bits h false n i → Way s bits h false m i
unfolding Way source
way-new s bits zero n m i w = λ e. absurd (cc)
way-new s bits (suc h) n m i w = (λ e. absurd (cc), w.1, w.2)

pub assoc-child : (s : Store) (bits h : ℕ) (t : Bool) (n i v : ℕ) (o : Option NodeNo) (x : NodeNo) → o ≡ then_some t x → x.0 ≡ n
    → assoc s bits h (is_some o) (node_number o) i v ≡ assoc s bits h t n i v
assoc-child s bits h true n i v o x e f = rw (e, f)
assoc-child s bits h false n i v o x e f = rw e (assoc-new s bits h 0 n i v)

way-child : (s : Store) (bits h : ℕ) (t : Bool) (n i : ℕ) (o : Option NodeNo) (x : NodeNo) → o ≡ then_some t x → x.0 ≡ n
    → Way s bits h t n i → Way s bits h (is_some o) (node_number o) i
way-child s bits h true n i o x e f w = rw (e, f) w
way-child s bits h false n i o x e f w = rw e (way-new s bits h n 0 i w)

pub assoc-lower : (s : Store) (bits h : ℕ) (there : Bool) (n i : ℕ) (c : Source) (b : ℕ) (o : Option NodeNo) (x : NodeNo) → (h ≡ 0 → ⊥)
    → c ≡ source s.nodes there n → b ≡ bucket bits h i → o ≡ then_some (ltb b c.used) x → x.0 ≡ get_or c.cells b 0
    → Ready s bits h (Way s bits h there n i) → Ready s bits (h - 1) (Way s bits (h - 1) (is_some o) (node_number o) i)
assoc-lower s bits h there n i c b o x ne p q e f r =
    ready-lower s bits h ne r (way-child s bits (h - 1) (ltb b c.used) (get_or c.cells b 0) i o x e f (way-lower s bits h there n i c b ne p q r.way).1)

-- after a way of height h, where one of height k or more could be copied
assoc-leaves : {W : Type 0} (s s' : Store) (bits h k : ℕ) (there : Bool) (n i v m : ℕ) → h < k → Ready s bits k W → Way s bits h there n i
    → made_of s' m ≡ assoc s bits h there n i v → (0 < s'.free) × (s'.free ≤ s.free) × Room node_cells s'.counts
assoc-leaves s s' bits h k there n i v m l r w e =
    let f : s'.free ≡ s.free - suc h = ap (λ (d : Made). d.store.free) e ∙ assoc-free s bits h there n i v in
    let small = height-small s bits k r in
    let room : Room node_cells (assoc s bits h there n i v).store.counts = assoc-room s bits h there n i v node_cells (omega arith) w (room-less _ (node_cells * suc k) s.counts (omega arith) r.room) in
    (omega (arith, r.enough), omega arith, rw (ap (λ (d : Made). d.store.counts) e) room)

assoc-order : (s : Store) (bits h : ℕ) (there : Bool) (n i v : ℕ) → (assoc s bits h there n i v).store.order ≡ s.order
unfolding assoc leaf_with branch_with make
assoc-order s bits zero there n i v = refl
assoc-order s bits (suc h) there n i v = assoc-order s bits h (ltb (bucket bits (suc h) i) (source s.nodes there n).used) (get_or (source s.nodes there n).cells (bucket bits (suc h) i) 0) i v

assoc-kept : (p q : code.Store) (cells cells' order order' : List ℕ) (bits h : ℕ) (there : Bool) (n i v m : ℕ) → SameSlices p q → length cells' ≡ length cells
    → made_of (held q cells' order') m ≡ assoc (held p cells order) bits h there n i v → Kept (held p cells order) (held q cells' order')
assoc-kept p q cells cells' order order' bits h there n i v m k z e =
    let o : order' ≡ order = ap (λ (d : Made). d.store.order) e ∙ assoc-order (held p cells order) bits h there n i v in
    rw o (kept p q cells cells' order k z)

pub assoc-shares : (p q : code.Store) (cells cells' order order' : List ℕ) (bits h : ℕ) (there : Bool) (n i v : ℕ) (c : Source) (b : ℕ) (o : Option NodeNo) (x : NodeNo) (m : ℕ) → (h ≡ 0 → ⊥)
    → c ≡ source (nodes_with p cells) there n → b ≡ bucket bits h i → o ≡ then_some (ltb b c.used) x → x.0 ≡ get_or c.cells b 0 → b < node_cells
    → Ready (held p cells order) bits h (Way (held p cells order) bits h there n i)
    → made_of (held q cells' order') m ≡ assoc (held p cells order) bits (h - 1) (is_some o) (node_number o) i v → SameSlices p q → length cells' ≡ length cells
    → CanShare (held q cells' order') c b
assoc-shares p q cells cells' order order' bits h there n i v c b o x m ne e f g k l r d same z =
    let s = held p cells order in
    let w = way-lower s bits h there n i c b ne e f r.way in
    let way = way-child s bits (h - 1) (ltb b c.used) (get_or c.cells b 0) i o x g k w.1 in
    let left = assoc-leaves s (held q cells' order') bits (h - 1) h _ _ i v m (omega (arith, pos_of_ne-zero ne)) r way d in
    share-after s (held q cells' order') bits h c b r (assoc-kept p q cells cells' order order' bits (h - 1) _ _ i v m same z d) l w.0 left.0 left.1 left.2

-- ---- `grow`

-- the cells of a new root over a full one
abbrev pub over_root : (root : ℕ) → Source
over_root n = source_of (set (replicate node_cells 0) 0 n) 1

one_below : (n root : ℕ) (xs : List ℕ) → root < n → AllBelow n (take 1 (root ∷ xs))
unfolding AllBelow
one_below n root xs h zero l = h
one_below n root xs h (suc i) l = absurd (omega arith)

pub grow-shares : (p q : code.Store) (cells cells' order order' : List ℕ) (bits h root i v m : ℕ) → Ready (held p cells order) bits (suc h) (WayBeyond (held p cells order) bits h root i)
    → made_of (held q cells' order') m ≡ assoc (held p cells order) bits h false 0 i v → SameSlices p q → length cells' ≡ length cells
    → CanShare (held q cells' order') (over_root root) 1
grow-shares p q cells cells' order order' bits h root i v m r e k z =
    let s = held p cells order in
    let o = assoc-leaves s (held q cells' order') bits h (suc h) false 0 i v m (omega arith) r r.way.1 e in
    let n = node_count s in
    let f : Fork n (over_root root) 1 = record { few = omega arith; next = omega arith; children = one_below n root (replicate (node_cells - 1) 0) r.way.0 } in
    share-after s (held q cells' order') bits (suc h) (over_root root) 1 r (assoc-kept p q cells cells' order order' bits h false 0 i v m k z e) (omega arith) f o.0 o.1 o.2

pub root-grown : (s : Store) (bits h root i v : ℕ) (r m : Made) → r ≡ assoc s bits h false 0 i v → m ≡ branch_with (over_root root) 1 r → m ≡ grow s bits h root i v
unfolding grow
root-grown s bits h root i v r m p e = e ∙ rw p

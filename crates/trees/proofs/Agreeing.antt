-- What two stores agree on has one shape, one content and one way to each element in both; so versions, walks and whole tables of them stay as they were.
use mathlib.Core.Path.{◌≡◌, refl, sym, ap, ◌∙◌}
use mathlib.Core.Logic.{◌≢◌, inl, inr}
use mathlib.Core.Bool.{Bool, true, false, cond, ◌||◌}
use mathlib.Core.List.{List, [], ◌∷◌, map}
use Prim.Native.Nat.{ℕ, zero, suc, ◌-◌, ◌^◌, ◌<◌}
use native.Mathlib.Nat.{mod-le}
use native.Mathlib.Omega.{arith}
use lib.Dec.{eqb}
use borrow.Author.Tests.{eqb-false}
use Rattle.meaning.specs.Counting.{Each}
use Rattle.meaning.specs.Lent.{Nodes, used_of, cell_of, VersionRecord, WalkRecord, Lent, walk_records}
use Rattle.meaning.specs.Shape.{degree, bucket}
use Rattle.meaning.specs.Trees.{Shaped, height_of, element, contents}
use Rattle.meaning.specs.Walks.{way, stack, padded, forward_stack, backward_stack}
use Rattle.meaning.specs.Links.{live_roots, roots, Reached, by_root, by_cell}
use Rattle.meaning.specs.WellFormed.{LegalBits, Live, LegalVersion, Open, LegalWalk}
use Rattle.meaning.specs.Stands.{slot_of, walk_of}
use Rattle.meaning.proofs.Lists.{each_map, each-split}
use Rattle.meaning.proofs.Sums.{occurs-each}
use Rattle.meaning.proofs.Rows.{rows_agree}
use Rattle.meaning.proofs.Nodes.{child-linked}
use Rattle.shape.proofs.Powers.{degree-most}
use Rattle.shape.proofs.Buckets.{bucket-below}
use Rattle.store.specs.Frame.{Same}
use Rattle.trees.specs.Elements.{inside}
use Rattle.trees.specs.Agreeing.{Agreeing, SlotStays, WalkStays, RecordsStay}
use Rattle.trees.proofs.Digits.{index-descends}

-- ---- trees

module _ {s t : Nodes} {P : ℕ → Type 0} (a : Agreeing s t P) (bits : ℕ) (legal : LegalBits bits) where
  -- a child is in the set, and is the same child in both
  child-agrees : (h m n i : ℕ) → P n → Shaped s bits (suc h) m n → i < used_of s n → P (cell_of s n i) × (cell_of t n i ≡ cell_of s n i)
  unfolding Shaped
  child-agrees h m n i own p l =
      (a.closed n (cell_of s n i) own (child-linked s n i p.kind l), (a.same n own).cells i (omega (arith, p.room, degree-most bits legal.most)))

  pub shape-agrees : (h m n : ℕ) → P n → Shaped s bits h m n → Shaped t bits h m n
  unfolding Shaped
  shape-agrees zero m n own p = let q = a.same n own in record { kind = q.kind ∙ p.kind; used = q.used ∙ p.used; room = p.room }
  shape-agrees (suc h) m n own p =
      let q = a.same n own in
      record {
        kind = q.kind ∙ p.kind;
        room = rw q.used p.room;
        enough = rw q.used p.enough;
        needed = rw q.used p.needed;
        children = λ i l.
            let u : i < used_of s n = rw q.used at l in
            let c = child-agrees h m n i own p u in
            rw c.1 (shape-agrees h _ (cell_of s n i) c.0 (p.children i u));
      }

  pub element-agrees : (h m n i : ℕ) → P n → Shaped s bits h m n → inside bits h i < m → element t bits h n i ≡ element s bits h n i
  unfolding Shaped element
  element-agrees zero m n i own p l = (a.same n own).cells (bucket bits 0 i) (omega (arith, bucket-below bits 0 i, degree-most bits legal.most))
  element-agrees (suc h) m n i own p l =
      let w = index-descends s bits h m n i p l in
      let c = child-agrees h m n (bucket bits (suc h) i) own p w.0 in
      rw c.1 (element-agrees h _ (cell_of s n (bucket bits (suc h) i)) i c.0 (p.children (bucket bits (suc h) i) w.0) w.1)

  pub way-agrees : (h m n i : ℕ) → P n → Shaped s bits h m n → inside bits h i < m → way t bits h n i ≡ way s bits h n i
  unfolding Shaped way
  way-agrees zero m n i own p l = refl
  way-agrees (suc h) m n i own p l =
      let w = index-descends s bits h m n i p l in
      let c = child-agrees h m n (bucket bits (suc h) i) own p w.0 in
      rw (c.1, way-agrees h _ (cell_of s n (bucket bits (suc h) i)) i c.0 (p.children (bucket bits (suc h) i) w.0) w.1)

-- ---- versions and walks

-- an index, as the tree of a version counts it
below : (v : VersionRecord) (i : ℕ) → i < v.length → inside v.bits (height_of v) i < v.length
below v i l = omega (arith, mod-le i (degree v.bits ^ suc (height_of v)))

module _ {s t : Nodes} {P : ℕ → Type 0} (a : Agreeing s t P) where
  pub live-agrees : (v : VersionRecord) → P v.root → Live s v → Live t v
  live-agrees v own l = record {
    live = l.live;
    bits = l.bits;
    length = l.length;
    shape = shape-agrees a v.bits l.bits (height_of v) v.length v.root own l.shape;
  }

  pub contents-agree : (v : VersionRecord) → P v.root → Live s v → contents t v ≡ contents s v
  unfolding contents
  contents-agree v own l =
      rows_agree v.length _ _ (λ i b. element-agrees a v.bits l.bits (height_of v) v.length v.root i own l.shape (below v i b))

  pub stack-agrees : (v : VersionRecord) (taken i : ℕ) → P v.root → Live s v → (taken ≢ 0 → taken ≢ v.length → i < v.length) → stack t v taken i ≡ stack s v taken i
  unfolding stack
  stack-agrees v taken i own l h = pick (eqb taken 0) (eqb taken v.length) refl refl
    where
      pick : (none all : Bool) → eqb taken 0 ≡ none → eqb taken v.length ≡ all
          → cond (none || all) [] (way t v.bits (height_of v) v.root i) ≡ cond (none || all) [] (way s v.bits (height_of v) v.root i)
      pick true all e₁ e₂ = refl
      pick false true e₁ e₂ = refl
      pick false false e₁ e₂ =
          way-agrees a v.bits l.bits (height_of v) v.length v.root i own l.shape (below v i (h (eqb-false taken 0 e₁) (eqb-false taken v.length e₂)))

  pub forward-agrees : (w : WalkRecord) → P w.version.root → Open s w → forward_stack t w ≡ forward_stack s w
  unfolding forward_stack
  forward-agrees w own o = ap padded (stack-agrees w.version w.front w.front own o.version (λ f g. omega (arith, o.taken)))

  pub backward-agrees : (w : WalkRecord) → P w.version.root → Open s w → backward_stack t w ≡ backward_stack s w
  unfolding backward_stack
  backward-agrees w own o = ap padded (stack-agrees w.version w.back (w.version.length - 1 - w.back) own o.version (λ f g. omega (arith, o.taken)))

  pub open-agrees : (w : WalkRecord) → P w.version.root → Open s w → Open t w
  open-agrees w own o = record {
    version = live-agrees w.version own o.version;
    taken = o.taken;
    forward = o.forward ∙ sym (forward-agrees w own o);
    backward = o.backward ∙ sym (backward-agrees w own o);
  }

  -- ---- tables

  -- the live ones have their roots in the set
  pub versions-agree : (vs : List VersionRecord) → Each P (live_roots vs) → Each (LegalVersion s) vs → Each (SlotStays s t) vs
  unfolding live_roots slot_of
  versions-agree [] own h = tt
  versions-agree (v ∷ vs) own h = pick h.0 (λ q. versions-agree vs q h.1)
    where
      pick : LegalVersion s v → (Each P (live_roots vs) → Each (SlotStays s t) vs) → SlotStays s t v × Each (SlotStays s t) vs
      pick (inl e) rest = ((inl e, rw e), rest (rw e at own))
      pick (inr l) rest = let k = rw l.live at own in ((inr (live-agrees v k.0 l), rw (contents-agree v k.0 l)), rest k.1)

  pub walks-agree : (ws : List WalkRecord) → Each P (live_roots (map (λ (w : WalkRecord). w.version) ws)) → Each (LegalWalk s) ws → Each (WalkStays s t) ws
  unfolding live_roots walk_of
  walks-agree [] own h = tt
  walks-agree (w ∷ ws) own h = pick h.0 (λ q. walks-agree ws q h.1)
    where
      pick : LegalWalk s w → (Each P (live_roots (map (λ (x : WalkRecord). x.version) ws)) → Each (WalkStays s t) ws) → WalkStays s t w × Each (WalkStays s t) ws
      pick (inl e) rest = ((inl e, rw e), rest (rw e at own))
      pick (inr o) rest = let k = rw o.version.live at own in ((inr (open-agrees w k.0 o), rw (contents-agree w.version k.0 o.version)), rest k.1)

-- ---- what some roots reach

pub reached-agrees : {s t : Nodes} {rs : List ℕ} → ((n : ℕ) → Reached s rs n → Same s t n) → Agreeing s t (Reached s rs)
reached-agrees same = record { same = same; closed = λ m n q l. by_cell {n = n} q l }

-- where nothing that a state's records reach is changed, all of them stay as they were
pub records-stay : (s t : Nodes) (x : Lent) → ((n : ℕ) → Reached s (roots x) n → Same s t n) → Each (LegalVersion s) x.versions → Each (LegalWalk s) (walk_records x) → RecordsStay s t x
unfolding roots
records-stay s t x same hv hw =
    let own = each-split (Reached s (roots x)) (live_roots x.versions) _ (occurs-each (Reached s (roots x)) (roots x) (λ n l. by_root {n = n} l)) in
    (versions-agree (reached-agrees same) x.versions own.0 hv, walks-agree (reached-agrees same) (walk_records x) own.1 hw)

pub stays-legal : (s t : Nodes) (x : Lent) → RecordsStay s t x → Each (LegalVersion t) x.versions × Each (LegalWalk t) (walk_records x)
stays-legal s t x h = (each_map (λ v q. q.0) x.versions h.0, each_map (λ w q. q.0) (walk_records x) h.1)

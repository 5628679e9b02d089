-- What is reached has a shape, so it is in use; what the clauses on reaching say in document 01's own words.
use mathlib.Core.Path.{◌≡◌, refl, sym, ap, ◌∙◌}
use mathlib.Core.Logic.{◌≢◌, inl, inr, ◌↔◌}
use mathlib.Core.Bool.{Bool, true, false, cond, false≢true}
use mathlib.Core.List.{List, [], ◌∷◌, map}
use Prim.Native.Nat.{ℕ, zero, suc, ◌+◌, ◌≤◌, ◌<◌}
use native.Mathlib.Decide.{ℕ_discrete}
use native.Mathlib.Nat.{lt_irrefl}
use native.Mathlib.Omega.{arith}
use lib.Dec.{eqb}
use lib.ListN.{length}
use Rattle.meaning.specs.Limits.{free_kind}
use Rattle.meaning.specs.Counting.{sum_to, occurrences, Each}
use Rattle.meaning.specs.Lent.{Nodes, kind_of, VersionRecord, WalkRecord, Lent, size, count_of, walk_records}
use Rattle.meaning.specs.Trees.{Shaped, height_of}
use Rattle.meaning.specs.Links.{live_roots, roots, cell_links, links, Reached, by_root, by_cell}
use Rattle.meaning.specs.WellFormed.{LegalBits, Live, LegalVersion, LegalWalk, WellFormed}
use Rattle.meaning.proofs.Lists.{sum_same, each_append}
use Rattle.meaning.proofs.Sums.{each-occurs}
use Rattle.meaning.proofs.Nodes.{used-inside, free-linkless, CellLink, links-cell}

-- ---- shapes

-- of legal bits
pub record SomeShape (s : Nodes) (n : ℕ) : Type 0 where
  pub bits : ℕ
  pub legal : LegalBits bits
  pub height : ℕ
  pub elements : ℕ
  pub shape : Shaped s bits height elements n

-- a node that has a shape is in use
pub shaped-used : (s : Nodes) (bits h m n : ℕ) → Shaped s bits h m n → kind_of s n ≢ free_kind
unfolding Shaped
shaped-used s bits zero m n p e = absurd (lt_irrefl zero (omega (arith, p.kind)))
shaped-used s bits (suc h) m n p e = absurd (lt_irrefl zero (omega (arith, p.kind)))

-- and a node
pub shaped-inside : (s : Nodes) (bits h m n : ℕ) → Shaped s bits h m n → n < length s.kinds
shaped-inside s bits h m n p = used-inside s n (shaped-used s bits h m n p)

-- each node is of one kind for all who reach it: two shapes that have it agree whether it is a leaf
pub one-kind : (s : Nodes) (bits h m bits' h' m' n : ℕ) → Shaped s bits h m n → Shaped s bits' h' m' n → (h ≡ 0) ↔ (h' ≡ 0)
unfolding Shaped
one-kind s bits zero m bits' zero m' n p q = (λ e. refl, λ e. refl)
one-kind s bits zero m bits' (suc h') m' n p q = absurd (lt_irrefl zero (omega (arith, p.kind, q.kind)))
one-kind s bits (suc h) m bits' zero m' n p q = absurd (lt_irrefl zero (omega (arith, p.kind, q.kind)))
one-kind s bits (suc h) m bits' (suc h') m' n p q = (λ e. absurd (lt_irrefl zero (omega arith)), λ e. absurd (lt_irrefl zero (omega arith)))

-- a node that one with a shape links has a shape
pub child-shaped : (s : Nodes) (p n : ℕ) → SomeShape s p → 1 ≤ cell_links s p n → SomeShape s n
unfolding Shaped
child-shaped s p n k l = below k.height k.shape
  where
    c : CellLink s p n
    c = links-cell s p n l

    below : (h : ℕ) → Shaped s k.bits h k.elements p → SomeShape s n
    below zero q = absurd (lt_irrefl zero (omega (arith, q.kind, c.branch)))
    below (suc h) q = record { bits = k.bits; legal = k.legal; height = h; elements = _; shape = rw c.is at (q.children c.place c.below) }

-- what is reached from roots that have a shape has one
reached-shaped : {s : Nodes} {rs : List ℕ} {n : ℕ} → Each (SomeShape s) rs → Reached s rs n → SomeShape s n
reached-shaped {s} {rs} {n} h (by_root l) = each-occurs (SomeShape s) rs n h l
reached-shaped {s} {rs} {n} h (by_cell {m = p} r l) = child-shaped s p n (reached-shaped h r) l

-- ---- roots

pub live-shaped : (s : Nodes) (v : VersionRecord) → Live s v → SomeShape s v.root
live-shaped s v k = record { bits = v.bits; legal = k.bits; height = height_of v; elements = v.length; shape = k.shape }

live-roots : (s : Nodes) (vs : List VersionRecord) → Each (LegalVersion s) vs → Each (SomeShape s) (live_roots vs)
unfolding live_roots
live-roots s [] h = tt
live-roots s (v ∷ vs) h = pick h.0 (live-roots s vs h.1)
  where
    pick : LegalVersion s v → Each (SomeShape s) (live_roots vs) → Each (SomeShape s) (cond (eqb v.live 1) (v.root ∷ live_roots vs) (live_roots vs))
    pick (inl e) rest = rw e rest
    pick (inr k) rest = rw k.live (live-shaped s v k, rest)

walk-versions : (s : Nodes) (ws : List WalkRecord) → Each (LegalWalk s) ws → Each (LegalVersion s) (map (λ (w : WalkRecord). w.version) ws)
walk-versions s [] h = tt
walk-versions s (w ∷ ws) h = (pick h.0, walk-versions s ws h.1)
  where
    pick : LegalWalk s w → LegalVersion s w.version
    pick (inl e) = inl (ap (λ (x : WalkRecord). x.version) e)
    pick (inr k) = inr k.version

-- what slots and walks link has a shape
roots-shaped : (s : Lent) → Each (LegalVersion s.nodes) s.versions → Each (LegalWalk s.nodes) (walk_records s) → Each (SomeShape s.nodes) (roots s)
unfolding roots
roots-shaped s hv hw =
    each_append (SomeShape s.nodes) (live_roots s.versions) _ (live-roots s.nodes s.versions hv) (live-roots s.nodes _ (walk-versions s.nodes (walk_records s) hw))

-- and so has what they reach
pub all-shaped : (s : Lent) → Each (LegalVersion s.nodes) s.versions → Each (LegalWalk s.nodes) (walk_records s)
    → {n : ℕ} → Reached s.nodes (roots s) n → SomeShape s.nodes n
all-shaped s hv hw r = reached-shaped (roots-shaped s hv hw) r

-- what is reached is in use, by the shapes alone
pub reached-used : (s : Lent) → Each (LegalVersion s.nodes) s.versions → Each (LegalWalk s.nodes) (walk_records s)
    → {n : ℕ} → Reached s.nodes (roots s) n → kind_of s.nodes n ≢ free_kind
reached-used s hv hw {n} r =
    let k = all-shaped s hv hw r in shaped-used s.nodes k.bits k.height k.elements n k.shape

-- ---- a well-formed state, in document 01's own words

module _ (s : Lent) (w : WellFormed s) where
  -- each unreached node is of kind free
  pub unreached-free : (n : ℕ) → (Reached s.nodes (roots s) n → ⊥) → kind_of s.nodes n ≡ free_kind
  unreached-free n f = pick (ℕ_discrete (kind_of s.nodes n) free_kind)
    where
      pick : Dec (kind_of s.nodes n ≡ free_kind) → kind_of s.nodes n ≡ free_kind
      pick (yes e) = e
      pick (no g) = absurd (f ((w.reached n).0 g))

  -- and no other is
  pub free-unreached : (n : ℕ) → kind_of s.nodes n ≡ free_kind → Reached s.nodes (roots s) n → ⊥
  free-unreached n e r = (w.reached n).1 r e

  -- each node's count equals the links to it from slots, walks and cells of reached nodes
  pub counted-reached : (mark : ℕ → Bool) → ((m : ℕ) → (mark m ≡ true) ↔ Reached s.nodes (roots s) m)
      → (n : ℕ) → n < size s → count_of s n ≡ occurrences n (roots s) + sum_to (size s) (λ m. cond (mark m) (cell_links s.nodes m n) 0)
  unfolding links
  counted-reached mark marks n l =
      w.counted n l ∙ ap (λ (x : ℕ). occurrences n (roots s) + x) (sum_same (size s) _ _ (λ m k. pick m (mark m) refl))
    where
      pick : (m : ℕ) (b : Bool) → mark m ≡ b → cell_links s.nodes m n ≡ cond b (cell_links s.nodes m n) 0
      pick m true e = refl
      pick m false e = free-linkless s.nodes m n (unreached-free m (λ r. false≢true (sym e ∙ (marks m).1 r)))

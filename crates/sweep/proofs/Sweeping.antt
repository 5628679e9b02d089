-- Laws of the scan of the free order.
use mathlib.Core.Path.{◌≡◌, refl, sym, ◌∙◌}
use mathlib.Core.Bool.{true}
use mathlib.Core.List.{List, [], ◌∷◌}
use mathlib.Core.Logic.{◌⊎◌, inl, inr, ⊎_elim}
use Prim.Native.Nat.{ℕ, zero, suc, ◌+◌, ◌-◌, ◌<◌, ◌≤◌}
use native.Mathlib.Decide.{ℕ_discrete}
use native.Mathlib.Omega.{arith}
use borrow.Author.Tests.{lt-ltb, le-ltb, eq-eqb, ne_eqb}
use lib.Dec.{eqb}
use lib.ListN.{length, take, get_or, set, length-set}
use lib.Seq.{get_or-set_same, get_or-set_other}
use Rattle.meaning.specs.Limits.{node_cells, free_kind, branch_kind}
use Rattle.meaning.specs.Lent.{kind_of, used_of, child_count}
use Rattle.cells.specs.Cells.{cells_of}
use Rattle.store.specs.Store.{Store, node_count, children_of}
use Rattle.store.specs.Ready.{Sized, AllBelow}
use Rattle.sweep.specs.Sweep.{lower_from, lower, lowers, vacate, scan, sweep, release}
use Rattle.sweep.specs.Ready.{live, Whole, Releasable}
use Rattle.sweep.proofs.Lowering.{live-some, lower-nodes, lower-room}

-- what holds at each turn: the places of the order from `at` to the last free one hold nodes
pub record Sweeping (at : ℕ) (s : Store) : Type 0 where
  pub whole : Whole s
  pub waiting : (i : ℕ) → at ≤ i → i < s.free → get_or s.order i 0 < node_count s

-- ---- lowered counts

pub lower-sweeping : (at : ℕ) (s : Store) (n : ℕ) → n < node_count s → Sweeping at s → Sweeping at (lower s n)
unfolding lower lower_from
lower-sweeping at s n b w = go (get_or s.counts n 0) refl (lower-room s n (omega (arith, w.whole.sized.counts)) w.whole.room)
  where
    z : Sized s
    z = w.whole.sized

    go : (c : ℕ) → get_or s.counts n 0 ≡ c → live (lower_from (get_or s.counts n 0) s n).counts + (lower_from (get_or s.counts n 0) s n).free ≤ length (lower_from (get_or s.counts n 0) s n).order
        → Sweeping at (lower_from c s n)
    go zero e r = w
    go (suc zero) e r = record {
      whole = record {
        sized = record { used = z.used; counts = length-set s.counts n 0 ∙ z.counts; order = length-set s.order s.free n ∙ z.order; cells = z.cells };
        room = rw e at r;
        few = w.whole.few;
        children = w.whole.children;
      };
      waiting = λ i lo hi.
          let k : s.free < length s.order = omega (arith, w.whole.room, live-some s.counts n (omega (arith, z.counts)) (omega arith)) in
          elim (ℕ_discrete i s.free) [
            | yes p ↦ rw (p, get_or-set_same s.order s.free n 0 k) b
            | no p ↦ rw (get_or-set_other s.order s.free i n 0 p) (w.waiting i lo (omega arith))
          ];
    }
    go (suc (suc c)) e r = record {
      whole = record {
        sized = record { used = z.used; counts = length-set s.counts n (suc c) ∙ z.counts; order = z.order; cells = z.cells };
        room = rw e at r;
        few = w.whole.few;
        children = w.whole.children;
      };
      waiting = w.waiting;
    }

pub lowers-sweeping : (at : ℕ) (s : Store) (ns : List ℕ) → AllBelow (node_count s) ns → Sweeping at s → Sweeping at (lowers s ns)
unfolding lowers AllBelow
lowers-sweeping at s [] h w = w
lowers-sweeping at s (n ∷ ns) h w =
    lowers-sweeping at (lower s n) ns
    (λ i l. rw (lower-nodes s n) (h (suc i) (omega arith)))
    (lower-sweeping at s n (h 0 (omega arith)) w)

-- ---- a node scanned

-- what a branch holds, as the code reads it
pub branch-children : (s : Store) (n : ℕ) (a : List ℕ) → Whole s → kind_of s.nodes n ≡ branch_kind → a ≡ cells_of s.nodes.cells n
    → (used_of s.nodes n ≤ node_cells) × AllBelow (length s.counts) (take (used_of s.nodes n) a)
unfolding child_count children_of
branch-children s n a w k e =
    let b : eqb (kind_of s.nodes n) branch_kind ≡ true = eq-eqb (kind_of s.nodes n) branch_kind k in
    (rw b at (w.few n), rw (w.sized.counts, e) (rw b at (w.children n)))

pub scan-branch : (s s' : Store) (n : ℕ) (a : List ℕ) → kind_of s.nodes n ≡ branch_kind → a ≡ cells_of s.nodes.cells n
    → s' ≡ lowers (vacate s n) (take (used_of s.nodes n) a) → s' ≡ scan s n
unfolding scan child_count children_of
scan-branch s s' n a k e l = rw (eq-eqb (kind_of s.nodes n) branch_kind k, ← e) l

pub scan-other : (s : Store) (n : ℕ) → (kind_of s.nodes n ≡ branch_kind → ⊥) → vacate s n ≡ scan s n
unfolding scan child_count children_of lowers
scan-other s n k = rw (ne_eqb (kind_of s.nodes n) branch_kind k)

-- a node that became free has no children, and every other has those that it had
vacate-count : (s : Store) (n m : ℕ) → n < node_count s
    → (child_count (vacate s n).nodes m ≡ 0) ⊎ (child_count (vacate s n).nodes m ≡ child_count s.nodes m)
unfolding vacate child_count
vacate-count s n m b = elim (ℕ_discrete m n) [
  | yes p ↦ inl (rw (p, get_or-set_same s.nodes.kinds n free_kind free_kind b))
  | no p ↦ inr (rw (get_or-set_other s.nodes.kinds n m free_kind free_kind p, get_or-set_other s.nodes.used n m 0 0 p))
]

none_below : (k : ℕ) → AllBelow k []
unfolding AllBelow
none_below k i l = absurd (omega arith)

vacate-children : (s : Store) (n m k : ℕ) → n < node_count s → AllBelow k (children_of s.nodes m) → AllBelow k (children_of (vacate s n).nodes m)
unfolding vacate children_of
vacate-children s n m k b h = ⊎_elim (λ p. rw p (none_below k)) (λ p. rw p h) (vacate-count s n m b)

vacate-sweeping : (at : ℕ) (s : Store) (n : ℕ) → n < node_count s → Sweeping at s → Sweeping at (vacate s n)
unfolding vacate
vacate-sweeping at s n b w =
    let z = w.whole.sized in
    let e : length (set s.nodes.kinds n free_kind) ≡ node_count s = length-set s.nodes.kinds n free_kind in
    record {
      whole = record {
        sized = record {
          used = length-set s.nodes.used n 0 ∙ (z.used ∙ sym e);
          counts = z.counts ∙ sym e;
          order = z.order ∙ sym e;
          cells = rw e z.cells;
        };
        room = w.whole.room;
        few = λ m. ⊎_elim (λ p. rw p (omega arith)) (λ p. rw p (w.whole.few m)) (vacate-count s n m b);
        children = λ m. rw e (vacate-children s n m (node_count s) b (w.whole.children m));
      };
      waiting = λ i lo hi. rw e (w.waiting i lo hi);
    }

pub scan-sweeping : (at : ℕ) (s : Store) (n : ℕ) → n < node_count s → Sweeping at s → Sweeping at (scan s n)
unfolding scan vacate
scan-sweeping at s n b w =
    lowers-sweeping at (vacate s n) (children_of s.nodes n) (rw (length-set s.nodes.kinds n free_kind) (w.whole.children n)) (vacate-sweeping at s n b w)

-- ---- the order scanned

pub sweep-end : (k : ℕ) (s : Store) (at : ℕ) → s.free ≤ at → sweep k s at ≡ s
unfolding sweep
sweep-end zero s at h = refl
sweep-end (suc k) s at h = rw (le-ltb at s.free h)

sweep-step : (l : ℕ) (s : Store) (at : ℕ) → at < s.free → at < l → sweep (l - at) s at ≡ sweep (l - (at + 1)) (scan s (get_or s.order at 0)) (at + 1)
unfolding sweep
sweep-step l s at h b =
    let e : l - at ≡ suc (l - (at + 1)) = omega arith in
    rw (e, lt-ltb at s.free h)

-- the node at a place of the order that is still to be scanned
pub next-node : (at : ℕ) (s : Store) → Sweeping at s → at < s.free → (at < length s.order) × (get_or s.order at 0 < node_count s)
next-node at s w h = (omega (arith, w.whole.room), w.waiting at (omega arith) h)

-- one turn of the loop
pub sweep-turn : (s s' s₀ : Store) (l at : ℕ) → Sweeping at s → length s.order ≡ l → at < s.free → s' ≡ scan s (get_or s.order at 0)
    → sweep (l - at) s at ≡ s₀ → Sweeping (at + 1) s' × (sweep (l - (at + 1)) s' (at + 1) ≡ s₀)
sweep-turn s s' s₀ l at w z b e r =
    let o = next-node at s w b in
    let k : Sweeping at (scan s (get_or s.order at 0)) = scan-sweeping at s (get_or s.order at 0) o.1 w in
    rw e (record { whole = k.whole; waiting = λ i lo hi. k.waiting i (omega arith) hi }, sym (sweep-step l s at b (omega (arith, o.0))) ∙ r)

-- the loop begins
pub lowered-sweeping : (s s' : Store) (n : ℕ) → Releasable s n → s' ≡ lower s n → Sweeping s.free s'
lowered-sweeping s s' n h e = rw e (lower-sweeping s.free s n h.below (record { whole = h.whole; waiting = λ i lo hi. absurd (omega arith) }))

-- the loop ends
pub swept-release : (s s₁ s' : Store) (n l at : ℕ) → s₁ ≡ lower s n → l ≡ length s.order → s'.free ≤ at
    → sweep (l - at) s' at ≡ sweep (l - s.free) s₁ s.free → s' ≡ release s n
unfolding release
swept-release s s₁ s' n l at e z h r = sym (sweep-end (l - at) s' at h) ∙ (r ∙ rw (e, z))

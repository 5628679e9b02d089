-- A link is given up: what nothing reaches any longer is free afterwards, and everything else stays.
use mathlib.Core.Path.{◌≡◌, refl, sym, ap, ◌∙◌, subst}
use mathlib.Core.Logic.{◌≢◌, ◌↔◌}
use mathlib.Core.Bool.{Bool, true, false, cond}
use mathlib.Core.List.{List, [], ◌∷◌}
use Prim.Native.Nat.{ℕ, zero, suc, ◌+◌, ◌-◌, ◌≤◌, ◌<◌}
use native.Mathlib.Omega.{arith}
use lib.Dec.{ltb}
use lib.ListN.{length, get_or, take, length-set, drop_of_length-le}
use lib.Seq.{slice_empty, length-take-le}
use borrow.Author.Tests.{ltb-true, ltb-false}
use Rattle.meaning.specs.Limits.{free_kind}
use Rattle.meaning.specs.Lent.{kind_of}
use Rattle.meaning.specs.Links.{Reached}
use Rattle.store.specs.Store.{Store, children_of}
use Rattle.sweep.specs.Sweep.{lower_from, lower, lowers, vacate, scan, sweep, release}
use Rattle.ledger.specs.Kept.{Keeping, Kept, count_in}
use Rattle.ledger.specs.Pending.{waiting}
use Rattle.store.specs.Frame.{Same}
use Rattle.ledger.specs.Frame.{Remains}
use Rattle.ledger.proofs.Reaching.{used-reached, reached-used}
use Rattle.ledger.proofs.Staying.{same_refl, same-trans, reached-remains, reached-before, reached-same}
use Rattle.ledger.proofs.Lowering.{lower-next}
use Rattle.ledger.proofs.Scanning.{vacate-same, vacate-size, vacate-kind, scan-next}

-- ---- what remains

remains-refl : (s : Store) → Remains s s
remains-refl s = record { size = refl; order = refl; cells = refl; same = λ n f. same_refl s.nodes n; more = omega arith }

remains-trans : (s t u : Store) → Remains s t → Remains t u → Remains s u
remains-trans s t u d e = record {
  size = e.size ∙ d.size;
  order = e.order ∙ d.order;
  cells = e.cells ∙ d.cells;
  same = λ n f. let q = e.same n f in same-trans s.nodes t.nodes u.nodes n (d.same n (λ z. f (q.kind ∙ z))) q;
  more = omega (arith, d.more, e.more);
}

lower-remains : (s : Store) (n : ℕ) → Remains s (lower s n)
unfolding lower lower_from
lower-remains s n = pick (count_in s n)
  where
    pick : (c : ℕ) → Remains s (lower_from c s n)
    pick zero = remains-refl s
    pick (suc zero) = record { size = refl; order = length-set s.order s.free n; cells = refl; same = λ m f. same_refl s.nodes m; more = omega arith }
    pick (suc (suc c)) = record { size = refl; order = refl; cells = refl; same = λ m f. same_refl s.nodes m; more = omega arith }

lowers-remain : (s : Store) (ns : List ℕ) → Remains s (lowers s ns)
unfolding lowers
lowers-remain s [] = remains-refl s
lowers-remain s (n ∷ ns) = remains-trans s (lower s n) _ (lower-remains s n) (lowers-remain (lower s n) ns)

vacate-remains : (s : Store) (n : ℕ) → Remains s (vacate s n)
unfolding vacate
vacate-remains s n = record {
  size = vacate-size s n;
  order = refl;
  cells = refl;
  same = λ m f. vacate-same s n m (λ e. f (ap (kind_of (vacate s n).nodes) e ∙ vacate-kind s n));
  more = omega arith;
}

scan-remains : (s : Store) (n : ℕ) → Remains s (scan s n)
unfolding scan
scan-remains s n = remains-trans s (vacate s n) _ (vacate-remains s n) (lowers-remain (vacate s n) (children_of s.nodes n))

pub sweep-remains : (s : Store) (fuel at : ℕ) → Remains s (sweep fuel s at)
unfolding sweep
sweep-remains s zero at = remains-refl s
sweep-remains s (suc fuel) at = pick (ltb at s.free) (sweep-remains (scan s (get_or s.order at 0)) fuel (at + 1))
  where
    pick : (b : Bool) → Remains (scan s (get_or s.order at 0)) (sweep fuel (scan s (get_or s.order at 0)) (at + 1))
        → Remains s (cond b (sweep fuel (scan s (get_or s.order at 0)) (at + 1)) s)
    pick true r = remains-trans s (scan s (get_or s.order at 0)) _ (scan-remains s (get_or s.order at 0)) r
    pick false r = remains-refl s

-- whatever is released, of a store that keeps nothing too
pub release-remains : (s : Store) (n : ℕ) → Remains s (release s n)
unfolding release
release-remains s n = remains-trans s (lower s n) _ (lower-remains s n) (sweep-remains (lower s n) _ s.free)

-- ---- what is kept

nothing-waits : {s : Store} {roots : List ℕ} (at : ℕ) → Keeping s roots (waiting s at) → s.free ≤ at → Kept s roots
nothing-waits {s} {roots} at k l =
    subst (Keeping s roots) (drop_of_length-le (take s.free s.order) {i = at} (omega (arith, length-take-le s.free s.order k.room))) k

-- with fuel for the rest of the order
pub sweep-keeps : {s : Store} {roots : List ℕ} (fuel at : ℕ) → Keeping s roots (waiting s at) → at ≤ s.free → length s.order ≤ fuel + at
    → Kept (sweep fuel s at) roots
unfolding sweep
sweep-keeps zero at k l enough = nothing-waits at k (omega (arith, k.room))
sweep-keeps {s} {roots} (suc fuel) at k l enough = pick (ltb at s.free) refl (sweep-keeps {s = scan s (get_or s.order at 0)} fuel (at + 1))
  where
    onward : Store
    onward = scan s (get_or s.order at 0)

    pick : (b : Bool) → ltb at s.free ≡ b
        → (Keeping onward roots (waiting onward (at + 1)) → at + 1 ≤ onward.free → length onward.order ≤ fuel + (at + 1) → Kept (sweep fuel onward (at + 1)) roots)
        → Kept (cond b (sweep fuel onward (at + 1)) s) roots
    pick true e rest =
        let b : at < s.free = ltb-true at s.free e in
        let r = scan-remains s (get_or s.order at 0) in
        rest (scan-next at k b) (omega (arith, r.more)) (omega (arith, r.order))
    pick false e rest = nothing-waits at k (ltb-false at s.free e)

pub release-keeps : {s : Store} {n : ℕ} {roots : List ℕ} → Kept s (n ∷ roots) → Kept (release s n) roots
unfolding release
release-keeps {s} {n} {roots} k =
    let r = lower-remains s n in
    sweep-keeps (length s.order - s.free) s.free (lower-next s.free none (omega arith)) r.more (omega (arith, r.order, k.room))
  where
    none : Keeping s (n ∷ roots) (waiting s s.free)
    none = subst (Keeping s (n ∷ roots)) (sym (slice_empty s.free s.order)) k

-- ---- in words of reaching, over the links before or after

module _ {s : Store} {n : ℕ} {roots : List ℕ} (k : Kept s (n ∷ roots)) where
  pub release-reached : {m : ℕ} → Reached s.nodes roots m → Reached (release s n).nodes roots m × Same s.nodes (release s n).nodes m
  release-reached r =
      let remains = release-remains s n in (reached-remains k (release-keeps k) remains r, reached-same k (release-keeps k) remains r)

  -- in use afterwards is what a root that is left reached before
  pub release-used : (m : ℕ) → (kind_of (release s n).nodes m ≢ free_kind) ↔ Reached s.nodes roots m
  release-used m =
      let remains = release-remains s n in (
        λ f. reached-before k (release-keeps k) remains (used-reached (release-keeps k) m f),
        λ r. reached-used (release-keeps k) (reached-remains k (release-keeps k) remains r),
      )

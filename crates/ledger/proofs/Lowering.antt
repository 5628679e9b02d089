-- A node loses a link; with its last it comes on the free order and is pending.
use mathlib.Core.Path.{◌≡◌, refl, sym, ap, ◌∙◌, subst}
use mathlib.Core.Logic.{◌≢◌}
use mathlib.Core.List.{List, [], ◌∷◌, ◌++◌, append_assoc, append-nil}
use Prim.Native.Nat.{ℕ, zero, suc, ◌+◌, ◌≤◌, ◌<◌}
use native.Mathlib.Nat.{lt_irrefl}
use native.Mathlib.Numerals.{add-one}
use native.Mathlib.Decide.{ℕ_discrete}
use native.Mathlib.Omega.{arith}
use lib.Dec.{eqb}
use lib.ListN.{length, get_or, set, take, length-set}
use lib.Seq.{get_or-set_same, get_or-set_other, take-suc-set, drop-append-le, length-take-le}
use Rattle.meaning.specs.Limits.{free_kind}
use Rattle.meaning.specs.Counting.{bit, occurrences}
use Rattle.meaning.specs.Lent.{kind_of}
use Rattle.meaning.proofs.Lists.{occurs-append}
use Rattle.store.specs.Store.{Store, node_count}
use Rattle.sweep.specs.Sweep.{lower_from, lower, lowers}
use Rattle.ledger.specs.Kept.{Keeping, count_in}
use Rattle.ledger.specs.Pending.{waiting, fallen, all_fallen}
use Rattle.meaning.proofs.Sums.{bit-same, bit-other, occurs-none, occurs-cons, occurs-one, occurs-first}
use Rattle.meaning.proofs.Nodes.{used-inside}
use Rattle.ledger.proofs.Facts.{counted-settled}
use Rattle.ledger.proofs.Bounds.{room-left}

-- what a lowered count makes of counts and order, whether it falls to 0 or not
record Lowers (s : Store) (n : ℕ) (counts order : List ℕ) (free : ℕ) (fell : List ℕ) : Type 0 where
  counts-length : length counts ≡ length s.counts
  order-length : length order ≡ length s.order
  count : (m : ℕ) → get_or counts m 0 + bit (eqb n m) ≡ count_in s m
  room : free ≤ length order
  ordered : (m : ℕ) → occurrences m (take free order) ≡ occurrences m (take s.free s.order) + occurrences m fell
  one : (m : ℕ) → occurrences m fell ≤ bit (eqb n m)
  gone : (m : ℕ) → 1 ≤ occurrences m fell → get_or counts m 0 ≡ 0
  last : 1 ≤ get_or counts n 0 + occurrences n fell

lowers-once : {s : Store} {n free : ℕ} {counts order fell roots pending : List ℕ} → Keeping s (n ∷ roots) pending → Lowers s n counts order free fell
    → Keeping (record { nodes = s.nodes; counts = counts; order = order; free = free }) roots (pending ++ fell)
lowers-once {s} {n} {free} {counts} {order} {fell} {roots} {pending} k l = record {
  sized = record { used = k.sized.used; cells = k.sized.cells; counts = l.counts-length ∙ k.sized.counts; order = l.order-length ∙ k.sized.order };
  counted = λ m b. omega (arith, l.count m, k.counted m b, occurs-cons m n roots);
  room = l.room;
  ordered = λ m. omega (arith, l.ordered m, k.ordered m, occurs-append m pending fell);
  linked = λ m f. linked m f (ℕ_discrete n m);
  rooted = λ m b. k.rooted m (omega (arith, occurs-cons m n roots));
  celled = k.celled;
  fits = k.fits;
  spare = k.spare;
  free_used = k.free_used;
  free_count = λ m e. omega (arith, l.count m, k.free_count m e);
  pending_used = λ m b. (pick m b (ℕ_discrete n m)).0;
  pending_once = λ m. once m (ℕ_discrete n m);
  pending_count = λ m b. (pick m b (ℕ_discrete n m)).1;
  rank = k.rank;
  falls = k.falls;
}
  where
    held : 1 ≤ count_in s n
    held = omega (arith, k.counted n (used-inside s.nodes n (k.rooted n (occurs-first n roots))), occurs-first n roots)

    linked : (m : ℕ) → kind_of s.nodes m ≢ free_kind → Dec (n ≡ m) → 1 ≤ get_or counts m 0 + occurrences m (pending ++ fell)
    linked m f (yes e) = rw (← e) (omega (arith, l.last, occurs-append n pending fell))
    linked m f (no g) = omega (arith, k.linked m f, l.count m, bit-other n m g, occurs-append m pending fell)

    once : (m : ℕ) → Dec (n ≡ m) → occurrences m (pending ++ fell) ≤ 1
    once m (yes e) = rw (← e) (omega (arith, counted-settled k n held, l.one n, bit-same n, occurs-append n pending fell))
    once m (no g) = omega (arith, k.pending_once m, l.one m, bit-other n m g, occurs-append m pending fell)

    pick : (m : ℕ) → 1 ≤ occurrences m (pending ++ fell) → Dec (n ≡ m) → (kind_of s.nodes m ≢ free_kind) × (get_or counts m 0 ≡ 0)
    pick m b (yes e) =
        let b' : 1 ≤ occurrences n fell = omega (arith, rw (← e) at b, counted-settled k n held, occurs-append n pending fell) in
        rw (← e) (k.rooted n (occurs-first n roots), l.gone n b')
    pick m b (no g) =
        let b' : 1 ≤ occurrences m pending = omega (arith, l.one m, bit-other n m g, occurs-append m pending fell) in
        (k.pending_used m b', omega (arith, l.count m, k.pending_count m b'))

module _ {s : Store} {n : ℕ} {roots pending : List ℕ} (k : Keeping s (n ∷ roots) pending) where
  pub lower-inside : n < node_count s
  lower-inside = used-inside s.nodes n (k.rooted n (occurs-first n roots))

  -- a test against a count of 0 never fires
  pub lower-counted : 1 ≤ count_in s n
  lower-counted = omega (arith, k.counted n lower-inside, occurs-first n roots)

  lower-count : (c m : ℕ) → count_in s n ≡ suc c → Dec (n ≡ m) → get_or (set s.counts n c) m 0 + bit (eqb n m) ≡ count_in s m
  lower-count c m e (yes d) = rw (← d) (omega (arith, get_or-set_same s.counts n c 0 (omega (arith, lower-inside, k.sized.counts)), bit-same n))
  lower-count c m e (no f) = omega (arith, get_or-set_other s.counts n m c 0 (λ d. f (sym d)), bit-other n m f)

  at_last : count_in s n ≡ 1 → Lowers s n (set s.counts n 0) (set s.order s.free n) (s.free + 1) (n ∷ [])
  at_last e = record {
    counts-length = length-set s.counts n 0;
    order-length = length-set s.order s.free n;
    count = λ m. lower-count 0 m e (ℕ_discrete n m);
    room = rw length-set (omega (arith, left));
    ordered = λ m. rw (add-one, take-suc-set s.order s.free n left) (occurs-append m (take s.free s.order) (n ∷ []));
    one = λ m. omega (arith, occurs-one m n);
    gone = λ m l. omega (arith, lower-count 0 m e (ℕ_discrete n m), occurs-one m n, settled m l (ℕ_discrete n m));
    last = omega (arith, occurs-first n []);
  }
    where
      left : s.free < length s.order
      left = room-left k n lower-counted

      settled : (m : ℕ) → 1 ≤ occurrences m (n ∷ []) → Dec (n ≡ m) → get_or s.counts m 0 ≡ 1
      settled m l (yes d) = rw (← d) e
      settled m l (no f) = absurd (lt_irrefl zero (omega (arith, occurs-one m n, bit-other n m f)))

  not_last : (c : ℕ) → count_in s n ≡ suc (suc c) → Lowers s n (set s.counts n (suc c)) s.order s.free []
  not_last c e = record {
    counts-length = length-set s.counts n (suc c);
    order-length = refl;
    count = λ m. lower-count (suc c) m e (ℕ_discrete n m);
    room = k.room;
    ordered = λ m. omega (arith, occurs-none m);
    one = λ m. omega (arith, occurs-none m);
    gone = λ m l. absurd (lt_irrefl zero (omega (arith, occurs-none m)));
    last = omega (arith, lower-count (suc c) n e (ℕ_discrete n n), bit-same n);
  }

  pub lower-keeps : Keeping (lower s n) roots (pending ++ fallen (count_in s n) n)
  unfolding lower lower_from fallen
  lower-keeps = pick (count_in s n) refl
    where
      pick : (c : ℕ) → count_in s n ≡ c → Keeping (lower_from c s n) roots (pending ++ fallen c n)
      pick zero e = absurd (lt_irrefl zero (omega (arith, lower-counted)))
      pick (suc zero) e = lowers-once k (at_last e)
      pick (suc (suc c)) e = lowers-once k (not_last c e)

  pub lower-free : s.free ≤ (lower s n).free
  unfolding lower lower_from
  lower-free = pick (count_in s n)
    where
      pick : (c : ℕ) → s.free ≤ (lower_from c s n).free
      pick zero = omega arith
      pick (suc zero) = omega arith
      pick (suc (suc c)) = omega arith

  pub lower-waiting : (at : ℕ) → at ≤ s.free → waiting (lower s n) at ≡ waiting s at ++ fallen (count_in s n) n
  unfolding lower lower_from fallen
  lower-waiting at l = pick (count_in s n) refl
    where
      pick : (c : ℕ) → count_in s n ≡ c → waiting (lower_from c s n) at ≡ waiting s at ++ fallen c n
      pick zero e = sym (append-nil (waiting s at))
      pick (suc zero) e =
          rw (add-one, take-suc-set s.order s.free n (room-left k n lower-counted))
          (drop-append-le at (take s.free s.order) (n ∷ []) (omega (arith, length-take-le s.free s.order k.room)))
      pick (suc (suc c)) e = sym (append-nil (waiting s at))

-- in the free order: what is pending stands from a place upwards, before and after
pub lower-next : {s : Store} {n : ℕ} {roots : List ℕ} (at : ℕ) → Keeping s (n ∷ roots) (waiting s at) → at ≤ s.free
    → Keeping (lower s n) roots (waiting (lower s n) at)
lower-next {s} {n} {roots} at k l = subst (Keeping (lower s n) roots) (sym (lower-waiting k at l)) (lower-keeps k)

-- ---- each node of a list loses a link

pub lowers-keeps : {s : Store} {roots pending : List ℕ} (ns : List ℕ) → Keeping s (ns ++ roots) pending → Keeping (lowers s ns) roots (pending ++ all_fallen s ns)
unfolding lowers all_fallen
lowers-keeps {s = s} {roots = roots} {pending = pending} [] k = rw append-nil k
lowers-keeps {s = s} {roots = roots} {pending = pending} (n ∷ ns) k = rw append_assoc at (lowers-keeps {s = lower s n} ns (lower-keeps k))

pub lowers-waiting : {s : Store} {pending : List ℕ} (at : ℕ) (ns roots : List ℕ) → Keeping s (ns ++ roots) pending → at ≤ s.free
    → waiting (lowers s ns) at ≡ waiting s at ++ all_fallen s ns
unfolding lowers all_fallen
lowers-waiting {s} at [] roots k l = sym (append-nil (waiting s at))
lowers-waiting {s} at (n ∷ ns) roots k l =
    let free = lower-free k in
    lowers-waiting {s = lower s n} at ns roots (lower-keeps k) (omega arith)
    ∙ ap (λ (xs : List ℕ). xs ++ all_fallen (lower s n) ns) (lower-waiting k at l)
    ∙ append_assoc (waiting s at) (fallen (count_in s n) n) (all_fallen (lower s n) ns)

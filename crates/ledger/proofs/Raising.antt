-- Counts are raised by links that are about to be stored; the list of roots may be reordered.
use mathlib.Core.Path.{◌≡◌, ◌∙◌}
use mathlib.Core.Logic.{◌≢◌, ◌⊎◌, inl, inr}
use mathlib.Core.List.{List, [], ◌∷◌, ◌++◌}
use Prim.Native.Nat.{ℕ, zero, ◌+◌, ◌≤◌, ◌<◌}
use native.Mathlib.Nat.{lt_irrefl, eq-zero-or-pos}
use native.Mathlib.Decide.{ℕ_discrete, dec_lt}
use native.Mathlib.Omega.{arith}
use lib.ListN.{get_or-eq_default}
use Rattle.meaning.specs.Limits.{free_kind}
use Rattle.meaning.specs.Counting.{occurrences}
use Rattle.meaning.specs.Lent.{kind_of}
use Rattle.meaning.proofs.Lists.{occurs-append}
use Rattle.store.specs.Store.{Store, node_count, raises, raised}
use Rattle.store.proofs.Raising.{raises-at, raises-length}
use Rattle.ledger.specs.Kept.{Keeping, Kept, count_in}
use Rattle.meaning.proofs.Sums.{bit-other, occurs-none, occurs-cons}
use Rattle.meaning.proofs.Nodes.{used-inside}

-- ---- roots in another order

pub roots-permute : {s : Store} {roots pending : List ℕ} (roots' : List ℕ) → Keeping s roots pending
    → ((n : ℕ) → occurrences n roots ≡ occurrences n roots') → Keeping s roots' pending
roots-permute roots' k e = record {
  sized = k.sized;
  counted = λ n l. rw (← (e n)) (k.counted n l);
  room = k.room;
  ordered = k.ordered;
  linked = k.linked;
  rooted = λ n l. k.rooted n (rw (e n) l);
  celled = k.celled;
  fits = k.fits;
  spare = k.spare;
  free_used = k.free_used;
  free_count = k.free_count;
  pending_used = k.pending_used;
  pending_once = k.pending_once;
  pending_count = k.pending_count;
  rank = k.rank;
  falls = k.falls;
}

-- ---- the store

-- nodes in use get one link more each
pub raised_keeps : {s : Store} {roots : List ℕ} (ns : List ℕ) → Kept s roots → ((n : ℕ) → 1 ≤ occurrences n ns → kind_of s.nodes n ≢ free_kind)
    → Kept (raised s ns) (ns ++ roots)
raised_keeps {s} {roots} ns k used = record {
  sized = record { used = k.sized.used; cells = k.sized.cells; counts = raises-length s.counts ns ∙ k.sized.counts; order = k.sized.order };
  counted = λ n l. omega (arith, at n l, k.counted n l, occurs-append n ns roots);
  room = k.room;
  ordered = k.ordered;
  linked = λ n f. omega (arith, at n (used-inside s.nodes n f), k.linked n f);
  rooted = λ n l. rooted n l (eq-zero-or-pos (occurrences n ns));
  celled = k.celled;
  fits = k.fits;
  spare = k.spare;
  free_used = k.free_used;
  free_count = λ n e. free n e (dec_lt n (node_count s)) (eq-zero-or-pos (occurrences n ns));
  pending_used = k.pending_used;
  pending_once = k.pending_once;
  pending_count = λ n l. absurd (lt_irrefl zero (omega (arith, occurs-none n)));
  rank = k.rank;
  falls = k.falls;
}
  where
    at : (n : ℕ) → n < node_count s → count_in (raised s ns) n ≡ count_in s n + occurrences n ns
    at n l = raises-at s.counts ns n (omega (arith, k.sized.counts))

    rooted : (n : ℕ) → 1 ≤ occurrences n (ns ++ roots) → (occurrences n ns ≡ 0) ⊎ (0 < occurrences n ns) → kind_of s.nodes n ≢ free_kind
    rooted n l (inl e) = k.rooted n (omega (arith, occurs-append n ns roots))
    rooted n l (inr q) = used n q

    free : (n : ℕ) → kind_of s.nodes n ≡ free_kind → Dec (n < node_count s) → (occurrences n ns ≡ 0) ⊎ (0 < occurrences n ns) → count_in (raised s ns) n ≡ 0
    free n e (yes l) (inl z) = omega (arith, at n l, k.free_count n e)
    free n e (yes l) (inr q) = absurd (used n q e)
    free n e (no g) d = get_or-eq_default (raises s.counts ns) 0 (omega (arith, raises-length s.counts ns, k.sized.counts))

-- one link more to a node in use: a clone, or a walk opened
pub raised-one : {s : Store} {roots : List ℕ} (n : ℕ) → Kept s roots → kind_of s.nodes n ≢ free_kind → Kept (raised s (n ∷ [])) (n ∷ roots)
raised-one {s} n k f = raised_keeps (n ∷ []) k (λ m l. one m l (ℕ_discrete n m))
  where
    one : (m : ℕ) → 1 ≤ occurrences m (n ∷ []) → Dec (n ≡ m) → kind_of s.nodes m ≢ free_kind
    one m l (yes e) = rw e at f
    one m l (no g) = absurd (lt_irrefl zero (omega (arith, occurs-cons m n [], occurs-none m, bit-other n m g)))

-- A well-formed state keeps all this: the door by which every operation starts.
use mathlib.Core.Path.{◌≡◌}
use mathlib.Core.Logic.{◌≢◌}
use Prim.Native.Nat.{ℕ, zero, ◌+◌, ◌≤◌, ◌<◌}
use native.Mathlib.Nat.{lt_irrefl}
use native.Mathlib.Decide.{ℕ_discrete, dec_lt}
use native.Mathlib.Omega.{arith}
use lib.ListN.{get_or-eq_default}
use Rattle.meaning.specs.Limits.{free_kind}
use Rattle.meaning.specs.Counting.{occurrences}
use Rattle.meaning.specs.Lent.{kind_of, used_of, is_free, free_nodes, free_order, Lent, size, count_of}
use Rattle.meaning.specs.Links.{roots, links, cell_links, Reached, by_root, by_cell}
use Rattle.meaning.specs.WellFormed.{WellFormed}
use Rattle.meaning.proofs.Lists.{many-le}
use Rattle.ledger.specs.Kept.{Kept, links_in, store_in}
use Rattle.meaning.proofs.Sums.{term-le, occurs-none}
use Rattle.meaning.proofs.Reaching.{SomeShape, all-shaped}
use Rattle.meaning.proofs.Nodes.{linking-used, used-inside}
use Rattle.ledger.proofs.Heights.{shape-falls, shape-fits}

module _ (s : Lent) (w : WellFormed s) where
  shaped : (n : ℕ) → kind_of s.nodes n ≢ free_kind → SomeShape s.nodes n
  shaped n f = all-shaped s w.versions w.walks ((w.reached n).0 f)

  height_by : (n : ℕ) → Dec (kind_of s.nodes n ≡ free_kind) → ℕ
  height_by n (yes e) = 0
  height_by n (no f) = (shaped n f).height

  celled : (m n : ℕ) → 1 ≤ cell_links s.nodes m n → kind_of s.nodes n ≢ free_kind
  celled m n l = (w.reached n).1 (by_cell ((w.reached m).0 (linking-used s.nodes m n l)) l)

  falls : (m n : ℕ) → 1 ≤ cell_links s.nodes m n → (d : Dec (kind_of s.nodes n ≡ free_kind)) (e : Dec (kind_of s.nodes m ≡ free_kind)) → height_by n d < height_by m e
  unfolding height_by
  falls m n l (yes d) e = absurd (celled m n l d)
  falls m n l (no g) (yes e) = absurd (linking-used s.nodes m n l e)
  falls m n l (no g) (no f) = shape-falls s.nodes m n (shaped m f) (shaped n g) l

  linked : (n : ℕ) → Reached s.nodes (roots s) n → 1 ≤ occurrences n (roots s) + links_in (store_in s) n
  linked n (by_root l) = omega arith
  linked n (by_cell {m = m} r l) =
      let one : cell_links s.nodes m n ≤ links_in (store_in s) n = term-le (size s) (λ j. cell_links s.nodes j n) m (used-inside s.nodes m (linking-used s.nodes m n l)) in
      omega arith

  when-free : (n : ℕ) → kind_of s.nodes n ≡ free_kind → Dec (n < size s) → (used_of s.nodes n ≡ 0) × (count_of s n ≡ 0)
  when-free n e (yes l) = (w.free_used n l e, w.free_count n l e)
  when-free n e (no g) =
      (get_or-eq_default s.nodes.used 0 (omega (arith, w.sizes.used)), get_or-eq_default s.counts 0 (omega (arith, w.sizes.counts)))

  pub well-formed-keeps : Kept (store_in s) (roots s)
  unfolding links free_order free_nodes
  well-formed-keeps = record {
    sized = record { used = w.sizes.used; cells = w.sizes.cells; counts = w.sizes.counts; order = w.sizes.order };
    counted = w.counted;
    room = omega (arith, w.sizes.order, many-le (size s) (is_free s.nodes));
    ordered = λ n. omega (arith, w.once n, occurs-none n);
    linked = λ n f. omega (arith, w.counted n (used-inside s.nodes n f), linked n ((w.reached n).0 f));
    rooted = λ n l. (w.reached n).1 (by_root l);
    celled = celled;
    fits = λ n f. shape-fits s.nodes n (shaped n f);
    spare = w.spare;
    free_used = λ n e. (when-free n e (dec_lt n (size s))).0;
    free_count = λ n e. (when-free n e (dec_lt n (size s))).1;
    pending_used = λ n l. absurd (lt_irrefl zero (omega (arith, occurs-none n)));
    pending_once = λ n. omega (arith, occurs-none n);
    pending_count = λ n l. absurd (lt_irrefl zero (omega (arith, occurs-none n)));
    rank = λ n. height_by n (ℕ_discrete (kind_of s.nodes n) free_kind);
    falls = λ m n l. falls m n l (ℕ_discrete (kind_of s.nodes n) free_kind) (ℕ_discrete (kind_of s.nodes m) free_kind);
  }

-- The first pending node is scanned: it becomes free, and its children lose a link each.
use mathlib.Core.Path.{◌≡◌, refl, sym, ap, ◌∙◌, subst}
use mathlib.Core.Logic.{◌≢◌}
use mathlib.Core.List.{List, [], ◌∷◌, ◌++◌}
use Prim.Native.Nat.{ℕ, zero, suc, ◌+◌, ◌*◌, ◌≤◌, ◌<◌}
use native.Mathlib.Nat.{lt_irrefl}
use native.Mathlib.Numerals.{add-one}
use native.Mathlib.Decide.{ℕ_discrete}
use native.Mathlib.Omega.{arith}
use lib.ListN.{get_or, set, take, length-set}
use lib.Seq.{get_or-set_other, slice-cons}
use Rattle.meaning.specs.Limits.{node_cells, free_kind}
use Rattle.meaning.specs.Counting.{bit, occurrences}
use Rattle.meaning.specs.Lent.{kind_of, used_of, is_free}
use Rattle.meaning.specs.Links.{cell_links}
use Rattle.meaning.proofs.Lists.{occurs-append}
use Rattle.store.specs.Store.{Store, node_count, children_of}
use Rattle.sweep.specs.Sweep.{vacate, scan}
use Rattle.ledger.specs.Kept.{Keeping, count_in, links_in}
use Rattle.store.specs.Ready.{Sized}
use Rattle.ledger.specs.Pending.{waiting, all_fallen}
use Rattle.store.specs.Frame.{Same}
use Rattle.store.proofs.Making.{sized-place}
use Rattle.meaning.proofs.Sums.{term-le, bit-same, bit-other, occurs-cons, occurs-first}
use Rattle.meaning.proofs.Nodes.{free-bit, free-linkless, linking-used, same_bit, used-bit, used-inside}
use Rattle.ledger.proofs.Links.{links-same, links-children, sum-but}
use Rattle.ledger.proofs.Facts.{children-le, counted-links, counted-used}
use Rattle.ledger.proofs.Lowering.{lowers-keeps, lowers-waiting}

-- every other node stays as it was
pub vacate-same : (s : Store) (n m : ℕ) → m ≢ n → Same s.nodes (vacate s n).nodes m
unfolding vacate
vacate-same s n m f = record { kind = get_or-set_other s.nodes.kinds n m free_kind free_kind f; used = get_or-set_other s.nodes.used n m 0 0 f; cells = λ i l. refl }

pub vacate-size : (s : Store) (n : ℕ) → node_count (vacate s n) ≡ node_count s
unfolding vacate
vacate-size s n = length-set s.nodes.kinds n free_kind

-- whether n is a node or not
set-default : (xs : List ℕ) (n d : ℕ) → get_or (set xs n d) n d ≡ d
set-default [] n d = refl
set-default (x ∷ xs) zero d = refl
set-default (x ∷ xs) (suc n) d = set-default xs n d

pub vacate-kind : (s : Store) (n : ℕ) → kind_of (vacate s n).nodes n ≡ free_kind
unfolding vacate
vacate-kind s n = set-default s.nodes.kinds n free_kind

pub vacate-used : (s : Store) (n : ℕ) → used_of (vacate s n).nodes n ≡ 0
unfolding vacate
vacate-used s n = set-default s.nodes.used n 0

module _ {s : Store} {n : ℕ} {roots pending : List ℕ} (k : Keeping s roots (n ∷ pending)) where
  inside : n < node_count s
  inside = used-inside s.nodes n (k.pending_used n (occurs-first n pending))

  unlinked : count_in s n ≡ 0
  unlinked = k.pending_count n (occurs-first n pending)

  not-again : occurrences n pending ≡ 0
  not-again = omega (arith, k.pending_once n, occurs-cons n n pending, bit-same n)

  vacate-linked : (m x : ℕ) → m ≢ n → cell_links (vacate s n).nodes m x ≡ cell_links s.nodes m x
  vacate-linked m x f = links-same s.nodes (vacate s n).nodes m x (children-le k m) (vacate-same s n m f)

  -- what n linked is held instead
  vacate-links : (x : ℕ) → links_in s x ≡ occurrences x (children_of s.nodes n) + links_in (vacate s n) x
  vacate-links x =
      rw vacate-size
      (omega (
        arith,
        sum-but s.nodes (vacate s n).nodes (node_count s) n x inside (children-le k) (vacate-same s n),
        free-linkless (vacate s n).nodes n x (vacate-kind s n),
        links-children s.nodes n x (children-le k n) (sized-place s n k.sized inside).cells,
      ))

  used-other : (m : ℕ) → kind_of (vacate s n).nodes m ≢ free_kind → m ≢ n
  used-other m f e = f (ap (kind_of (vacate s n).nodes) e ∙ vacate-kind s n)

  was-used : (m : ℕ) → kind_of (vacate s n).nodes m ≢ free_kind → kind_of s.nodes m ≢ free_kind
  was-used m f d = f ((vacate-same s n m (used-other m f)).kind ∙ d)

  stays-used : (m : ℕ) → m ≢ n → kind_of s.nodes m ≢ free_kind → kind_of (vacate s n).nodes m ≢ free_kind
  stays-used m g f d = f (sym (vacate-same s n m g).kind ∙ d)

  -- what is linked is another node, and in use
  linked-used : (m : ℕ) → 1 ≤ occurrences m roots + links_in s m → kind_of (vacate s n).nodes m ≢ free_kind
  linked-used m l =
      let c : 1 ≤ count_in s m = omega (arith, counted-links k m) in
      stays-used m (λ e. lt_irrefl zero (omega (arith, ap (count_in s) e, unlinked))) (counted-used k m c)

  sized : Sized (vacate s n)
  unfolding vacate
  sized = record {
    used = length-set s.nodes.used n 0 ∙ k.sized.used ∙ sym (vacate-size s n);
    cells = k.sized.cells ∙ ap (λ (x : ℕ). node_cells * x) (sym (vacate-size s n));
    counts = k.sized.counts ∙ sym (vacate-size s n);
    order = k.sized.order ∙ sym (vacate-size s n);
  }

  ordered : (m : ℕ) → Dec (n ≡ m) → occurrences m (take s.free s.order) ≡ bit (is_free (vacate s n).nodes m) + occurrences m pending
  ordered m (yes e) =
      rw (← e)
      (omega (
        arith,
        k.ordered n,
        occurs-cons n n pending,
        bit-same n,
        used-bit s.nodes n (k.pending_used n (occurs-first n pending)),
        free-bit (vacate s n).nodes n (omega (arith, inside, vacate-size s n)) (vacate-kind s n),
      ))
  ordered m (no f) =
      omega (arith, k.ordered m, occurs-cons m n pending, bit-other n m f, same_bit s.nodes (vacate s n).nodes m (vacate-size s n) (vacate-same s n m (λ e. f (sym e))).kind)

  rooted : (m : ℕ) → 1 ≤ occurrences m (children_of s.nodes n ++ roots) → kind_of (vacate s n).nodes m ≢ free_kind
  rooted m l =
      let either : 1 ≤ occurrences m roots + links_in s m = omega (arith, occurs-append m (children_of s.nodes n) roots, vacate-links m) in
      linked-used m either

  celled : (m x : ℕ) → 1 ≤ cell_links (vacate s n).nodes m x → (cell_links (vacate s n).nodes m x ≡ cell_links s.nodes m x) × (kind_of (vacate s n).nodes x ≢ free_kind)
  celled m x l = pick (ℕ_discrete m n)
    where
      pick : Dec (m ≡ n) → (cell_links (vacate s n).nodes m x ≡ cell_links s.nodes m x) × (kind_of (vacate s n).nodes x ≢ free_kind)
      pick (yes e) = absurd (lt_irrefl zero (omega (arith, rw e at l, free-linkless (vacate s n).nodes n x (vacate-kind s n))))
      pick (no f) =
          let e = vacate-linked m x f in
          let c : 1 ≤ cell_links s.nodes m x = omega arith in
          let one : cell_links s.nodes m x ≤ links_in s x = term-le (node_count s) (λ j. cell_links s.nodes j x) m (used-inside s.nodes m (linking-used s.nodes m x c)) in
          (e, linked-used x (omega arith))

  when-free : (m : ℕ) → kind_of (vacate s n).nodes m ≡ free_kind → Dec (m ≡ n) → (used_of (vacate s n).nodes m ≡ 0) × (count_in s m ≡ 0)
  when-free m g (yes e) = rw e (vacate-used s n, unlinked)
  when-free m g (no f) =
      let e = vacate-same s n m f in (e.used ∙ k.free_used m (sym e.kind ∙ g), k.free_count m (sym e.kind ∙ g))

  -- it becomes free, and the links to its children are held instead
  pub vacate-keeps : Keeping (vacate s n) (children_of s.nodes n ++ roots) pending
  unfolding vacate
  vacate-keeps = record {
    sized = sized;
    counted = λ m l. omega (arith, k.counted m (omega (arith, vacate-size s n)), vacate-links m, occurs-append m (children_of s.nodes n) roots);
    room = k.room;
    ordered = λ m. ordered m (ℕ_discrete n m);
    linked = λ m f. omega (arith, k.linked m (was-used m f), occurs-cons m n pending, bit-other n m (λ e. used-other m f (sym e)));
    rooted = rooted;
    celled = λ m x l. (celled m x l).1;
    fits = λ m f. omega (arith, (vacate-same s n m (used-other m f)).used, k.fits m (was-used m f));
    spare = λ m i f l b. k.spare m i (was-used m f) (omega (arith, (vacate-same s n m (used-other m f)).used)) b;
    free_used = λ m e. (when-free m e (ℕ_discrete m n)).0;
    free_count = λ m e. (when-free m e (ℕ_discrete m n)).1;
    pending_used = λ m l. stays-used m (λ e. lt_irrefl zero (omega (arith, rw e at l, not-again))) (k.pending_used m (omega (arith, occurs-cons m n pending)));
    pending_once = λ m. omega (arith, k.pending_once m, occurs-cons m n pending);
    pending_count = λ m l. k.pending_count m (omega (arith, occurs-cons m n pending));
    rank = k.rank;
    falls = λ m x l. k.falls m x (omega (arith, (celled m x l).0));
  }

  pub scan-keeps : Keeping (scan s n) roots (pending ++ all_fallen (vacate s n) (children_of s.nodes n))
  unfolding scan
  scan-keeps = lowers-keeps (children_of s.nodes n) vacate-keeps

-- in the free order: the node at a place is scanned, and those past it are pending
module _ {s : Store} {roots : List ℕ} (at : ℕ) (k : Keeping s roots (waiting s at)) (l : at < s.free) where
  first : Keeping s roots (get_or s.order at 0 ∷ waiting s (at + 1))
  first = subst (Keeping s roots) (rw add-one (slice-cons at s.free s.order 0 l k.room)) k

  pub next-used : kind_of s.nodes (get_or s.order at 0) ≢ free_kind
  next-used = first.pending_used (get_or s.order at 0) (occurs-first (get_or s.order at 0) (waiting s (at + 1)))

  pub next-inside : get_or s.order at 0 < node_count s
  next-inside = inside first

  pub vacate-next : Keeping (vacate s (get_or s.order at 0)) (children_of s.nodes (get_or s.order at 0) ++ roots) (waiting (vacate s (get_or s.order at 0)) (at + 1))
  unfolding vacate
  vacate-next = vacate-keeps first

  scan-waiting : waiting (scan s (get_or s.order at 0)) (at + 1)
      ≡ waiting s (at + 1) ++ all_fallen (vacate s (get_or s.order at 0)) (children_of s.nodes (get_or s.order at 0))
  unfolding scan vacate
  scan-waiting = lowers-waiting (at + 1) (children_of s.nodes (get_or s.order at 0)) roots vacate-next (omega arith)

  pub scan-next : Keeping (scan s (get_or s.order at 0)) roots (waiting (scan s (get_or s.order at 0)) (at + 1))
  scan-next = subst (Keeping (scan s (get_or s.order at 0)) roots) (sym scan-waiting) (scan-keeps first)

-- No promise is empty: a state of two parties' versions that share a leaf, and an open walk, is well-formed; and what it stands for.
-- Party 1's slot 0 has [7, 8, 9] and party 2's slot 3 has [7, 8, 9, 10], made from it by a push, both of bits 1; party 2's walk 1 has taken one value from each end of the latter.
use mathlib.Core.Path.{◌≡◌, refl}
use mathlib.Core.Logic.{◌≢◌, inl, inr}
use mathlib.Core.Bool.{Bool, true, not, ◌||◌}
use mathlib.Core.List.{List, [], ◌∷◌, ◌++◌}
use Prim.Native.Nat.{ℕ, zero, suc, ◌+◌, ◌-◌, ◌*◌, ◌≤◌, ◌<◌, min}
use native.Mathlib.Decide.{dec_lt}
use native.Mathlib.Nat.{lt_irrefl}
use native.Mathlib.Omega.{arith}
use lib.Count.{count_leading_zeros}
use lib.Dec.{ltb, eqb, lit≤}
use lib.IntN.{ℤ, pos}
use lib.ListN.{length, replicate, get_or-eq_default}
use borrow.Author.Tests.{eqb-true, ne_eqb, le-ltb}
use Rattle.meaning.specs.Limits.{node_cells, free_kind, leaf_kind, branch_kind, walk_levels}
use Rattle.meaning.specs.Counting.{sum_to, bit, how_many, occurrences, rows, Each}
use Rattle.meaning.specs.Lent.{VersionRecord, empty_record, Lent, kind_of, used_of, cell_of, count_of, is_free, free_nodes, free_order, child_count, walk_record, walk_records}
use Rattle.meaning.specs.Shape.{degree, bits_to_write, if_left, levels, height, bucket}
use Rattle.meaning.specs.Trees.{Shaped, element, contents}
use Rattle.meaning.specs.Walks.{way, stack, padded, forward_stack, backward_stack}
use Rattle.meaning.specs.Links.{live_roots, roots, cell_links, links, Reached, by_root, by_cell}
use Rattle.meaning.specs.WellFormed.{Live, LegalVersion, LegalWalk, WellFormed}
use Rattle.meaning.specs.Table.{empty, live, closed, taking, fresh_party}
use Rattle.meaning.specs.Stands.{slot_of, left_between, walk_of, party_of, table_of}
use Rattle.meaning.proofs.Lists.{many-each, each_append, each-replicate}
use Rattle.meaning.proofs.Reaching.{reached-used}

-- ---- the state, from the parts that will be damaged one at a time

-- a node's cells in use, and zeros behind them
unfoldable pub node : List ℕ → List ℕ
node xs = xs ++ replicate (node_cells - length xs) 0

-- a stack's levels in use, and zeros behind them
unfoldable pub two : {A : Type 0} → A → A → A → List A
two a b z = a ∷ b ∷ replicate (walk_levels - 2) z

unfoldable pub some_kinds : List ℕ
some_kinds = leaf_kind ∷ leaf_kind ∷ branch_kind ∷ leaf_kind ∷ branch_kind ∷ free_kind ∷ free_kind ∷ []

unfoldable pub some_counts : List ℕ
some_counts = 2 ∷ 1 ∷ 1 ∷ 1 ∷ 2 ∷ 0 ∷ 0 ∷ []

-- leaf [7, 8], leaf [9], branch over both; leaf [9, 10], branch over [7, 8] and it; two free nodes, the first with something left in it
unfoldable pub some_cells : List ℕ
unfolding node
some_cells =
    node (7 ∷ 8 ∷ []) ++ (node (9 ∷ []) ++ (node (0 ∷ 1 ∷ []) ++ (node (9 ∷ 10 ∷ []) ++ (node (0 ∷ 3 ∷ []) ++ (replicate node_cells 99 ++ node [])))))

-- nodes 6 and 5 are free; what stands behind them counts for nothing
unfoldable pub some_order : List ℕ
some_order = 6 ∷ 5 ∷ 99 ∷ 99 ∷ 99 ∷ 99 ∷ 99 ∷ []

-- the way to element 1, and to element 2
unfoldable pub some_indices : List ℤ
unfolding two
some_indices =
    replicate (10 * walk_levels) (pos 0) ++ (two (pos 1) (pos 0) (pos 0) ++ (two (pos 0) (pos 1) (pos 0) ++ replicate (20 * walk_levels) (pos 0)))

abbrev pub three_record : VersionRecord
three_record = record { live = 1; root = 2; bits = 1; length = 3 }

abbrev pub four_record : VersionRecord
four_record = record { live = 1; root = 4; bits = 1; length = 4 }

-- the records of party 1's slots after its first, and of the later parties' slots
unfoldable pub later_versions : List VersionRecord
later_versions = replicate 10 empty_record ++ (four_record ∷ replicate 44 empty_record)

unfoldable pub state : (kinds counts cells order : List ℕ) → (indices : List ℤ) → Lent
unfolding two later_versions
state kinds counts cells order indices =
    record {
      nodes = record { kinds = kinds; used = 2 ∷ 1 ∷ 2 ∷ 2 ∷ 2 ∷ 0 ∷ 0 ∷ []; cells = cells };
      counts = counts;
      order = order;
      versions = replicate 8 empty_record ++ (three_record ∷ later_versions);
      walks =
          record {
            numbers = replicate 30 0 ++ ((1 ∷ 4 ∷ 1 ∷ 4 ∷ 1 ∷ 1 ∷ []) ++ replicate 60 0);
            nodes = replicate (10 * walk_levels) 0 ++ (two 0 4 0 ++ (two 3 4 0 ++ replicate (20 * walk_levels) 0));
            indices = indices;
          };
    }

unfoldable pub shared : Lent
unfolding state some_kinds some_counts some_cells some_order some_indices
shared = state some_kinds some_counts some_cells some_order some_indices

-- it stands for the two lists, and for the two values that the walk has left
pub shared-table : table_of shared
    ≡ fresh_party
    ∷ record { slots = live (record { bits = 1; items = 7 ∷ 8 ∷ 9 ∷ [] }) ∷ replicate 7 empty; walks = closed ∷ closed ∷ [] }
    ∷ record {
      slots = empty ∷ empty ∷ empty ∷ live (record { bits = 1; items = 7 ∷ 8 ∷ 9 ∷ 10 ∷ [] }) ∷ replicate 4 empty;
      walks = closed ∷ taking (8 ∷ 9 ∷ []) ∷ [];
    }
    ∷ replicate 5 fresh_party
unfolding shared node table_of party_of slot_of walk_of left_between contents element rows walk_record height degree bucket levels if_left bits_to_write count_leading_zeros fresh_party
shared-table = refl

-- ---- it is well-formed

-- what the rest of this file computes with
unfoldable pub opened : ℕ
unfolding shared node sum_to how_many occurrences rows is_free free_nodes free_order child_count walk_record walk_records height degree bucket levels if_left bits_to_write count_leading_zeros live_roots roots cell_links links way stack padded forward_stack backward_stack
opened = 0

reach : (n : ℕ) → kind_of shared.nodes n ≢ free_kind → Reached shared.nodes (roots shared) n
unfolding opened
reach zero f = by_cell {m = 2} (by_root (lit≤ tt)) (lit≤ tt)
reach (suc zero) f = by_cell {m = 2} (by_root (lit≤ tt)) (lit≤ tt)
reach (suc (suc zero)) f = by_root (lit≤ tt)
reach (suc (suc (suc zero))) f = by_cell {m = 4} (by_root (lit≤ tt)) (lit≤ tt)
reach (suc (suc (suc (suc zero)))) f = by_root (lit≤ tt)
reach (suc (suc (suc (suc (suc zero))))) f = absurd (f refl)
reach (suc (suc (suc (suc (suc (suc zero)))))) f = absurd (f refl)
reach (suc (suc (suc (suc (suc (suc (suc n))))))) f = absurd (f refl)

three : Live shared.nodes three_record
unfolding opened Shaped
three = record {
  live = refl;
  bits = record { least = lit≤ tt; most = lit≤ tt };
  length = lit≤ tt;
  shape = record { kind = refl; room = lit≤ tt; enough = lit≤ tt; needed = lit≤ tt; children = child };
}
  where
    child : (i : ℕ) → i < 2 → Shaped shared.nodes 1 0 (min 2 (3 - i * 2)) (cell_of shared.nodes 2 i)
    child zero l = record { kind = refl; used = refl; room = lit≤ tt }
    child (suc zero) l = record { kind = refl; used = refl; room = lit≤ tt }
    child (suc (suc i)) l = absurd (lt_irrefl zero (omega arith))

four : Live shared.nodes four_record
unfolding opened Shaped
four = record {
  live = refl;
  bits = record { least = lit≤ tt; most = lit≤ tt };
  length = lit≤ tt;
  shape = record { kind = refl; room = lit≤ tt; enough = lit≤ tt; needed = lit≤ tt; children = child };
}
  where
    child : (i : ℕ) → i < 2 → Shaped shared.nodes 1 0 (min 2 (4 - i * 2)) (cell_of shared.nodes 4 i)
    child zero l = record { kind = refl; used = refl; room = lit≤ tt }
    child (suc zero) l = record { kind = refl; used = refl; room = lit≤ tt }
    child (suc (suc i)) l = absurd (lt_irrefl zero (omega arith))

empties : (n : ℕ) → Each (LegalVersion shared.nodes) (replicate n empty_record)
empties n = each-replicate (LegalVersion shared.nodes) n empty_record (inl refl)

later-legal : Each (LegalVersion shared.nodes) later_versions
unfolding later_versions
later-legal = each_append (LegalVersion shared.nodes) (replicate 10 empty_record) (four_record ∷ replicate 44 empty_record) (empties 10) (inr four, empties 44)

versions-legal : Each (LegalVersion shared.nodes) shared.versions
unfolding shared
versions-legal = each_append (LegalVersion shared.nodes) (replicate 8 empty_record) (three_record ∷ later_versions) (empties 8) (inr three, later-legal)

walks-legal : Each (LegalWalk shared.nodes) (walk_records shared)
unfolding opened
walks-legal = (
  inl refl,
  (
    inl refl,
    (
      inl refl,
      (
        inl refl,
        (
          inl refl,
          (
            inr (record { version = four; taken = lit≤ tt; forward = refl; backward = refl }),
            (inl refl, (inl refl, (inl refl, (inl refl, (inl refl, (inl refl, (inl refl, (inl refl, (inl refl, (inl refl, tt)))))))))),
          ),
        ),
      ),
    ),
  ),
)

-- ---- clauses on every node, by tests that compute

-- a number is a node's, or it is past them all and its kind reads free
kind-past : (n : ℕ) → 7 ≤ n → kind_of shared.nodes n ≡ free_kind
unfolding shared
kind-past n l = get_or-eq_default shared.nodes.kinds free_kind l

spare-cell : (n i : ℕ) → Bool
spare-cell n i = (eqb (kind_of shared.nodes n) free_kind || ltb i (used_of shared.nodes n)) || eqb (cell_of shared.nodes n i) 0

spare : (n i : ℕ) → kind_of shared.nodes n ≢ free_kind → used_of shared.nodes n ≤ i → i < node_cells → cell_of shared.nodes n i ≡ 0
unfolding opened spare-cell
spare n i f u l = pick (dec_lt n 7)
  where
    pick : Dec (n < 7) → cell_of shared.nodes n i ≡ 0
    pick (no g) = absurd (f (kind-past n (omega arith)))
    pick (yes k) =
        let each = eqb-true _ _ (many-each 7 (λ m. eqb (how_many node_cells (spare-cell m)) node_cells) refl n k) in
        let t : spare-cell n i ≡ true = many-each node_cells (spare-cell n) each i l in
        eqb-true _ _ (rw (ne_eqb (kind_of shared.nodes n) free_kind f, le-ltb i (used_of shared.nodes n) u) at t)

once : (n : ℕ) → occurrences n (free_order shared) ≡ bit (is_free shared.nodes n)
unfolding opened
once n = pick (dec_lt n 7)
  where
    pick : Dec (n < 7) → occurrences n (free_order shared) ≡ bit (is_free shared.nodes n)
    pick (yes k) = eqb-true _ _ (many-each 7 (λ m. eqb (occurrences m (free_order shared)) (bit (is_free shared.nodes m))) refl n k)
    pick (no g) = rw (ne_eqb 6 n (λ e. omega arith), ne_eqb 5 n (λ e. omega arith), le-ltb n 7 (omega arith))

-- used and count, of a free node
free-test : (n : ℕ) → Bool
free-test n = not (eqb (kind_of shared.nodes n) free_kind) || eqb (used_of shared.nodes n + count_of shared n) 0

free-zero : (n : ℕ) → n < 7 → kind_of shared.nodes n ≡ free_kind → (used_of shared.nodes n ≡ 0) × (count_of shared n ≡ 0)
unfolding opened free-test
free-zero n l e =
    let t = many-each 7 free-test refl n l in
    let z : used_of shared.nodes n + count_of shared n ≡ 0 = eqb-true _ _ (rw e at t) in
    (omega arith, omega arith)

pub shared-well-formed : WellFormed shared
unfolding opened
shared-well-formed = record {
  sizes = record {
    least = lit≤ tt;
    most = lit≤ tt;
    used = refl;
    cells = refl;
    counts = refl;
    order = refl;
    versions = refl;
    walk_numbers = refl;
    walk_nodes = refl;
    walk_indices = refl;
  };
  versions = versions-legal;
  walks = walks-legal;
  counted = λ n l. eqb-true _ _ (many-each 7 (λ n. eqb (count_of shared n) (links shared n)) refl n l);
  reached = λ n. (reach n, reached-used shared versions-legal walks-legal);
  once = once;
  spare = spare;
  free_used = λ n l e. (free-zero n l e).0;
  free_count = λ n l e. (free-zero n l e).1;
}

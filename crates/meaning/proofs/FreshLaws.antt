-- A fresh state is well-formed, all its nodes are free, and it stands for the fresh table.
use mathlib.Core.Path.{◌≡◌, refl, sym, ap, ◌∙◌}
use mathlib.Core.Logic.{inl}
use mathlib.Core.Bool.{and-true}
use mathlib.Core.List.{List, []}
use Prim.Native.Nat.{ℕ, zero, suc, ◌+◌, ◌*◌, ◌≤◌, ◌<◌}
use native.Mathlib.Decide.{ℕ_discrete, dec_lt}
use native.Mathlib.Nat.{lt_irrefl}
use native.Mathlib.Omega.{arith}
use lib.Dec.{ltb, eqb}
use lib.IntN.{pos}
use lib.ListN.{length, replicate, length-replicate}
use lib.Seq.{take_all}
use borrow.Author.Tests.{lt-ltb, le-ltb, eq-eqb, ne_eqb}
use Rattle.meaning.specs.Limits.{max_nodes, node_cells, free_kind, version_count, walk_count, all_numbers, places}
use Rattle.meaning.specs.Counting.{bit, occurrences, rows}
use Rattle.meaning.specs.Lent.{Nodes, closed_record, empty_record, size, kind_of, is_free, free_nodes, free_order, child_count, walk_record, walk_records}
use Rattle.meaning.specs.Links.{live_roots, roots, cell_links, links, Reached, by_root, by_cell}
use Rattle.meaning.specs.WellFormed.{LegalVersion, LegalWalk, WellFormed}
use Rattle.meaning.specs.Fresh.{down_from, fresh_state}
use Rattle.meaning.specs.Table.{fresh_party, fresh_table}
use Rattle.meaning.specs.Stands.{slot_of, walk_of, party_of, table_of}
use Rattle.meaning.proofs.Lists.{sum-none, many-all, many-none, each-replicate, rows_same, replicate-at}

-- nothing is reached from no roots
pub reached-none : {s : Nodes} {n : ℕ} → Reached s [] n → ⊥
unfolding occurrences
reached-none (by_root l) = lt_irrefl zero (omega arith)
reached-none (by_cell r l) = reached-none r

-- ---- the order

pub down-length : (N : ℕ) → length (down_from N) ≡ N
unfolding down_from
down-length zero = refl
down-length (suc N) = ap suc (down-length N)

pub down-occurs : (N n : ℕ) → occurrences n (down_from N) ≡ bit (ltb n N)
unfolding down_from occurrences
down-occurs zero n = rw (le-ltb n 0 (omega arith))
down-occurs (suc N) n = pick (ℕ_discrete N n) (dec_lt n N) (down-occurs N n)
  where
    pick : Dec (N ≡ n) → Dec (n < N) → occurrences n (down_from N) ≡ bit (ltb n N) → bit (eqb N n) + occurrences n (down_from N) ≡ bit (ltb n (suc N))
    pick (yes e) d h = rw (eq-eqb N n e, h, le-ltb n N (omega arith), lt-ltb n (suc N) (omega arith))
    pick (no f) (yes l) h = rw (ne_eqb N n f, h, lt-ltb n N l, lt-ltb n (suc N) (omega arith))
    pick (no f) (no g) h = rw (ne_eqb N n f, h, le-ltb n N (omega arith), le-ltb n (suc N) (omega arith))

-- ---- walks

-- a walk record that is all 0
zero-walk : (a b c n : ℕ) → walk_record (record { numbers = replicate a 0; nodes = replicate b 0; indices = replicate c (pos 0) }) n ≡ closed_record
unfolding walk_record rows
zero-walk a b c n = simp replicate-at

-- ---- the state

module _ (N : ℕ) (cells : List ℕ) where
  fresh_walks : walk_records (fresh_state N cells) ≡ replicate walk_count closed_record
  unfolding fresh_state walk_records
  fresh_walks =
      rows_same walk_count _ closed_record
      (zero-walk all_numbers places places)

  fresh-roots : roots (fresh_state N cells) ≡ []
  unfolding roots live_roots fresh_state
  fresh-roots = rw fresh_walks

  fresh-kind : (n : ℕ) → kind_of (fresh_state N cells).nodes n ≡ free_kind
  unfolding fresh_state
  fresh-kind n = replicate-at N n free_kind

  -- the nodes of a fresh state are all free
  pub fresh-free : free_nodes (fresh_state N cells).nodes ≡ N
  unfolding free_nodes is_free fresh_state
  fresh-free = rw length-replicate (many-all N _ (λ k l. rw (length-replicate, lt-ltb k N l, replicate-at N k free_kind)))

  fresh-order : free_order (fresh_state N cells) ≡ down_from N
  unfolding free_order fresh_state
  fresh-order = rw fresh-free (take_all N (down_from N) (rw down-length (omega arith)))

  -- it stands for the fresh table
  pub fresh-table : table_of (fresh_state N cells) ≡ fresh_table
  unfolding table_of party_of slot_of walk_of walk_record rows fresh_state fresh_table fresh_party
  fresh-table = refl

  fresh-children : (m : ℕ) → child_count (fresh_state N cells).nodes m ≡ 0
  unfolding child_count
  fresh-children m = rw (fresh-kind m)

  fresh-links : (n : ℕ) → links (fresh_state N cells) n ≡ 0
  unfolding links cell_links occurrences
  fresh-links n = rw (fresh-roots, sum-none (size (fresh_state N cells)) _ (λ m l. many-none _ _ (fresh-children m)))

  fresh-once : (n : ℕ) → occurrences n (free_order (fresh_state N cells)) ≡ bit (is_free (fresh_state N cells).nodes n)
  unfolding fresh_state is_free
  fresh-once n = rw (fresh-order, down-occurs N n, length-replicate, replicate-at N n free_kind) (ap bit (sym (and-true (ltb n N))))

  pub fresh-well-formed : 1 ≤ N → N ≤ max_nodes → length cells ≡ node_cells * N → WellFormed (fresh_state N cells)
  unfolding fresh_state
  fresh-well-formed low high fits = record {
    sizes = record {
      least = rw length-replicate low;
      most = rw length-replicate high;
      used = simp length-replicate;
      cells = rw length-replicate fits;
      counts = simp length-replicate;
      order = rw length-replicate (down-length N);
      versions = refl;
      walk_numbers = refl;
      walk_nodes = refl;
      walk_indices = refl;
    };
    versions = each-replicate (LegalVersion _) version_count empty_record (inl refl);
    walks = rw fresh_walks (each-replicate (LegalWalk _) walk_count closed_record (inl refl));
    counted = λ n l. replicate-at N n 0 ∙ sym (fresh-links n);
    reached = λ n. (λ f. absurd (f (fresh-kind n)), λ r. absurd (reached-none (rw fresh-roots at r)));
    once = fresh-once;
    spare = λ n i f. absurd (f (fresh-kind n));
    free_used = λ n l e. replicate-at N n 0;
    free_count = λ n l e. replicate-at N n 0;
  }

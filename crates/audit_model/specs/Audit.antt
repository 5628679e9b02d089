-- The audit, whole: the sizes first, then the records, then what is left to compare.
use Rattle.std.specs.Prelude.{◌≡◌, Bool, cond, not, ◌&&◌, List, ℕ, ◌*◌, ◌≤◌, eqb, leb, length, get_or}
use Rattle.meaning.specs.Limits.{max_nodes, node_cells, free_kind, version_count, walk_count, all_numbers, places}
use Rattle.meaning.specs.Lent.{Nodes, kind_of, used_of, cell_of, VersionRecord, empty_record, walk_record, Lent, size, is_free, free_nodes}
use Rattle.audit_model.specs.Descent.{Answer, and_then, through}
use Rattle.audit_model.specs.Records.{all_to, all_from, version_step, walk_step}
use Rattle.audit_model.specs.Tallies.{raise_to, roots_tally, nodes_tally}

-- n zeros or more
pub record Blank (n : ℕ) (z : List ℕ) : Type 0 where
  pub zeros : (i : ℕ) → get_or z i 0 ≡ 0
  pub room : n ≤ length z

-- the lengths of the slices of nodes, of the order and of the walks
unfoldable pub lengths_ok : (kinds used cells counts order numbers nodes indices : ℕ) → Bool
lengths_ok n u e c o a b i =
    leb n max_nodes
    && ((((((leb 1 n && eqb u n) && eqb e (node_cells * n)) && eqb c n) && eqb o n) && eqb a all_numbers) && eqb b places
    && eqb i places)

unfoldable pub sizes_ok : Lent → Bool
sizes_ok s =
    lengths_ok (size s) (length s.nodes.used) (length s.nodes.cells) (length s.counts) (length s.order)
    (length s.walks.numbers) (length s.walks.nodes) (length s.walks.indices)
    && eqb (length s.versions) version_count

-- ---- the records

abbrev pub record_at : List VersionRecord → (i : ℕ) → VersionRecord
record_at vs i = get_or vs i empty_record

unfoldable pub versions_ok : Lent → List ℕ → Answer
versions_ok s t = through version_count (λ i. version_step s.nodes (record_at s.versions i)) t

unfoldable pub walks_ok : Lent → List ℕ → Answer
walks_ok s t = through walk_count (walk_step s.nodes s.walks) t

unfoldable pub records_ok : Lent → List ℕ → Answer
records_ok s t = and_then (versions_ok s t) (walks_ok s)

-- ---- the tallies: places in the free order, then links

unfoldable pub order_ok : Lent → Bool
order_ok s = all_to (free_nodes s.nodes) (λ j. is_free s.nodes (get_or s.order j 0))

unfoldable pub tallies : Lent → List ℕ → List ℕ
tallies s z =
    nodes_tally s.nodes (size s)
    (roots_tally walk_count (λ i. (walk_record s.walks i).version)
    (roots_tally version_count (record_at s.versions)
    (raise_to (free_nodes s.nodes) (λ j. get_or s.order j 0) z)))

-- ---- the comparison

-- a node's cells from used upwards are 0
unfoldable pub spare_ok : (used : ℕ) → (cell : ℕ → ℕ) → Bool
spare_ok u cell = all_from u node_cells (λ i. eqb (cell i) 0)

-- a free node stands in the order once, is linked by none and is 0; any other was reached, and its count is the links to it
unfoldable pub node_ok : Nodes → (counts codes tallies : List ℕ) → (n : ℕ) → Bool
node_ok s counts codes t n =
    cond (eqb (kind_of s n) free_kind)
    ((eqb (get_or t n 0) 1 && eqb (used_of s n) 0) && eqb (get_or counts n 0) 0)
    ((not (eqb (get_or codes n 0) 0) && eqb (get_or t n 0) (get_or counts n 0)) && spare_ok (used_of s n) (cell_of s n))

unfoldable pub nodes_ok : Lent → (codes tallies : List ℕ) → Bool
nodes_ok s codes t = all_to (size s) (node_ok s.nodes s.counts codes t)

-- after the sizes; z is blank
unfoldable pub rest_ok : Lent → List ℕ → Bool
rest_ok s z =
    let a = records_ok s z in
    (a.ok && order_ok s) && nodes_ok s a.codes (tallies s z)

unfoldable pub audit_ok : Lent → List ℕ → Bool
audit_ok s z = sizes_ok s && rest_ok s z

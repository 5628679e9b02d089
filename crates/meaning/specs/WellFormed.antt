-- "The state is well-formed if": the paragraph of document 01, clause by clause.
use Rattle.std.specs.Prelude.{◌≡◌, ◌≢◌, ◌⊎◌, ◌↔◌, ℕ, ◌+◌, ◌*◌, ◌≤◌, ◌<◌, length}
use Rattle.meaning.specs.Limits.{max_nodes, node_cells, free_kind, version_count, max_bits, max_length, all_numbers, places}
use Rattle.meaning.specs.Counting.{bit, occurrences, Each}
use Rattle.meaning.specs.Lent.{Nodes, kind_of, used_of, cell_of, VersionRecord, empty_record, WalkRecord, closed_record, Lent, size, count_of, is_free, free_order, walk_records}
use Rattle.meaning.specs.Trees.{HasShape}
use Rattle.meaning.specs.Walks.{forward_stack, backward_stack}
use Rattle.meaning.specs.Links.{roots, links, Reached}

-- the lent sizes fit one N in range
pub record SizesFit (s : Lent) : Type 0 where
  pub least : 1 ≤ size s
  pub most : size s ≤ max_nodes
  pub used : length s.nodes.used ≡ size s
  pub cells : length s.nodes.cells ≡ node_cells * size s
  pub counts : length s.counts ≡ size s
  pub order : length s.order ≡ size s
  pub versions : length s.versions ≡ version_count
  pub walk_numbers : length s.walks.numbers ≡ all_numbers
  pub walk_nodes : length s.walks.nodes ≡ places
  pub walk_indices : length s.walks.indices ≡ places

pub record LegalBits (bits : ℕ) : Type 0 where
  pub least : 1 ≤ bits
  pub most : bits ≤ max_bits

-- a live version has legal numbers and the shape
pub record Live (s : Nodes) (v : VersionRecord) : Type 0 where
  pub live : v.live ≡ 1
  pub bits : LegalBits v.bits
  pub length : v.length ≤ max_length
  pub shape : HasShape s v

-- an empty slot record is 0
abbrev pub LegalVersion : Nodes → VersionRecord → Type 0
LegalVersion s v = (v ≡ empty_record) ⊎ Live s v

-- an open walk has them too, and its record agrees with its taken numbers from each end
pub record Open (s : Nodes) (w : WalkRecord) : Type 0 where
  pub version : Live s w.version
  pub taken : w.front + w.back ≤ w.version.length
  pub forward : w.forward ≡ forward_stack s w
  pub backward : w.backward ≡ backward_stack s w

-- a closed walk record is 0
abbrev pub LegalWalk : Nodes → WalkRecord → Type 0
LegalWalk s w = (w ≡ closed_record) ⊎ Open s w

pub record WellFormed (s : Lent) : Type 0 where
  -- the lent sizes fit one N in range
  pub sizes : SizesFit s
  -- each live version and open walk has legal numbers and the shape; empty slot records and closed walk records are 0
  pub versions : Each (LegalVersion s.nodes) s.versions
  pub walks : Each (LegalWalk s.nodes) (walk_records s)
  -- each node's count equals the links to it
  pub counted : (n : ℕ) → n < size s → count_of s n ≡ links s n
  -- each unreached node is of kind free, and no other is. Each node is of one kind for all who reach it: the kind is the node's own, and every shape that has the node speaks of that one.
  pub reached : (n : ℕ) → (kind_of s.nodes n ≢ free_kind) ↔ Reached s.nodes (roots s) n
  -- each of them is in the free order once, and no other number is
  pub once : (n : ℕ) → occurrences n (free_order s) ≡ bit (is_free s.nodes n)
  -- a leaf's or branch's cells from used upwards are 0
  pub spare : (n i : ℕ) → kind_of s.nodes n ≢ free_kind → used_of s.nodes n ≤ i → i < node_cells → cell_of s.nodes n i ≡ 0
  -- used and count of a free node are 0; its cells may hold anything
  pub free_used : (n : ℕ) → n < size s → kind_of s.nodes n ≡ free_kind → used_of s.nodes n ≡ 0
  pub free_count : (n : ℕ) → n < size s → kind_of s.nodes n ≡ free_kind → count_of s n ≡ 0

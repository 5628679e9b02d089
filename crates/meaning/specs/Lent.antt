-- "The state the host lends": lists of numbers, one for each lent slice, and how a node, a slot or a walk is read from them. What lies past the end of a list reads 0.
use Rattle.std.specs.Prelude.{Bool, cond, ◌&&◌, List, ℕ, ◌+◌, ◌*◌, ltb, eqb, ℤ, pos, length, get_or, take, replicate}
use Rattle.meaning.specs.Limits.{node_cells, free_kind, branch_kind, party_slots, party_walks, walk_count, walk_levels, walk_numbers}
use Rattle.meaning.specs.Counting.{how_many, rows}

-- ---- what is lent

-- what a lookup reads of the nodes
pub record Nodes : Type 0 where
  pub kinds : List ℕ  -- one a node: 0 free, 1 leaf, 2 branch
  pub used : List ℕ  -- one a node: how many of its cells are in use
  pub cells : List ℕ  -- 32 a node, those of node n from 32 n upwards

pub record VersionRecord : Type 0 where
  pub live : ℕ  -- 1 live, 0 empty
  pub root : ℕ
  pub bits : ℕ
  pub length : ℕ

pub record WalkSlices : Type 0 where
  pub numbers : List ℕ  -- six a walk: live, root, bits, length, taken from the front, taken from the back
  pub nodes : List ℕ  -- two stacks a walk, forward and backward, of 15 levels each, the leaf's first
  pub indices : List ℤ  -- the same places, signed

pub record Lent : Type 0 where
  pub nodes : Nodes
  pub counts : List ℕ  -- one a node: the links to it
  pub order : List ℕ  -- one place a node; the free order is its first places, as many as there are free nodes
  pub versions : List VersionRecord  -- 64, eight a party
  pub walks : WalkSlices  -- sixteen, two a party

-- N
abbrev pub size : Lent → ℕ
size s = length s.nodes.kinds

-- ---- nodes

abbrev pub kind_of : Nodes → (n : ℕ) → ℕ
kind_of s n = get_or s.kinds n free_kind

abbrev pub used_of : Nodes → (n : ℕ) → ℕ
used_of s n = get_or s.used n 0

abbrev pub cell_of : Nodes → (n i : ℕ) → ℕ
cell_of s n i = get_or s.cells (node_cells * n + i) 0

abbrev pub count_of : Lent → (n : ℕ) → ℕ
count_of s n = get_or s.counts n 0

-- a node, and of kind free
unfoldable pub is_free : Nodes → (n : ℕ) → Bool
is_free s n = ltb n (length s.kinds) && eqb (kind_of s n) free_kind

unfoldable pub free_nodes : Nodes → ℕ
free_nodes s = how_many (length s.kinds) (is_free s)

unfoldable pub free_order : Lent → List ℕ
free_order s = take (free_nodes s.nodes) s.order

-- the cells of a node that hold node numbers: a branch's in use
unfoldable pub child_count : Nodes → (n : ℕ) → ℕ
child_count s n = cond (eqb (kind_of s n) branch_kind) (used_of s n) 0

-- ---- version records

abbrev pub empty_record : VersionRecord
empty_record = record { live = 0; root = 0; bits = 0; length = 0 }

-- the record of a party's slot
abbrev pub version_at : Lent → (party slot : ℕ) → VersionRecord
version_at s p n = get_or s.versions (party_slots * p + n) empty_record

-- ---- walk records

-- a node on the way to an element, and which of its cells is taken
pub record Level : Type 0 where
  pub node : ℕ
  pub index : ℤ

pub record WalkRecord : Type 0 where
  pub version : VersionRecord  -- what is walked; live while the walk is open
  pub front : ℕ  -- how many are taken from the front
  pub back : ℕ  -- how many are taken from the back
  pub forward : List Level
  pub backward : List Level

abbrev pub no_level : Level
no_level = record { node = 0; index = pos 0 }

abbrev pub closed_record : WalkRecord
closed_record =
    record { version = empty_record; front = 0; back = 0; forward = replicate walk_levels no_level; backward = replicate walk_levels no_level }

-- level k of a stack, of which each walk has two
abbrev pub level_of : WalkSlices → (stack k : ℕ) → Level
level_of w n k = record { node = get_or w.nodes (walk_levels * n + k) 0; index = get_or w.indices (walk_levels * n + k) (pos 0) }

-- walk n of all
unfoldable pub walk_record : WalkSlices → (n : ℕ) → WalkRecord
unfolding rows
walk_record w n =
    let number : ℕ → ℕ = λ k. get_or w.numbers (walk_numbers * n + k) 0 in
    record {
      version = record { live = number 0; root = number 1; bits = number 2; length = number 3 };
      front = number 4;
      back = number 5;
      forward = rows walk_levels (level_of w (2 * n));
      backward = rows walk_levels (level_of w (2 * n + 1));
    }

-- the record of a party's walk
abbrev pub walk_at : Lent → (party walk : ℕ) → WalkRecord
walk_at s p n = walk_record s.walks (party_walks * p + n)

-- all sixteen
unfoldable pub walk_records : Lent → List WalkRecord
unfolding rows
walk_records s = rows walk_count (walk_record s.walks)

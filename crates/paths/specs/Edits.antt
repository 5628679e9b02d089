-- What each call makes of the store and which version record it answers.
use Rattle.std.specs.Prelude.{true, cond, [], ◌∷◌, ℕ, ◌+◌, ◌-◌, eqb, get_or, replicate}
use Rattle.meaning.specs.Limits.{node_cells, leaf_kind}
use Rattle.meaning.specs.Lent.{VersionRecord}
use Rattle.meaning.specs.Shape.{is_root_full}
use Rattle.meaning.specs.Trees.{height_of}
use Rattle.meaning.specs.Costs.{loses_root}
use Rattle.cells.specs.Cells.{cells_of}
use Rattle.store.specs.Store.{Store, top, make, raised}
use Rattle.paths.specs.Paths.{Made, assoc, grow, drop_last}

-- a live record
abbrev pub live_record : (root bits length : ℕ) → VersionRecord
live_record n bits m = record { live = 1; root = n; bits = bits; length = m }

pub record Edit : Type 0 where
  pub store : Store
  pub version : VersionRecord

abbrev pub edit : Made → (bits length : ℕ) → Edit
edit m bits n = record { store = m.store; version = live_record m.node bits n }

-- an empty leaf
unfoldable pub empty_leaf : Store → Made
empty_leaf s = record { store = make s leaf_kind 0 (replicate node_cells 0); node = top s }

unfoldable pub new_edit : Store → (bits : ℕ) → Edit
new_edit s bits = edit (empty_leaf s) bits 0

-- a clone, a hand-over, an opened walk: one link more to the root
unfoldable pub share_edit : Store → VersionRecord → Edit
share_edit s v = record { store = raised s (v.root ∷ []); version = v }

unfoldable pub set_edit : Store → VersionRecord → (index value : ℕ) → Edit
set_edit s v i x = edit (assoc s v.bits (height_of v) true v.root i x) v.bits v.length

unfoldable pub push_edit : Store → VersionRecord → (value : ℕ) → Edit
push_edit s v x =
    edit (cond (is_root_full v.bits v.length) (grow s v.bits (height_of v) v.root v.length x) (assoc s v.bits (height_of v) true v.root v.length x)) v.bits (v.length + 1)

-- the root's first child in the root's place, shared
unfoldable pub first_child : Store → (root : ℕ) → Made
first_child s n = let c = get_or (cells_of s.nodes.cells n) 0 0 in record { store = raised s (c ∷ []); node = c }

-- a single element leaves an empty leaf; a root left with one child gives way to it
unfoldable pub drop_edit : Store → VersionRecord → Edit
drop_edit s v =
    edit
    (cond (eqb v.length 1) (empty_leaf s)
    (cond (loses_root v.bits v.length) (first_child s v.root)
    (drop_last s v.bits (height_of v) v.root (v.length - 1))))
    v.bits
    (v.length - 1)

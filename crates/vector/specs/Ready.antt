-- What the calls require. Each record of a version is asked for only what a call that is not refused reaches.
use Rattle.std.specs.Prelude.{◌≡◌, Bool, true, false, List, ℕ, suc, ◌+◌, ◌-◌, ◌*◌, ◌≤◌, ◌<◌, length, take}
use Rattle.meaning.specs.Limits.{node_cells, walk_levels, word_width, max_length}
use Rattle.meaning.specs.Lent.{VersionRecord}
use Rattle.meaning.specs.Shape.{is_root_full}
use Rattle.meaning.specs.Trees.{height_of}
use Rattle.shape.specs.Legal.{Legal}
use Rattle.store.specs.Store.{Store, node_count}
use Rattle.store.specs.Ready.{Sized, Room, AllBelow}
use Rattle.paths.specs.Edits as edits
use Rattle.paths.specs.Ready.{Way, WayBeyond, WayToLast, Ready}

abbrev pub edit_of : Store → VersionRecord → edits.Edit
edit_of s v = record { store = s; version = v }

-- ---- the public calls

-- a count can rise
pub record Linkable (counts : List ℕ) (n : ℕ) : Type 0 where
  pub below : n < length counts
  pub room : Room 1 counts

-- what the free order holds are nodes, and each count has room for the links of any path copied
pub record Steady (s : Store) : Type 0 where
  pub sized : Sized s
  pub most : s.free ≤ length s.order
  pub free : AllBelow (node_count s) (take s.free s.order)
  pub room : Room (node_cells * suc walk_levels) s.counts

-- a version can be edited on some way
pub record Editable (s : Store) (v : VersionRecord) (Way : Type 0) : Type 0 where
  pub legal : Legal v.bits v.length
  pub steady : Steady s
  pub way : Way

abbrev pub SetWay : Store → VersionRecord → (index : ℕ) → Type 0
SetWay s v i = i < v.length → Way s v.bits (height_of v) true v.root i

pub record PushWay (s : Store) (v : VersionRecord) : Type 0 where
  pub within : v.length < max_length → is_root_full v.bits v.length ≡ false → Way s v.bits (height_of v) true v.root v.length
  pub beyond : v.length < max_length → is_root_full v.bits v.length ≡ true → WayBeyond s v.bits (height_of v) v.root v.length

abbrev pub DropWay : Store → VersionRecord → Type 0
DropWay s v = 1 ≤ v.length → WayToLast s v.bits (height_of v) v.root (v.length - 1)

-- ---- a call that is not refused, at height h

-- over a root that is full or isn't
pub record CanPush (s : Store) (v : VersionRecord) (h : ℕ) (full : Bool) : Type 0 where
  pub height : h ≡ height_of v
  pub root : full ≡ is_root_full v.bits v.length
  pub within : full ≡ false → Ready s v.bits h (Way s v.bits h true v.root v.length)
  pub beyond : full ≡ true → Ready s v.bits (suc h) (WayBeyond s v.bits h v.root v.length)

pub record CanDrop (s : Store) (v : VersionRecord) (h : ℕ) : Type 0 where
  pub legal : Legal v.bits v.length
  pub height : h ≡ height_of v
  pub some : 1 ≤ v.length
  pub ready : Ready s v.bits h (WayToLast s v.bits h v.root (v.length - 1))

-- what a call leaves free: fewer by no more nodes than a path can have
pub record Fell (free left : ℕ) : Type 0 where
  pub most : left ≤ free
  pub least : free ≤ left + word_width

-- Two stores that agree on a set of nodes which has all that its nodes link, and what that leaves as it was.
use Rattle.std.specs.Prelude.{◌≡◌, ℕ, ◌≤◌}
use Rattle.meaning.specs.Counting.{Each}
use Rattle.meaning.specs.Lent.{Nodes, VersionRecord, WalkRecord, Lent, walk_records}
use Rattle.meaning.specs.Links.{cell_links}
use Rattle.meaning.specs.WellFormed.{LegalVersion, LegalWalk}
use Rattle.meaning.specs.Stands.{slot_of, walk_of}
use Rattle.store.specs.Frame.{Same}

-- P: any set of node numbers
pub record Agreeing (s t : Nodes) (P : ℕ → Type 0) : Type 0 where
  pub same : (n : ℕ) → P n → Same s t n
  pub closed : (m n : ℕ) → P m → 1 ≤ cell_links s m n → P n

-- a record that is legal in t, and stands there for what it stood for in s
abbrev pub SlotStays : (s t : Nodes) → VersionRecord → Type 0
SlotStays s t v = LegalVersion t v × (slot_of t v ≡ slot_of s v)

abbrev pub WalkStays : (s t : Nodes) → WalkRecord → Type 0
WalkStays s t w = LegalWalk t w × (walk_of t w ≡ walk_of s w)

-- all records of a state are
abbrev pub RecordsStay : (s t : Nodes) → Lent → Type 0
RecordsStay s t x = Each (SlotStays s t) x.versions × Each (WalkStays s t) (walk_records x)

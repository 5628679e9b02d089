-- What is carried from call to call while a batch runs: a well-formed state, by its store and its records.
use Rattle.std.specs.Prelude.{List}
use Rattle.meaning.specs.Counting.{Each}
use Rattle.meaning.specs.Lent.{VersionRecord, WalkSlices, Lent, walk_records}
use Rattle.meaning.specs.Links.{roots}
use Rattle.meaning.specs.WellFormed.{SizesFit, LegalVersion, LegalWalk}
use Rattle.store.specs.Store.{Store}
use Rattle.ledger.specs.Kept.{Kept}

-- a store with the records beside it
abbrev pub state_of : Store → (versions : List VersionRecord) → WalkSlices → Lent
state_of s vs ws = record { nodes = s.nodes; counts = s.counts; order = s.order; versions = vs; walks = ws }

pub record Running (s : Store) (vs : List VersionRecord) (ws : WalkSlices) : Type 0 where
  pub fits : SizesFit (state_of s vs ws)
  pub versions : Each (LegalVersion s.nodes) vs
  pub walks : Each (LegalWalk s.nodes) (walk_records (state_of s vs ws))
  pub kept : Kept s (roots (state_of s vs ws))

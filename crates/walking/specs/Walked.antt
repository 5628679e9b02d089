-- The versions that are walked.
use Rattle.std.specs.Prelude.{List}
use Rattle.meaning.specs.Limits.{walk_count}
use Rattle.meaning.specs.Counting.{rows}
use Rattle.meaning.specs.Lent.{VersionRecord, WalkSlices, walk_record}

-- one a walk record, live while the walk is open
unfoldable pub walked : WalkSlices → List VersionRecord
walked ws = rows walk_count (λ n. (walk_record ws n).version)

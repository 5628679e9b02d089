-- What is asked of a version whose walk is compared: it was found right.
use Rattle.std.specs.Prelude.{◌≡◌, ◌⊎◌, ℕ, ◌*◌, ◌<◌, ◌≤◌}
use Rattle.meaning.specs.Limits.{walk_count}
use Rattle.meaning.specs.Lent.{VersionRecord}
use Rattle.shape.specs.Legal.{Legal}

-- the numbers of an empty record, or legal ones
abbrev pub Found : VersionRecord → Type 0
Found v = (v.length ≡ 0) ⊎ Legal v.bits v.length

pub record Walkable (v : VersionRecord) (t st : ℕ) : Type 0 where
  pub found : Found v
  pub taken : t ≤ v.length
  pub stack : st < 2 * walk_count

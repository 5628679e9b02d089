-- What is asked of callers: the numbers of every legal version.
use Rattle.std.specs.Prelude.{ℕ, ◌≤◌}
use Rattle.meaning.specs.Limits.{max_length}
use Rattle.meaning.specs.WellFormed.{LegalBits}

pub record Legal (b n : ℕ) : Type 0 where
  pub bits : LegalBits b
  pub length : n ≤ max_length

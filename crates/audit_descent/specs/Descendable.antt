-- What the descent asks of its numbers. Of the slices it asks nothing.
use Rattle.std.specs.Prelude.{ℕ, ◌*◌, ◌≤◌, ◌<◌}
use Rattle.meaning.specs.Limits.{max_length, length_bits}
use Rattle.meaning.specs.WellFormed.{LegalBits}

pub record Descendable (b h m : ℕ) : Type 0 where
  pub bits : LegalBits b
  pub shift : h * b < length_bits
  pub size : m ≤ max_length

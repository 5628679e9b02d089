-- What the tallies ask: room for what is still to be counted.
use Rattle.std.specs.Prelude.{List, ℕ, ◌≤◌, get_or}

-- no entry is above k
unfoldable pub Under : (k : ℕ) → List ℕ → Type 0
Under k t = (i : ℕ) → get_or t i 0 ≤ k

-- What the plain table is told about the nodes, which it hasn't.
use Rattle.std.specs.Prelude.{Bool, false, ℕ, ltb}

-- how many nodes a call may take
pub data Spend : Type 0 where
  unlimited : Spend
  nodes : ℕ → Spend

pub record Supply : Type 0 where
  -- what may be spent: number 10 compares the charge with it
  pub spend : Spend
  -- what 0D answers: N less the nodes reached
  pub free : ℕ
  -- what an in-place call owes; document 01 has none
  pub owed : ℕ

-- so many nodes are free, and all of them may be spent
abbrev pub all_free : (free : ℕ) → Supply
all_free n = record { spend = nodes n; free = n; owed = 0 }

-- no limit of nodes, so that none are counted
abbrev pub no_limit : Supply
no_limit = record { spend = unlimited; free = 0; owed = 0 }

-- fewer nodes than the charge
unfoldable pub is_short : Spend → (charge : ℕ) → Bool
is_short unlimited charge = false
is_short (nodes n) charge = ltb n charge

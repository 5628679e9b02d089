-- What the audit answers of a lent state.
use Rattle.std.specs.Prelude.{◌≡◌, ◌↔◌, Bool, true, cond, List, ℕ, ◌≤◌}
use Rattle.meaning.specs.Lent.{Lent, size, free_nodes}
use Rattle.meaning.specs.WellFormed.{SizesFit, WellFormed}
use Rattle.audit_model.specs.Audit.{Blank}

-- whether it is well-formed, and how many nodes are free if it is
pub record Judged (s : Lent) (well : Bool) (frees : ℕ) : Type 0 where
  pub ok : (well ≡ true) ↔ WellFormed s
  pub free : frees ≡ cond well (free_nodes s.nodes) 0

-- the sizes fit, and both lists are zeros that have room for every node
pub record Cleared (s : Lent) (z y : List ℕ) : Type 0 where
  pub sizes : SizesFit s
  pub codes : Blank (size s) z
  pub tallies : y ≡ z

-- the sizes fit, and n zeros suffice
pub record Small (s : Lent) (n : ℕ) : Type 0 where
  pub sizes : SizesFit s
  pub room : size s ≤ n

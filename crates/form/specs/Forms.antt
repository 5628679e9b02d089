-- What forming a fresh state makes of what is lent.
use Rattle.std.specs.Prelude.{◌≡◌, List, ℕ, length, replicate}
use Rattle.meaning.specs.Limits.{done_number, ill_formed_number}
use Rattle.meaning.specs.Lent.{Lent, size}
use Rattle.meaning.specs.WellFormed.{SizesFit}
use Rattle.meaning.specs.Fresh.{fresh_state}

-- Sizes that fit one N in range make the fresh state of N nodes over the cells as they were lent; any others are refused with 11, and nothing is written.
pub record Forms (s after : Lent) (number : ℕ) : Type 0 where
  pub fits : SizesFit s → (number ≡ done_number) × (after ≡ fresh_state (size s) s.nodes.cells)
  pub refuses : (SizesFit s → ⊥) → (number ≡ ill_formed_number) × (after ≡ s)

-- as many zeros
abbrev pub zeros : List ℕ → List ℕ
zeros xs = replicate (length xs) 0

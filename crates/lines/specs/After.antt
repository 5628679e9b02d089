-- The plain table after lines, and what is free at each of them.
use Rattle.std.specs.Prelude.{List, [], ◌∷◌, ℕ, suc, take}
use Rattle.meaning.specs.Table.{Table}
use Rattle.meaning.specs.Supply.{Supply}
use Rattle.meaning.specs.Serve.{serve}
use Rattle.meaning.specs.Program.{Line, frame, other}
use Rattle.lines.specs.Lines.{frames_marked}

-- the table that `talk` leaves
unfoldable pub after_lines : List Line → (ℕ → Supply) → Table → Table
after_lines [] free t = t
after_lines (frame f ∷ ls) free t = after_lines ls (λ n. free (suc n)) (serve (free 0) f t).0
after_lines (other ∷ ls) free t = after_lines ls (λ n. free (suc n)) t

-- what is free at each line, from what is free at each frame: no other line takes any
unfoldable pub at_lines : (marks : List ℕ) → (ℕ → Supply) → (ℕ → Supply)
at_lines marks free n = free (frames_marked (take n marks))

use mathlib.Core.Path.{◌≡◌}
use Rattle.levels.specs.Levels.{popped_down}
use Rattle.levels.proofs.pop_down.Given as goal

abbrev pub invariant-loop-j : goal.invariant-loop-j
invariant-loop-j l = popped_down l.j l.levels l.k ≡ popped_down l.h l.initial.levels l.k

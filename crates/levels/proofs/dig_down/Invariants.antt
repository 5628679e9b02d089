use mathlib.Core.Path.{◌≡◌}
use Rattle.levels.specs.Levels.{dug_down}
use Rattle.levels.proofs.dig_down.Given as goal

abbrev pub invariant-loop-j : goal.invariant-loop-j
invariant-loop-j l = dug_down l.cells l.used l.back l.j l.levels l.k ≡ dug_down l.cells l.used l.back l.h l.initial.levels l.k

use mathlib.Core.Path.{◌≡◌}
use Prim.Native.Nat.{◌+◌, ◌*◌, ◌-◌}
use Rattle.meaning.specs.Limits.{walk_levels}
use Rattle.walk.specs.Walk.{cleared_from}
use Rattle.walk.proofs.clear.Given as goal

abbrev pub invariant-loop-j : goal.invariant-loop-j
invariant-loop-j l = cleared_from (l.k + 2 * walk_levels - l.j) l.levels l.j ≡ cleared_from (2 * walk_levels) l.initial.levels l.k

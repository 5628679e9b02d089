use Prim.Native.Nat.{◌-◌, ◌≤◌}
use Rattle.compare.specs.Differences.{SameIn}
use Rattle.compare.proofs.differences.+first_difference.Given as goal

abbrev pub decreases-first_difference : goal.decreases-first_difference
decreases-first_difference l = l.form.height

abbrev pub invariant-loop-i : goal.invariant-loop-i
invariant-loop-i l = (l.from ≤ l.i) × (l.i ≤ l.to) × SameIn l.cells l.form.bits l.form.height l.n.0 l.m.0 l.from l.i

abbrev pub decreases-loop-i : goal.decreases-loop-i
decreases-loop-i l = l.to - l.i

use Rattle.compare.specs.Differences.{SameIn}
use Rattle.compare.proofs.differences.in_leaf.Given as goal

abbrev pub invariant-loop-i : goal.invariant-loop-i
invariant-loop-i l = SameIn l.cells l.form.bits l.form.height l.n.0 l.m.0 l.from l.i

use Rattle.compare.proofs.Answers.{SameFrom}
use Rattle.compare.proofs.cmp.Given as goal

abbrev pub invariant-loop-i : goal.invariant-loop-i
invariant-loop-i l = SameFrom l.cells l.a l.b l.i

use lib.ListN.{length}
use Rattle.form.proofs.Filling.{Ordered}
use Rattle.form.proofs.fill_downwards.Given as goal

abbrev pub invariant-loop-i : goal.invariant-loop-i
invariant-loop-i l = Ordered (length l.fn.order) l.i l.order

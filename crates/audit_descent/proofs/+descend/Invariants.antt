use mathlib.Core.Path.{◌≡◌}
use mathlib.Core.Bool.{true}
use Prim.Native.Nat.{◌-◌}
use Rattle.audit_model.specs.Descent.{answer, through, child, visit}
use Rattle.audit_reads.specs.Slices.{nodes_in}
use Rattle.audit_descent.proofs.+descend.Given as goal

abbrev pub decreases-descend : goal.decreases-descend
decreases-descend l = l.tree.height

abbrev pub invariant-loop-i : goal.invariant-loop-i
invariant-loop-i l = through l.i (child (visit (nodes_in l.nodes) l.tree.bits (l.tree.height - 1)) (nodes_in l.nodes) l.c l.tree.size l.node) l.initial.codes ≡ answer true l.codes

use mathlib.Core.Path.{◌∙◌}
use Rattle.audit_model.proofs.Steps.{through-start, through-next, through-fails, through-ends}
use Rattle.audit_reads.specs.Slices.{nodes_in}
use Rattle.audit_descent.proofs.Visiting.{visit-fails, visit-marks, visit-child}
use Rattle.audit_descent.proofs.+descend.Goals as goal

pub loop-i-init : goal.loop-i-init
loop-i-init t c = through-start _ _

pub returns-then-not-descend : goal.returns-then-not-descend
returns-then-not-descend t c =
    visit-fails (nodes_in c.args.nodes.now) _ _ _ _ c.args.tree.height _ _ _ _ _
    (record { inside = c.if-n-nodes.false; mark = c.mark-mark.ensures; unmarked = λ e. c.if-found-mark.false (c.at-found.ensures ∙ e); kind = c.kind-kind.ensures; used = c.used-used.ensures })
    c.if-tree-eq0.false c.capacity-c.ensures.0 c.if-not-is_branch.ensures.0
    (through-fails _ _ c.loop-i.i _ c.loop-i.codes _ c.loop-i-test.true c.loop-i.invariant
    (visit-child (nodes_in c.args.nodes.now) _ _ _ _ _ _ _ _ _ _ c.loop-i.codes _ c.child.ensures.bits c.child.ensures.height c.child.ensures.size c.cell.ensures c.if-not-descend.ensures))

pub loop-i-preserved : goal.loop-i-preserved
loop-i-preserved t c =
    through-next _ _ c.loop-i.i c.loop-i.codes _ c.loop-i.invariant
    (visit-child (nodes_in c.args.nodes.now) _ _ _ _ _ _ _ _ _ _ c.loop-i.codes _ c.child.ensures.bits c.child.ensures.height c.child.ensures.size c.cell.ensures c.if-not-descend.ensures)

pub returns : goal.returns
returns t c =
    visit-marks (nodes_in c.args.nodes.now) _ _ _ _ c.args.tree.height _ _ _ _ c.loop-i.codes _
    (record { inside = c.if-n-nodes.false; mark = c.mark-mark.ensures; unmarked = λ e. c.if-found-mark.false (c.at-found.ensures ∙ e); kind = c.kind-kind.ensures; used = c.used-used.ensures })
    c.if-tree-eq0.false c.capacity-c.ensures.0 c.if-not-is_branch.ensures.0
    (through-ends _ _ c.loop-i.i _ _ c.loop-i.invariant c.loop-i.auto.i-end c.loop-i-test.false) c.put_at-2.ensures

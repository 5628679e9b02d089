use Rattle.meaning.specs.Lent.{cell_of}
use Rattle.audit_model.proofs.Steps.{held_start, held_next}
use Rattle.audit_reads.specs.Slices.{nodes_in}
use Rattle.audit_compare.proofs.Comparing.{spare-zero, spare-ends, spare-fails}
use Rattle.audit_compare.proofs.part_spare_ok.Goals as goal

pub loop-i-init : goal.loop-i-init
loop-i-init c = held_start _ _

pub returns-then-cell-ne0 : goal.returns-then-cell-ne0
returns-then-cell-ne0 c = spare-fails _ (cell_of (nodes_in c.args.nodes) c.args.n) c.loop-i.i _ c.loop-i.auto.i c.loop-i-test.true c.cell.ensures c.if-cell-ne0.true

pub loop-i-preserved : goal.loop-i-preserved
loop-i-preserved c = held_next _ _ _ c.loop-i.invariant (spare-zero c.args.u (cell_of (nodes_in c.args.nodes) c.args.n) c.loop-i.i _ c.cell.ensures c.if-cell-ne0.false)

pub returns : goal.returns
returns c = spare-ends _ (cell_of (nodes_in c.args.nodes) c.args.n) c.loop-i.i c.loop-i.invariant c.loop-i-test.false

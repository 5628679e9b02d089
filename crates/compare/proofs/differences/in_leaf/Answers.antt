use native.Mathlib.Omega.{arith}
use Rattle.compare.proofs.Ranges.{leaf-differs, leaf-goes-on}
use Rattle.compare.proofs.differences.in_leaf.Goals as goal

pub returns-then-cell_at : goal.returns-then-cell_at
returns-then-cell_at c =
    let a = c.args in
    leaf-differs a.cells.now a.form.bits a.form.height a.n.0 a.m.0 a.from a.to c.loop-i.i _ _ _ c.requires.leaf c.bucket-b.ensures.value c.cell_at.ensures c.cell_at-in-loop-i.ensures (omega arith) c.loop-i.invariant c.loop-i-test.true c.if-cell_at.true

pub loop-i-preserved : goal.loop-i-preserved
loop-i-preserved c =
    let a = c.args in
    leaf-goes-on a.cells.now a.form.bits a.form.height a.n.0 a.m.0 a.from a.to c.loop-i.i _ _ _ c.requires.leaf c.bucket-b.ensures.value c.cell_at.ensures c.cell_at-in-loop-i.ensures (omega arith) c.loop-i.invariant c.if-cell_at.false

use mathlib.Core.Path.{◌∙◌}
use native.Mathlib.Omega.{arith}
use Rattle.compare.proofs.Answers.{answers-decided, goes_on, alike-goes-on, answers-by-length}
use Rattle.compare.proofs.cmp.Goals as goal

pub loop-i-init : goal.loop-i-init
loop-i-init c =
    let a = c.args in
    alike-goes-on a.cells.now a.a a.b _ _ _ c.of-left.ensures.height c.of-right.ensures.height (omega arith) (omega arith) c.alike_until-alike.ensures.1

pub returns-then-x-y : goal.returns-then-x-y
returns-then-x-y c =
    let a = c.args in
    c.cmp.ensures
    ∙ answers-decided a.cells.now a.a a.b _ _ c.loop-i.i _ _ c.of-left.ensures.height c.of-right.ensures.height (omega arith) (omega arith) (rw c.of-left.ensures.bits at c.element-x.ensures) (rw c.of-right.ensures.bits at c.element-y.ensures) c.loop-i.invariant c.if-x-y.true

pub loop-i-preserved : goal.loop-i-preserved
loop-i-preserved c =
    let a = c.args in
    goes_on a.cells.now a.a a.b _ _ c.loop-i.i _ _ c.of-left.ensures.height c.of-right.ensures.height (omega arith) (omega arith) (rw c.of-left.ensures.bits at c.element-x.ensures) (rw c.of-right.ensures.bits at c.element-y.ensures) c.loop-i.invariant c.if-x-y.false

pub returns : goal.returns
returns c =
    let a = c.args in
    c.cmp-2.ensures ∙ answers-by-length a.cells.now a.a a.b c.loop-i.i (omega arith) c.loop-i.invariant

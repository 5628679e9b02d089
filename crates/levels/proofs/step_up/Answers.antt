use native.Mathlib.Omega.{arith}
use Rattle.levels.proofs.StackLaws.{starts, steps_on, stops, at-the-end}
use Rattle.levels.proofs.step_up.Goals as goal

pub loop-n-init : goal.loop-n-init
loop-n-init c = λ cells. starts cells _ _ _ _ _

pub loop-n-preserved : goal.loop-n-preserved
loop-n-preserved c = λ cells. steps_on cells _ _ _ _ _ _ _ (c.loop-n.invariant cells) _ _ c.loop-n-test.true c.step.ensures.0 c.step.ensures.1 c.if-not-step.false

pub returns-then-not-step : goal.returns-then-not-step
returns-then-not-step c = (omega arith, λ cells. stops cells _ _ _ _ _ _ _ (c.loop-n.invariant cells) _ _ c.loop-n-test.true c.step.ensures.0 c.step.ensures.1 c.if-not-step.true)

pub returns : goal.returns
returns c = (omega arith, λ cells. at-the-end cells _ _ _ _ _ _ _ (c.loop-n.invariant cells) c.loop-n.auto.n-end c.loop-n-test.false)

use mathlib.Core.Path.{refl, ◌∙◌}
use Prim.Native.Nat.{◌+◌}
use native.Mathlib.Omega.{arith}
use Rattle.requests.specs.Requests.{frame_of}
use Rattle.repeats.specs.InARow.{is_step}
use Rattle.repeats.proofs.Repeating.{row-begins, row-goes-on, row-stops, row-over, steps-begin, steps-go-on, walkable-on}
use Rattle.repeats.proofs.Together.{row-joins, steps-join, walkable-still}
use mathlib.Core.Path.{ap}
use mathlib.Core.Bool.{not}
use Rattle.repeats.proofs.steps.Goals as goal

pub loop-j-init : goal.loop-j-init
loop-j-init c = (row-begins _ _ _ _ c.requires.room.far, steps-begin _ _ _ _ _ _, refl, c.requires.walk)

pub returns-then-not-is_step : goal.returns-then-not-is_step
returns-then-not-is_step c = record { steps = record { row = c.loop-j.invariant.0; steps = c.loop-j.invariant.1 }; stops = row-stops (is_step c.args.party c.args.operation c.args.walk) c.args.requests.now c.args.count c.loop-j.j (frame_of c.frame_at-f.result) _ c.frame_at-f.ensures c.is_step.ensures (ap not c.if-not-is_step.true) }

pub take-g-requires : goal.take-g-requires
take-g-requires c = c.loop-j.invariant.3

pub steps_in_leaf-j-requires : goal.steps_in_leaf-j-requires
steps_in_leaf-j-requires c = record { walk = walkable-on _ _ _ _ _ _ _ c.loop-j.invariant.3 c.take-g.ensures; room = record { far = omega (arith, c.loop-j-test.true); asked = c.requires.room.asked; fits = omega (arith, c.requires.room.fits, c.put_answer.auto.room, c.loop-j.invariant.2) } }

pub loop-j-preserved : goal.loop-j-preserved
loop-j-preserved c = (row-joins _ _ _ _ _ _ (row-goes-on _ _ _ _ c.loop-j.j (frame_of c.frame_at-f.result) _ c.loop-j.invariant.0 c.loop-j-test.true c.frame_at-f.ensures c.is_step.ensures (ap not c.if-not-is_step.false)) c.steps_in_leaf-j.ensures.row, steps-join _ _ _ _ _ _ (c.loop-j.j + 1) _ _ _ (omega (arith, c.loop-j.invariant.0.from)) c.steps_in_leaf-j.ensures.row.from (steps-go-on _ _ _ _ _ _ c.loop-j.j _ _ _ _ _ _ c.loop-j.invariant.0.from c.loop-j.invariant.1 c.take-g.ensures c.answer_of-answer.ensures c.put_answer.ensures) c.steps_in_leaf-j.ensures.steps, c.steps_in_leaf-j.auto.room ∙ (c.put_answer.auto.room ∙ c.loop-j.invariant.2), walkable-still _ _ _ _ _ _ _ _ (walkable-on _ _ _ _ _ _ _ c.loop-j.invariant.3 c.take-g.ensures) c.steps_in_leaf-j.ensures.steps)

pub returns : goal.returns
returns c = record { steps = record { row = c.loop-j.invariant.0; steps = c.loop-j.invariant.1 }; stops = row-over (is_step c.args.party c.args.operation c.args.walk) c.args.requests.now c.args.count c.loop-j.j c.loop-j-test.false }

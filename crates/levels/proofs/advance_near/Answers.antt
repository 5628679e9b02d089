use mathlib.Core.Path.{refl}
use Rattle.levels.proofs.StackLaws.{goes_on, begins-anew, all-ended, levels-at}
use Rattle.levels.proofs.advance_near.Goals as goal

pub returns-then-advance : goal.returns-then-advance
returns-then-advance c = levels-at _ _ _ _ _ _ _ _ _ c.height-h.ensures.value (begins-anew _ _ _ _ _ _ _ c.step.ensures.0 c.step.ensures.1 _ _ _ _ c.if-step.true c.advance.ensures c.if-advance.true c.dig.ensures)

pub returns-else-advance : goal.returns-else-advance
returns-else-advance c = levels-at _ _ _ _ _ _ _ _ _ c.height-h.ensures.value (all-ended _ _ _ _ _ _ _ c.step.ensures.0 c.step.ensures.1 _ _ _ _ c.if-step.true c.advance.ensures c.if-advance.false c.pop.ensures)

pub returns-else-step : goal.returns-else-step
returns-else-step c = levels-at _ _ _ _ _ _ _ _ _ refl (goes_on _ _ _ _ _ _ _ c.step.ensures.0 c.step.ensures.1 _ c.if-step.false)

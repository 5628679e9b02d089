use Rattle.levels.proofs.StackLaws.{dug-below, popped-below}
use Rattle.levels.proofs.advance.Goals as goal

pub returns-then-n-m : goal.returns-then-n-m
returns-then-n-m c = dug-below _ _ _ _ _ _ _ _ _ c.if-n-m.true (c.step_up-n.ensures.1 _) c.dig_down.ensures

pub returns : goal.returns
returns c = popped-below _ _ _ _ _ _ _ _ _ c.if-n-m.false (c.step_up-n.ensures.1 _) c.pop_down.ensures

use Rattle.levels.proofs.StackLaws.{initialises, stands}
use Rattle.levels.proofs.init_if_needed.Goals as goal

pub returns-then-taken-eq0 : goal.returns-then-taken-eq0
returns-then-taken-eq0 c = initialises _ _ _ _ _ _ _ _ _ _ _ c.if-taken-eq0.true c.height-h.ensures.value c.push.ensures c.dig_down.ensures

pub returns-else-taken-eq0 : goal.returns-else-taken-eq0
returns-else-taken-eq0 c = stands _ _ _ _ _ _ _ _ c.if-taken-eq0.false

use Rattle.levels.proofs.StackLaws.{takes}
use Rattle.levels.proofs.take.Goals as goal

pub returns : goal.returns
returns c = takes _ _ _ _ _ _ _ _ _ _ _ c.init_if_needed.ensures c.current-x.ensures c.advance_near.ensures

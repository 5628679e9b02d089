use Rattle.level.proofs.LevelLaws.{push-is}
use Rattle.level.proofs.Levels.push.Goals as goal

pub returns : goal.returns
returns c = push-is _ _ _ _ _ _ _ _ c.first.type_inv c.used_of.ensures c.first.ensures

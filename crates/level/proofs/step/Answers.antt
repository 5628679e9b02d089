use mathlib.Core.Path.{refl}
use Rattle.level.proofs.LevelLaws.{step_is}
use Rattle.level.proofs.step.Goals as goal

pub returns : goal.returns
returns c = step_is _ _ _ _ _ _ _ _ _ refl c.i-1.given c.advance-next.type_inv c.advance-next.ensures c.used_of.ensures c.finished.ensures

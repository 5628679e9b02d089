use Rattle.level.proofs.Passing.{pass-is}
use Rattle.level.proofs.pass.Goals as goal

pub returns : goal.returns
returns c = pass-is _ _ _ _ _ _ _ c.place.ensures c.along.ensures.0 c.at.type_inv c.at.ensures

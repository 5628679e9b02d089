use Rattle.walk.proofs.WalkLaws.{reads-version}
use Rattle.walk.proofs.version.Goals as goal

pub returns : goal.returns
returns c = reads-version _ _

use Rattle.walk.proofs.LeafLaws.{passes_on}
use Rattle.walk.proofs.pass_on.Goals as goal

pub returns : goal.returns
returns c = passes_on c.args.back _ _ _ _ _ _ c.side-s.ensures.0 c.pass.ensures

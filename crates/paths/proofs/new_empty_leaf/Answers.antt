use Rattle.paths.proofs.Steps.{empty-made}
use Rattle.paths.proofs.new_empty_leaf.Goals as goal

pub returns-clause-made : goal.returns-clause-made
returns-clause-made c = empty-made _ _ _ c.make.ensures.makes

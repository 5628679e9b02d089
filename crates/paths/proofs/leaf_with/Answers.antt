use Rattle.paths.proofs.Steps.{leaf-made}
use Rattle.paths.proofs.leaf_with.Goals as goal

pub returns-clause-made : goal.returns-clause-made
returns-clause-made c = leaf-made _ _ c.args.c.cells c.args.c.used _ _ _ _ c.max.ensures c.make.ensures.makes

use Rattle.paths.proofs.Steps.{leaf-cut}
use Rattle.cuts.proofs.leaf_cut.Goals as goal

pub returns-clause-made : goal.returns-clause-made
returns-clause-made c = leaf-cut _ _ c.args.c.cells c.args.c.used _ _ c.make.ensures.makes

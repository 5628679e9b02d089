use Rattle.paths.proofs.Ways.{ready-less, grow-shares, root-grown}
use Rattle.paths.proofs.grow.Goals as goal

pub assoc-copy-requires : goal.assoc-copy-requires
assoc-copy-requires c = ready-less _ _ _ c.requires c.requires.way.1

pub branch_with-requires : goal.branch_with-requires
branch_with-requires c = grow-shares _ _ _ _ _ _ _ c.args.height _ _ _ _ c.requires c.assoc-copy.ensures.made c.assoc-copy.ensures.same_slices c.assoc-copy.auto.cells

pub returns-clause-made : goal.returns-clause-made
returns-clause-made c = let a = c.args in root-grown _ a.bits a.height a.root.0 a.index a.value _ _ c.assoc-copy.ensures.made c.branch_with.ensures.made

use Rattle.std.proofs.Common.{arith}
use Rattle.store.specs.Lent.{held}
use Rattle.paths.specs.Ready.{source_of}
use Rattle.paths.proofs.Steps.{share-first, recounted-can, branch-cut}
use Rattle.cuts.proofs.branch_cut.Goals as goal

pub raise_all-requires : goal.raise_all-requires
raise_all-requires c =
    let both = share-first (held c.args.store.now c.args.cells.now c.args.order.now) (source_of c.args.c.cells c.args.c.used) c.args.b _ (omega arith) c.requires c.requires.fork.next in
    record { all_below = both.0; room = both.1 }

pub make-requires-clause-free_on_top : goal.make-requires-clause-free_on_top
make-requires-clause-free_on_top c = (recounted-can _ _ _ c.raise_all.auto.counts c.requires.make).1

pub returns-clause-made : goal.returns-clause-made
returns-clause-made c = branch-cut _ _ _ c.args.c.cells c.args.c.used _ _ c.raise_all.ensures c.make.ensures.makes

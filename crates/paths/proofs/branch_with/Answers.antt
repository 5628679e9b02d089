use Rattle.std.proofs.Common.{arith}
use Rattle.store.specs.Lent.{held}
use Rattle.paths.specs.Ready.{source_of}
use Rattle.paths.proofs.Steps.{share-first, recounted-can, branch-made}
use Rattle.paths.proofs.branch_with.Goals as goal

pub raise_others-requires-clause-room : goal.raise_others-requires-clause-room
raise_others-requires-clause-room c = (share-first (held c.args.store.now c.args.cells.now c.args.order.now) (source_of c.args.c.cells c.args.c.used) c.args.b _ (omega arith) c.requires (omega arith)).1

pub make-requires-clause-free_on_top : goal.make-requires-clause-free_on_top
make-requires-clause-free_on_top c = (recounted-can _ _ _ c.raise_others.auto.counts c.requires.make).1

pub returns-clause-made : goal.returns-clause-made
returns-clause-made c = branch-made _ _ _ c.args.c.cells c.args.c.used _ _ _ _ (omega arith) c.requires.fork.next c.raise_others.ensures c.max.ensures c.make.ensures.makes

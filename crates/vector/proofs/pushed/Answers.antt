use Rattle.records.specs.Records.{record_of}
use Rattle.vector.proofs.Editing.{push-grown, push-made}
use Rattle.vector.proofs.pushed.Goals as goal

pub returns-then-full-clause-pushed : goal.returns-then-full-clause-pushed
returns-then-full-clause-pushed c = push-grown _ (record_of c.args.v) c.args.value _ _ _ c.requires c.if-full.true c.grow.ensures.made

pub returns-clause-pushed : goal.returns-clause-pushed
returns-clause-pushed c = push-made _ (record_of c.args.v) c.args.value _ _ _ c.requires c.if-full.false c.assoc.ensures.made

use Rattle.records.specs.Records.{record_of}
use Rattle.sweep.specs.Ready.{store_on}
use Rattle.edits.proofs.Editing.{shares}
use Rattle.edits.proofs.share.Goals as goal

pub returns-clause-acted : goal.returns-clause-acted
returns-clause-acted c s order = shares (store_on s c.args.counts.now order c.args.free) _ (record_of c.args.v) _ _ (c.clone-shared.ensures s order c.args.free) c.answered.ensures

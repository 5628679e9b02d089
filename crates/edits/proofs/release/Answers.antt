use Rattle.records.specs.Records.{record_of}
use Rattle.edits.proofs.Editing.{releases}
use Rattle.edits.proofs.release.Goals as goal

pub release-requires : goal.release-requires
release-requires c = c.requires.release

pub returns-clause-acted : goal.returns-clause-acted
returns-clause-acted c = releases _ _ (record_of c.args.v) _ _ c.release.ensures.released c.empty.ensures c.answered.ensures

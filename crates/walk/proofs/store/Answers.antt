use Rattle.walk.proofs.WalkLaws.{stores}
use Rattle.records.specs.Records.{record_of}
use Rattle.walk.proofs.store.Goals as goal

pub returns : goal.returns
returns c = stores _ _ (record_of c.args.v)

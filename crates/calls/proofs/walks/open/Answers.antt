use mathlib.Core.Path.{refl}
use Rattle.records.specs.Records.{record_of}
use Rattle.store.specs.Lent.{held}
use Rattle.walk.proofs.WalkLaws as walk
use Rattle.calls.proofs.Acting.{opens}
use Rattle.calls.proofs.walks.open.Goals as goal

pub returns-clause-opens : goal.returns-clause-opens
returns-clause-opens c cells order = opens (held c.args.store.now cells order) _ _ (record_of c.args.v) _ _ _ _ c.raise.ensures (walk.opens _ _ _ _ refl c.«open».ensures) c.answered.ensures

use mathlib.Core.Path.{refl}
use Rattle.walk.proofs.WalkLaws.{closes}
use Rattle.walk.proofs.Walks.close.Goals as goal

pub returns : goal.returns
returns c = closes _ _ _ _ _ c.empty.ensures c.store.ensures refl c.clear.ensures

use mathlib.Core.Path.{refl}
use Rattle.level.proofs.Passing.{stays_at}
use Rattle.level.proofs.staying.Goals as goal

pub returns : goal.returns
returns c = stays_at _ _ _ _ _ _ _ _ refl c.i-1.given c.used_of.ensures c.staying.ensures

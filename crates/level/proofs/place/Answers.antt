use mathlib.Core.Path.{refl}
use Rattle.level.proofs.Passing.{place_is}
use Rattle.level.proofs.place.Goals as goal

pub returns : goal.returns
returns c = place_is _ _ _ _ refl c.i-1.given c.place.ensures

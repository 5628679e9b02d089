use mathlib.Core.Path.{refl}
use native.Mathlib.Omega.{arith}
use Rattle.calls.proofs.walks.walk_place.Goals as goal

pub returns : goal.returns
returns c = (refl, omega arith)

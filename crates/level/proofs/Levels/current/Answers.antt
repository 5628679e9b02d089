use mathlib.Core.Path.{refl}
use Rattle.level.proofs.LevelLaws.{current-is}
use Rattle.level.proofs.Levels.current.Goals as goal

pub returns : goal.returns
returns c = current-is _ _ _ _ _ _ _ refl c.i-1.given c.place.ensures c.cell_at.ensures

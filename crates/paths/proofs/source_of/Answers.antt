use Rattle.paths.specs.Paths.{source}
use Rattle.paths.proofs.source_of.Goals as goal

pub returns-in-Some : goal.returns-in-Some
unfolding source
returns-in-Some c kinds = rw (c.in-Some.is, c.cells_of.ensures)

pub returns-in-None : goal.returns-in-None
unfolding source
returns-in-None c kinds = rw c.in-None.is

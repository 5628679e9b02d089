use Rattle.vector.proofs.Editing.{root-shared}
use Rattle.vector.proofs.clone.Goals as goal

pub returns : goal.returns
returns c = λ s o f. root-shared _ _ _ c.raise.ensures

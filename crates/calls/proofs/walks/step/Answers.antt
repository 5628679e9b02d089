use Rattle.calls.proofs.Acting.{got-leaves, steps}
use Rattle.calls.proofs.walks.step.Goals as goal

pub returns-clause-free : goal.returns-clause-free
returns-clause-free c = rw c.of_got.ensures (got-leaves _ _ _).0

pub returns-clause-steps : goal.returns-clause-steps
returns-clause-steps c = steps _ _ _ _ _ _ c.take-g.ensures c.of_got.ensures

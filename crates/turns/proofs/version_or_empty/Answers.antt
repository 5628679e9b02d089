use Rattle.turns.proofs.version_or_empty.Goals as goal

pub returns-then-there : goal.returns-then-there
returns-then-there c = rw c.if-there.true

pub returns : goal.returns
returns c = rw c.if-there.false c.empty.ensures

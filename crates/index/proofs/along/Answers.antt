use Rattle.index.proofs.IndexLaws.{downwards, upwards}
use Rattle.index.proofs.along.Goals as goal

pub overflow_sub-result : goal.overflow_sub-result
overflow_sub-result c = (downwards _ _ _ c.if-back.true c.requires).0

pub returns-then-back : goal.returns-then-back
returns-then-back c = (downwards _ _ _ c.if-back.true c.requires).1

pub overflow_add-result : goal.overflow_add-result
overflow_add-result c = (upwards _ _ _ c.if-back.false c.requires).0

pub returns-else-back : goal.returns-else-back
returns-else-back c = (upwards _ _ _ c.if-back.false c.requires).1

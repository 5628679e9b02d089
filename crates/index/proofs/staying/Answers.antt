use mathlib.Core.Bool.{true, false}
use native.Mathlib.Omega.{arith}
use Rattle.index.specs.Index.{Within, InUse}
use Rattle.index.proofs.IndexLaws.{stays}
use Rattle.index.proofs.staying.Goals as goal

pub returns-then-i-lt-NODE_CELLS : goal.returns-then-i-lt-NODE_CELLS
unfolding Within InUse
returns-then-i-lt-NODE_CELLS c = λ p. rw c.if-back.true (stays true _ _ _ _ c.ranges.index c.place-i.ensures c.if-i-eq0.false (omega arith, omega arith) (omega arith))

pub returns-then-used-le-NODE_CELLS : goal.returns-then-used-le-NODE_CELLS
unfolding Within InUse
returns-then-used-le-NODE_CELLS c = λ p. rw c.if-back.false (stays false _ _ _ _ c.ranges.index c.place-i.ensures c.if-i-eq0.false (omega arith) (omega arith))

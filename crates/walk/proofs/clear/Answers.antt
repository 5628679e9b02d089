use Rattle.walk.proofs.WalkLaws.{clears-on, all-clear}
use Rattle.walk.proofs.clear.Goals as goal

pub loop-j-preserved : goal.loop-j-preserved
loop-j-preserved c = clears-on _ _ _ _ _ c.loop-j-test.true c.pop.ensures c.loop-j.invariant

pub returns : goal.returns
returns c = all-clear _ _ _ _ c.loop-j-test.false c.loop-j.invariant

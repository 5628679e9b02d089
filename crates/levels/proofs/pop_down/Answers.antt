use Rattle.levels.proofs.StackLaws.{pops-on, popped-all}
use Rattle.levels.proofs.pop_down.Goals as goal

pub loop-j-preserved : goal.loop-j-preserved
loop-j-preserved c = pops-on _ _ _ _ _ c.loop-j-test.true c.pop.ensures c.loop-j.invariant

pub returns : goal.returns
returns c = popped-all _ _ _ _ c.loop-j-test.false c.loop-j.invariant

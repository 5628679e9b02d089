use Rattle.levels.proofs.StackLaws.{digs-on, dug-all}
use Rattle.levels.proofs.dig_down.Goals as goal

pub loop-j-preserved : goal.loop-j-preserved
loop-j-preserved c = digs-on _ _ _ _ _ _ _ _ c.loop-j-test.true c.dig.ensures c.loop-j.invariant

pub returns : goal.returns
returns c = dug-all _ _ _ _ _ _ _ c.loop-j-test.false c.loop-j.invariant

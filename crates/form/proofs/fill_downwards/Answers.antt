use lib.ListN.{length}
use Rattle.form.proofs.Filling.{order-turn, order-ends}
use Rattle.form.proofs.fill_downwards.Goals as goal

-- `form::fill_downwards` meets its contract.

pub loop-i-preserved : goal.loop-i-preserved
loop-i-preserved c = order-turn _ _ _ c.loop-i.invariant c.loop-i-test.true

pub returns : goal.returns
returns c = order-ends (length c.args.order.now) _ _ c.loop-i.invariant c.loop-i-test.false

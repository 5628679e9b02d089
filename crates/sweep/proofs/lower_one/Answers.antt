use Rattle.std.proofs.Common.{arith}
use Rattle.sweep.specs.Ready.{store_on}
use Rattle.sweep.proofs.Lowering.{live-some, lower-none, lower_last, lower-more}
use Rattle.sweep.proofs.lower_one.Goals as goal

pub returns-then-count-eq0 : goal.returns-then-count-eq0
returns-then-count-eq0 c s = lower-none _ _ c.if-count-eq0.true

pub bounds-order-free : goal.bounds-order-free
bounds-order-free c = omega (arith, c.requires.free_in_bounds, live-some c.args.counts.now c.args.n.0 c.requires.n_in_bounds (omega arith))

pub returns-then-count-eq1 : goal.returns-then-count-eq1
returns-then-count-eq1 c s = lower_last (store_on s c.args.counts.now c.args.order.now c.args.free.now) c.args.n.0 c.if-count-eq1.true

pub returns-else-count-eq1 : goal.returns-else-count-eq1
returns-else-count-eq1 c s = lower-more (store_on s c.args.counts.now c.args.order.now c.args.free.now) c.args.n.0 c.if-count-eq0.false c.if-count-eq1.false

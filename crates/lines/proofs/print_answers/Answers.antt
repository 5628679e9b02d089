use Rattle.lines.proofs.Printed.{none-counted, none-printed, line-can, next-printed}
use Rattle.lines.proofs.print_answers.Goals as goal

-- `lines::print_answers` meets its contract.

pub loop-i-init : goal.loop-i-init
loop-i-init c = (none-counted c.args.marks.now, none-printed c.args.marks.now c.args.answers.now c.args.out.now)

pub print_line-frames-requires : goal.print_line-frames-requires
print_line-frames-requires c = line-can _ _ _ c.requires _ c.loop-i.auto.out _ c.loop-i.i c.loop-i-test.true c.loop-i.invariant.0

pub loop-i-preserved : goal.loop-i-preserved
loop-i-preserved c = let n = next-printed _ _ _ c.requires _ c.loop-i.auto.out _ c.loop-i.i c.loop-i-test.true c.loop-i.invariant.0 _ _ c.loop-i.invariant.1 c.print_line-frames.ensures in (n.1, n.2)

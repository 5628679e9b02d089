use Rattle.index.proofs.IndexLaws.{last-is, first-fore}
use Rattle.index.proofs.first.Goals as goal

pub returns-then-back : goal.returns-then-back
returns-then-back c = rw c.if-back.true (last-is c.args.used c.ranges.used.fits)

pub returns-else-back : goal.returns-else-back
returns-else-back c = first-fore _ _ c.if-back.false

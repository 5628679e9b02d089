use Rattle.index.proofs.IndexLaws.{finished-back, finished-fore}
use Rattle.index.proofs.finished.Goals as goal

pub returns-then-back : goal.returns-then-back
returns-then-back c = finished-back c.args.used c.args.index c.args.back c.if-back.true c.ranges.index

pub returns-else-back : goal.returns-else-back
returns-else-back c = finished-fore c.args.used c.args.index c.args.back c.if-back.false c.ranges.used.fits c.ranges.index

use Rattle.index.proofs.IndexLaws.{up_is, up-held, down-stopped, down_is}
use Rattle.index.proofs.advance.Goals as goal

pub returns-then-index-lt0 : goal.returns-then-index-lt0
returns-then-index-lt0 c = rw c.if-back.true (down-stopped c.args.index c.ranges.index c.if-index-lt0.true)

pub returns-else-index-lt0 : goal.returns-else-index-lt0
returns-else-index-lt0 c = rw c.if-back.true (down_is c.args.index c.ranges.index c.if-index-lt0.false)

pub returns-then-index-lt-PAST_LAST : goal.returns-then-index-lt-PAST_LAST
returns-then-index-lt-PAST_LAST c = rw c.if-back.false (up_is c.args.index c.ranges.index c.if-index-lt-PAST_LAST.true)

pub returns-else-index-lt-PAST_LAST : goal.returns-else-index-lt-PAST_LAST
returns-else-index-lt-PAST_LAST c = rw c.if-back.false (up-held c.args.index c.ranges.index c.if-index-lt-PAST_LAST.false)

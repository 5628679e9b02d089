use Rattle.lines.proofs.Steps.{has_room, byte-on, feed-on}
use Rattle.lines.proofs.Ended.read_byte.Goals as goal

-- `lines::Ended::read_byte` meets its contract.

pub returns-then-b-ne-LINE_FEED-clause-read : goal.returns-then-b-ne-LINE_FEED-clause-read
returns-then-b-ne-LINE_FEED-clause-read c = byte-on _ _ _ _ _ _ c.requires _ _ _ _ c.if-b-ne-LINE_FEED.true c.keep.ensures

pub end_line-requires : goal.end_line-requires
end_line-requires c = has_room _ _ _ _ _ _ c.requires

pub returns-clause-read : goal.returns-clause-read
returns-clause-read c = rw c.end_line.ensures.counted (feed-on _ _ _ _ _ _ c.requires _ _ _ _ _ c.if-b-ne-LINE_FEED.false c.end_line.ensures.ended)

use Rattle.index.proofs.IndexLaws.{place_is}
use Rattle.index.proofs.place.Goals as goal

pub returns : goal.returns
returns c = place_is c.args.index _ c.ranges.index c.max.type_inv c.max.ensures.value

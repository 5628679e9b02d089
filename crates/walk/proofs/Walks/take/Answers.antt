use Rattle.walk.proofs.WalkLaws.{has-stack, takes-nothing, takes_one}
use Rattle.walk.proofs.Walks.take.Goals as goal

pub returns-then-ended : goal.returns-then-ended
returns-then-ended c = takes-nothing _ _ _ _ _ _ c.ended.ensures c.if-ended.true

pub take-x-requires : goal.take-x-requires
take-x-requires c = has-stack _ _ _ _ c.version-v.ensures c.requires c.side-s.ensures.1

pub returns : goal.returns
returns c = takes_one _ _ c.args.back _ _ _ _ _ _ _ c.ended.ensures c.if-ended.false c.version-v.ensures c.side-s.ensures.0 c.take-x.ensures

use Rattle.records.specs.Records.{record_of}
use Rattle.requests.specs.Requests.{frame_of}
use Rattle.calls.proofs.Acting.{act-walks, act-stores}
use Rattle.calls.proofs.act.Goals as goal

pub act_on_walk-requires : goal.act_on_walk-requires
act_on_walk-requires c = c.requires.walks c.if-on_walk.true

pub returns-then-on_walk-clause-acted : goal.returns-then-on_walk-clause-acted
returns-then-on_walk-clause-acted c = act-walks _ _ (frame_of c.args.f) (record_of c.args.v) (record_of c.args.w) (record_of c.args.old) _ c.if-on_walk.true c.act_on_walk.ensures.acted

pub act_on_store-requires : goal.act_on_store-requires
act_on_store-requires c = c.requires.sources

pub returns-clause-acted : goal.returns-clause-acted
returns-clause-acted c = act-stores _ _ (frame_of c.args.f) (record_of c.args.v) (record_of c.args.w) (record_of c.args.old) _ c.if-on_walk.false c.act_on_store.ensures.acted

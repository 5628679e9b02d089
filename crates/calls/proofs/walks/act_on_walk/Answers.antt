use Rattle.records.specs.Records.{record_of}
use Rattle.requests.specs.Requests.{frame_of}
use Rattle.calls.proofs.Acting.{open-acts, close-acts, step-acts}
use Rattle.calls.proofs.walks.act_on_walk.Goals as goal

pub open-requires : goal.open-requires
open-requires c = record { link = c.requires.opening c.if-f-eq-OPEN_WALK.true; place = c.walk_place-n.ensures.1 }

pub returns-then-f-eq-OPEN_WALK-clause-acted : goal.returns-then-f-eq-OPEN_WALK-clause-acted
returns-then-f-eq-OPEN_WALK-clause-acted c = open-acts _ _ (frame_of c.args.f) (record_of c.args.v) _ _ _ _ _ c.walk_place-n.ensures.0 c.if-f-eq-OPEN_WALK.true (c.«open».ensures.opens _ _)

pub close-requires : goal.close-requires
close-requires c = record { release = rw c.walk_place-n-2.ensures.0 (c.requires.closing c.if-f-eq-CLOSE_WALK.true); place = c.walk_place-n-2.ensures.1 }

pub returns-then-f-eq-CLOSE_WALK-clause-acted : goal.returns-then-f-eq-CLOSE_WALK-clause-acted
returns-then-f-eq-CLOSE_WALK-clause-acted c = close-acts _ _ (frame_of c.args.f) (record_of c.args.v) _ _ _ _ _ c.walk_place-n-2.ensures.0 c.if-f-eq-OPEN_WALK.false c.if-f-eq-CLOSE_WALK.true c.close.ensures.closes

pub step-requires : goal.step-requires
step-requires c = rw c.walk_place-n-2.ensures.0 (c.requires.taking c.if-f-eq-OPEN_WALK.false c.if-f-eq-CLOSE_WALK.false)

pub returns-clause-acted : goal.returns-clause-acted
returns-clause-acted c = step-acts _ _ (frame_of c.args.f) (record_of c.args.v) _ _ _ _ c.walk_place-n-2.ensures.0 c.if-f-eq-OPEN_WALK.false c.if-f-eq-CLOSE_WALK.false c.step.ensures.steps

use Rattle.requests.specs.Requests.{frame_of}
use Rattle.runs.proofs.Repeated.{repeats-none, gets-asked, repeats-gets, steps-asked, repeats-steps}
use Rattle.runs.proofs.repeat.Goals as goal

pub gets-requires : goal.gets-requires
gets-requires c = record { legal = gets-asked _ (frame_of c.args.f) c.args.v _ _ _ _ c.requires _ c.is_slot-there.ensures c.if-f-there.true; room = c.requires.roomy }

pub returns-then-f-there : goal.returns-then-f-there
returns-then-f-there c = repeats-gets _ (frame_of c.args.f) c.args.v _ _ _ _ c.requires _ c.is_slot-there.ensures c.if-f-there.true _ _ _ _ c.gets.ensures.gets

pub steps-requires : goal.steps-requires
steps-requires c = record { walk = steps-asked _ (frame_of c.args.f) c.args.v _ _ _ _ c.requires _ c.is_open-open.ensures c.if-f-open.true _ c.walk_place-n.ensures; room = c.requires.roomy }

pub returns-then-f-open : goal.returns-then-f-open
returns-then-f-open c = repeats-steps _ (frame_of c.args.f) c.args.v _ _ _ _ c.requires _ c.is_open-open.ensures c.if-f-open.true _ _ _ _ _ _ c.walk_place-n.ensures c.steps.ensures.steps

pub returns : goal.returns
returns c = repeats-none _ (frame_of c.args.f) c.args.v _ _ _ _ c.requires _ _

use Rattle.requests.specs.Requests.{frame_of}
use Rattle.runs.proofs.Stepping.{placed}
use Rattle.runs.proofs.places_of.Goals as goal

pub returns : goal.returns
returns c = placed (frame_of c.args.f) _ _ _ _ _ c.giver.ensures c.taker.ensures c.slot_place-source.ensures.0 c.slot_place-target.ensures.0 c.changed_place.ensures c.slot_place-source.ensures.1 c.slot_place-target.ensures.1

use Rattle.requests.specs.Requests.{frame_of}
use Rattle.runs.proofs.Stepping.{picked, turnable-for, turn-for, can-turn, served}
use Rattle.runs.proofs.serve.Goals as goal

pub serve-served-requires : goal.serve-served-requires
serve-served-requires c = turnable-for _ _ (frame_of c.args.f) _ _ _ _ (picked _ _ c.args.f.slot _ _ _ c.is_slot-source_there.ensures c.giver.ensures c.version_or_empty-v.ensures) (picked _ _ c.args.f.destination _ _ _ c.is_slot-target_there.ensures c.taker.ensures c.version_or_empty-w.ensures) (can-turn _ c.args.versions.now _ (frame_of c.args.f) _ _ _ c.requires.placed c.requires.runs)

pub returns-clause-served : goal.returns-clause-served
returns-clause-served c = served _ c.args.versions.now _ (frame_of c.args.f) _ _ _ c.requires.placed _ _ c.serve-served.result (turn-for _ _ (frame_of c.args.f) _ _ _ _ (picked _ _ c.args.f.slot _ _ _ c.is_slot-source_there.ensures c.giver.ensures c.version_or_empty-v.ensures) (picked _ _ c.args.f.destination _ _ _ c.is_slot-target_there.ensures c.taker.ensures c.version_or_empty-w.ensures) _ _ c.serve-served.ensures.turned) c.requires.runs

use Rattle.records.specs.Records.{record_of}
use Rattle.requests.specs.Requests.{frame_of}
use Rattle.edits.proofs.Editing.{set-acts, push-acts, drop-acts}
use Rattle.edits.proofs.edit_path.Goals as goal

pub set-e-requires : goal.set-e-requires
set-e-requires c = c.requires.set c.args.f.index

pub returns-then-f-eq-SET-clause-acted : goal.returns-then-f-eq-SET-clause-acted
returns-then-f-eq-SET-clause-acted c = set-acts _ _ (frame_of c.args.f) (record_of c.args.v) _ _ _ _ c.of_edited.ensures c.if-f-eq-SET.true c.set-e.ensures.called

pub returns-then-f-eq-PUSH_BACK-clause-acted : goal.returns-then-f-eq-PUSH_BACK-clause-acted
returns-then-f-eq-PUSH_BACK-clause-acted c = push-acts _ _ (frame_of c.args.f) (record_of c.args.v) _ _ _ _ c.of_edited-then-f-eq-PUSH_BACK.ensures c.if-f-eq-SET.false c.if-f-eq-PUSH_BACK.true c.push_back-e.ensures.called

pub returns-clause-acted : goal.returns-clause-acted
returns-clause-acted c = drop-acts _ _ (frame_of c.args.f) (record_of c.args.v) _ _ _ _ c.of_edited-2.ensures c.if-f-eq-SET.false c.if-f-eq-PUSH_BACK.false c.drop_last-e.ensures.called

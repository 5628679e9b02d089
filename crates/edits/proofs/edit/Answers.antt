use Rattle.records.specs.Records.{record_of}
use Rattle.requests.specs.Requests.{frame_of}
use Rattle.edits.proofs.Editing.{new-acts, edit-shares, edit-paths}
use Rattle.edits.proofs.edit.Goals as goal

pub returns-then-f-eq-NEW-clause-acted : goal.returns-then-f-eq-NEW-clause-acted
returns-then-f-eq-NEW-clause-acted c = new-acts _ _ (frame_of c.args.f) (record_of c.args.v) _ _ _ _ c.of_edited.ensures c.if-f-eq-NEW.true c.new_with_bits-e.ensures.called

pub share-requires : goal.share-requires
share-requires c = (c.requires.able c.if-f-eq-NEW.false).link

pub returns-then-shares-clause-acted : goal.returns-then-shares-clause-acted
returns-then-shares-clause-acted c = edit-shares _ (frame_of c.args.f) (record_of c.args.v) _ _ c.if-f-eq-NEW.false c.if-shares.true (c.share.ensures.acted _ _)

pub edit_path-requires : goal.edit_path-requires
edit_path-requires c = c.requires.able c.if-f-eq-NEW.false

pub returns-clause-acted : goal.returns-clause-acted
returns-clause-acted c = edit-paths _ (frame_of c.args.f) (record_of c.args.v) _ _ c.if-f-eq-NEW.false c.if-shares.false c.edit_path.ensures.acted

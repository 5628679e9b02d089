use Rattle.records.specs.Records.{record_of}
use Rattle.vector.proofs.Editing.{push-height, push-can, push-fell}
use Rattle.vector.proofs.Answering.{push-full, push-short, push-done}
use Rattle.vector.proofs.push_back.Goals as goal

pub returns-then-v-ge-MAX_LENGTH-clause-called : goal.returns-then-v-ge-MAX_LENGTH-clause-called
returns-then-v-ge-MAX_LENGTH-clause-called c = push-full _ (record_of c.args.v) _ c.if-v-ge-MAX_LENGTH.true

pub returns-then-free-new_height-clause-called : goal.returns-then-free-new_height-clause-called
returns-then-free-new_height-clause-called c = push-short _ (record_of c.args.v) _ _ c.if-v-ge-MAX_LENGTH.false (push-height _ _ _ _ c.requires.legal c.height-h.ensures.value c.is_root_full-full.ensures).0 c.if-free-new_height.true

pub pushed-root-requires : goal.pushed-root-requires
pushed-root-requires c = push-can _ (record_of c.args.v) _ _ c.requires c.height-h.ensures.value c.height-h.ensures.bounds c.if-v-ge-MAX_LENGTH.false c.is_root_full-full.ensures c.if-free-new_height.false

pub edited-requires : goal.edited-requires
edited-requires c = push-fell _ _ (record_of c.args.v) _ _ _ _ _ _ (push-can _ (record_of c.args.v) _ _ c.requires c.height-h.ensures.value c.height-h.ensures.bounds c.if-v-ge-MAX_LENGTH.false c.is_root_full-full.ensures c.if-free-new_height.false) c.pushed-root.ensures.pushed

pub returns-clause-called : goal.returns-clause-called
returns-clause-called c = push-done _ _ (record_of c.args.v) c.args.value _ _ _ c.if-v-ge-MAX_LENGTH.false (push-height _ _ _ _ c.requires.legal c.height-h.ensures.value c.is_root_full-full.ensures).0 c.if-free-new_height.false c.pushed-root.ensures.pushed c.edited.ensures

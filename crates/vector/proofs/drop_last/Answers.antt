use Rattle.records.specs.Records.{record_of}
use Rattle.vector.proofs.Editing.{drop-can, drop-fell}
use Rattle.vector.proofs.Answering.{drop-nothing, drop-short, drop-done}
use Rattle.vector.proofs.drop_last.Goals as goal

pub returns-then-v-eq0-clause-called : goal.returns-then-v-eq0-clause-called
returns-then-v-eq0-clause-called c = drop-nothing _ (record_of c.args.v) c.if-v-eq0.true

pub returns-then-free-h-clause-called : goal.returns-then-free-h-clause-called
returns-then-free-h-clause-called c = drop-short _ (record_of c.args.v) _ c.if-v-eq0.false c.height-h.ensures.value c.if-free-h.true

pub dropped-root-requires : goal.dropped-root-requires
dropped-root-requires c = drop-can _ (record_of c.args.v) _ c.requires c.height-h.ensures.value c.height-h.ensures.bounds c.if-v-eq0.false c.if-free-h.false

pub edited-requires : goal.edited-requires
edited-requires c = let v = record_of c.args.v in drop-fell _ _ v _ _ _ _ (drop-can _ v _ c.requires c.height-h.ensures.value c.height-h.ensures.bounds c.if-v-eq0.false c.if-free-h.false) c.dropped-root.ensures.dropped

pub returns-clause-called : goal.returns-clause-called
returns-clause-called c = drop-done _ _ (record_of c.args.v) _ _ _ c.if-v-eq0.false c.height-h.ensures.value c.if-free-h.false c.dropped-root.ensures.dropped c.edited.ensures

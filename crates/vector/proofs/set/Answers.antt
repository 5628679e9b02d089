use Rattle.records.specs.Records.{record_of}
use Rattle.vector.proofs.Editing.{set-ready, set-fell, set-made}
use Rattle.vector.proofs.Answering.{set-nothing, set-short, set-done}
use Rattle.vector.proofs.set.Goals as goal

pub returns-then-v-index-clause-called : goal.returns-then-v-index-clause-called
returns-then-v-index-clause-called c = set-nothing _ (record_of c.args.v) _ _ c.if-v-index.true

pub returns-then-free-h-clause-called : goal.returns-then-free-h-clause-called
returns-then-free-h-clause-called c = set-short _ (record_of c.args.v) _ _ _ c.if-v-index.false c.height-h.ensures.value c.if-free-h.true

pub assoc-root-requires : goal.assoc-root-requires
assoc-root-requires c = set-ready _ (record_of c.args.v) _ _ c.requires c.height-h.ensures.value c.height-h.ensures.bounds c.if-v-index.false c.if-free-h.false

pub edited-requires : goal.edited-requires
edited-requires c = set-fell _ _ _ _ _ _ _ _ _ (set-ready _ (record_of c.args.v) c.args.index _ c.requires c.height-h.ensures.value c.height-h.ensures.bounds c.if-v-index.false c.if-free-h.false) c.assoc-root.ensures.made

pub returns-clause-called : goal.returns-clause-called
returns-clause-called c =
    let a = c.args in
    set-done _ _ (record_of a.v) a.index a.value _ _ _ c.if-v-index.false c.height-h.ensures.value c.if-free-h.false
    (set-made _ (record_of a.v) a.index a.value _ _ c.height-h.ensures.value c.assoc-root.ensures.made) c.edited.ensures

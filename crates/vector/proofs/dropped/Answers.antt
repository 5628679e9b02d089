use Rattle.std.proofs.Common.{sym, ◌∙◌, arith}
use Rattle.records.specs.Records.{record_of}
use Rattle.paths.proofs.Ways.{ready-makes}
use Rattle.vector.proofs.Editing.{compress-can, drop-only, drop-root, drop-made}
use Rattle.vector.proofs.dropped.Goals as goal

pub new_empty_leaf-requires : goal.new_empty_leaf-requires
new_empty_leaf-requires c = ready-makes _ _ _ _ c.requires.ready (omega arith)

pub returns-then-v-eq1-clause-dropped : goal.returns-then-v-eq1-clause-dropped
returns-then-v-eq1-clause-dropped c = drop-only _ (record_of c.args.v) _ c.if-v-eq1.true c.new_empty_leaf.ensures.made

pub compress_root-requires : goal.compress_root-requires
compress_root-requires c = compress-can _ (record_of c.args.v) _ c.requires (sym c.loses_root.ensures ∙ c.if-loses_root.true)

pub returns-then-loses_root-clause-dropped : goal.returns-then-loses_root-clause-dropped
returns-then-loses_root-clause-dropped c = drop-root _ (record_of c.args.v) _ _ c.requires.height c.if-v-eq1.false (sym c.loses_root.ensures ∙ c.if-loses_root.true) (c.compress_root.ensures _ _ _ _)

pub returns-clause-dropped : goal.returns-clause-dropped
returns-clause-dropped c = drop-made _ (record_of c.args.v) _ _ c.requires.height c.if-v-eq1.false (sym c.loses_root.ensures ∙ c.if-loses_root.false) c.drop_last.ensures.made

use Rattle.audit_model.proofs.Steps.{through-start, through-next, through-fails}
use Rattle.audit_reads.specs.Slices.{nodes_in}
use Rattle.audit_records.proofs.Recording.{version-at}
use Rattle.audit_records.proofs.versions_ok.Goals as goal

pub loop-v-init : goal.loop-v-init
loop-v-init c = through-start _ _

pub returns-then-not-version_ok : goal.returns-then-not-version_ok
returns-then-not-version_ok c = through-fails _ _ c.loop-v.v-index _ c.loop-v.codes _ c.loop-v-test.true c.loop-v.invariant (version-at (nodes_in c.args.nodes) c.args.versions.now c.loop-v.v-index c.loop-v.codes _ c.if-not-version_ok.ensures)

pub loop-v-preserved : goal.loop-v-preserved
loop-v-preserved c = through-next _ _ c.loop-v.v-index c.loop-v.codes _ c.loop-v.invariant (version-at (nodes_in c.args.nodes) c.args.versions.now c.loop-v.v-index c.loop-v.codes _ c.if-not-version_ok.ensures)

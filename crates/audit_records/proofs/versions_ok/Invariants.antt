use mathlib.Core.Path.{◌≡◌}
use mathlib.Core.Bool.{true}
use Rattle.records.specs.Records.{records_of}
use Rattle.audit_model.specs.Audit.{record_at}
use Rattle.audit_model.specs.Records.{version_step}
use Rattle.audit_model.specs.Descent.{answer, through}
use Rattle.audit_reads.specs.Slices.{nodes_in}
use Rattle.audit_records.proofs.versions_ok.Given as goal

abbrev pub invariant-loop-v : goal.invariant-loop-v
invariant-loop-v l = through l.v-index (λ j. version_step (nodes_in l.nodes) (record_at (records_of l.versions) j)) l.initial.codes ≡ answer true l.codes

use mathlib.Core.Path.{◌≡◌}
use Rattle.records.specs.Records.{records_of}
use Rattle.audit_model.specs.Audit.{record_at}
use Rattle.audit_model.specs.Tallies.{roots_tally}
use Rattle.audit_tally.proofs.tally_versions.Given as goal

abbrev pub invariant-loop-v : goal.invariant-loop-v
invariant-loop-v l = l.t ≡ roots_tally l.v-index (record_at (records_of l.versions)) l.initial.t

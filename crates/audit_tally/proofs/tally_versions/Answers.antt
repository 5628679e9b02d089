use native.Mathlib.Omega.{arith}
use Rattle.meaning.specs.Limits.{max_nodes, version_count}
use Rattle.records.specs.Records.{records_of}
use Rattle.audit_model.specs.Audit.{record_at}
use Rattle.audit_tally.proofs.Raising.{roots-under, roots-whole}
use Rattle.audit_tally.proofs.tally_versions.Goals as goal

pub raise_root-requires : goal.raise_root-requires
raise_root-requires c = roots-under (record_at (records_of c.args.versions.now)) _ c.loop-v.v-index _ max_nodes 4000000000 c.loop-v.invariant c.requires (omega (arith, c.loop-v-test.true))

pub returns : goal.returns
returns c = roots-whole (record_at (records_of c.args.versions.now)) _ c.loop-v.v-index version_count _ max_nodes c.loop-v.invariant (omega (arith, c.loop-v-test.false)) c.requires

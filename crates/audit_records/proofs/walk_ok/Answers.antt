use Rattle.records.specs.Records.{record_of}
use Rattle.audit_reads.specs.Slices.{nodes_in}
use Rattle.audit_records.proofs.Recording.{found_right}
use Rattle.audit_records.proofs.walk_ok.Goals as goal

pub walk_agrees-requires : goal.walk_agrees-requires
walk_agrees-requires c = (c.requires, c.version-v.ensures, found_right (nodes_in c.args.nodes) (record_of c.version-v.result) c.args.codes.now _ c.if-not-version_ok.ensures)

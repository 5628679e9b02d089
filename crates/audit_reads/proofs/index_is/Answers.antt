use Rattle.audit_reads.proofs.Reading.{signed-index}
use Rattle.audit_reads.proofs.index_is.Goals as goal

pub returns : goal.returns
returns c = rw (← c.at.ensures) (signed-index c.at.result c.args.index c.at.type_inv c.requires)

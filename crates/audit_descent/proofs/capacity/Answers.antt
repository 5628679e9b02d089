use Rattle.audit_descent.proofs.Numbers.{capacity-is}
use Rattle.audit_descent.proofs.capacity.Goals as goal

pub returns : goal.returns
returns c = capacity-is c.args.bits c.args.height c.requires.shift

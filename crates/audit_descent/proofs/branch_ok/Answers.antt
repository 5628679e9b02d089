use Rattle.audit_descent.proofs.Numbers.{branch-tested}
use Rattle.audit_descent.proofs.branch_ok.Goals as goal

pub returns : goal.returns
returns c = branch-tested _ _ c.args.bits _ _ _ c.requires.0.most c.degree.ensures.value

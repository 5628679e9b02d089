use Rattle.audit_model.proofs.Steps.{through-start, through-next, through-fails}
use Rattle.audit_records.proofs.walks_ok.Goals as goal

pub loop-n-init : goal.loop-n-init
loop-n-init c = through-start _ _

pub returns-then-not-walk_ok : goal.returns-then-not-walk_ok
returns-then-not-walk_ok c = through-fails _ _ c.loop-n.n _ c.loop-n.codes _ c.loop-n-test.true c.loop-n.invariant c.if-not-walk_ok.ensures

pub loop-n-preserved : goal.loop-n-preserved
loop-n-preserved c = through-next _ _ c.loop-n.n c.loop-n.codes _ c.loop-n.invariant c.if-not-walk_ok.ensures

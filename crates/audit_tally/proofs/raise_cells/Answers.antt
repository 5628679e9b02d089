use native.Mathlib.Omega.{arith}
use Rattle.audit_tally.proofs.Raising.{to-under}
use Rattle.audit_tally.proofs.raise_cells.Goals as goal

pub raise_one-requires : goal.raise_one-requires
raise_one-requires c = to-under _ _ c.loop-i.i _ 3999999000 4000000000 c.loop-i.invariant c.requires (omega (arith, c.loop-i-test.true))

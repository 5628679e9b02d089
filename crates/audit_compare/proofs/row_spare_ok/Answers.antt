use Prim.Native.Nat.{ℕ, ◌+◌}
use lib.ListN.{get_or}
use mathlib.Core.Path.{refl}
use Rattle.audit_compare.proofs.Comparing.{look-begins, look-goes-on, look-ends}
use Rattle.audit_compare.proofs.row_spare_ok.Goals as goal

pub loop-i-init : goal.loop-i-init
loop-i-init c = look-begins _ (λ (j : ℕ). get_or c.args.cells.now (c.args.at + j) 0)

pub loop-i-preserved : goal.loop-i-preserved
loop-i-preserved c = look-goes-on _ (λ (j : ℕ). get_or c.args.cells.now (c.args.at + j) 0) c.loop-i.i _ c.loop-i.ok c.loop-i.invariant c.loop-i-test.true refl

pub returns : goal.returns
returns c = look-ends _ (λ (j : ℕ). get_or c.args.cells.now (c.args.at + j) 0) c.loop-i.i c.loop-i.ok c.loop-i.invariant c.loop-i-test.false

use Prim.Native.Nat.{ℕ, ◌+◌}
use lib.ListN.{get_or}
use Rattle.audit_compare.proofs.Comparing.{Looked}
use Rattle.audit_compare.proofs.row_spare_ok.Given as goal

abbrev pub invariant-loop-i : goal.invariant-loop-i
invariant-loop-i l = Looked l.u (λ (j : ℕ). get_or l.cells (l.at + j) 0) l.i l.ok

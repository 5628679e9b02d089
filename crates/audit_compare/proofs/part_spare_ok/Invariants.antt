use Prim.Native.Nat.{ℕ}
use Rattle.meaning.specs.Lent.{cell_of}
use Rattle.audit_reads.specs.Slices.{nodes_in}
use lib.Dec.{eqb}
use Rattle.audit_model.proofs.Steps.{Held}
use Rattle.audit_compare.proofs.part_spare_ok.Given as goal

abbrev pub invariant-loop-i : goal.invariant-loop-i
invariant-loop-i l = Held l.u l.i (λ (j : ℕ). eqb (cell_of (nodes_in l.nodes) l.n j) 0)

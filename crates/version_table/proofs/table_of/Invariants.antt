use Prim.Native.Nat.{◌-◌}
use Rattle.version_table.proofs.Copying.{Copied}
use Rattle.version_table.proofs.table_of.Given as goal

abbrev pub invariant-loop-n : goal.invariant-loop-n
invariant-loop-n l = Copied l.all l.versions l.initial.table l.table l.n

abbrev pub decreases-loop-n : goal.decreases-loop-n
decreases-loop-n l = l.all - l.n

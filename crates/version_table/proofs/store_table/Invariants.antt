use Prim.Native.Nat.{◌-◌}
use Rattle.version_table.proofs.Copying.{Copied}
use Rattle.version_table.proofs.store_table.Given as goal

abbrev pub invariant-loop-n : goal.invariant-loop-n
invariant-loop-n l = Copied l.all l.table l.initial.versions l.versions l.n

abbrev pub decreases-loop-n : goal.decreases-loop-n
decreases-loop-n l = l.all - l.n

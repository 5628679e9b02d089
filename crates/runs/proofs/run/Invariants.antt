use Prim.Native.Nat.{◌-◌}
use Rattle.store.specs.Lent.{SameSlices}
use Rattle.runs.specs.Runs.{progress, Going}
use Rattle.runs.specs.States.{state_of}
use Rattle.runs.proofs.run.Given as goal

abbrev pub invariant-loop-k : goal.invariant-loop-k
invariant-loop-k l = record {
  going : Going l.requests l.count (progress (state_of l.initial.store l.initial.cells l.initial.order l.initial.versions l.initial.walks) l.initial.room) (progress (state_of l.store l.cells l.order l.versions l.walks) l.room) l.k;
  same_slices : SameSlices l.initial.store l.store;
}

abbrev pub decreases-loop-k : goal.decreases-loop-k
decreases-loop-k l = l.count - l.k

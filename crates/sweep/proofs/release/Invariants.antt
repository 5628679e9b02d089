use Rattle.std.proofs.Common.{◌≡◌, ◌-◌, length}
use Rattle.store.specs.Lent.{held, SameSlices}
use Rattle.sweep.specs.Sweep.{sweep}
use Rattle.sweep.proofs.Sweeping.{Sweeping}
use Rattle.sweep.proofs.release.Given as goal

abbrev pub invariant-loop-at : goal.invariant-loop-at
invariant-loop-at l = record {
  same_slices : SameSlices l.initial.store l.store;
  order : length l.order ≡ length l.initial.order;
  sweeping : Sweeping l.at (held l.store l.cells l.order);
  rest : sweep (length l.initial.order - l.at) (held l.store l.cells l.order) l.at
      ≡ sweep (length l.initial.order - l.initial.at) (held l.initial.store l.cells l.initial.order) l.initial.at;
}

abbrev pub decreases-loop-at : goal.decreases-loop-at
decreases-loop-at l = length l.initial.order - l.at

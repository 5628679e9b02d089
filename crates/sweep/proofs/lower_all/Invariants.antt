use Rattle.std.proofs.Common.{◌≡◌, ◌+◌, ◌≤◌, length, drop}
use Rattle.meaning.specs.Lent.{Nodes}
use Rattle.sweep.specs.Sweep.{lowers}
use Rattle.sweep.specs.Ready.{store_on, live}
use Rattle.sweep.proofs.lower_all.Given as goal

abbrev pub invariant-loop-n : goal.invariant-loop-n
invariant-loop-n l = record {
  counts : length l.counts ≡ length l.initial.counts;
  free_in_bounds : live l.counts + l.free ≤ length l.order;
  rest : (s : Nodes) → lowers (store_on s l.counts l.order l.free) (drop l.n-index l.nodes) ≡ lowers (store_on s l.initial.counts l.initial.order l.initial.free) l.nodes;
}

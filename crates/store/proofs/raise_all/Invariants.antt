use Rattle.std.proofs.Common.{◌≡◌, ◌-◌, length, drop}
use Rattle.store.specs.Store.{raises}
use Rattle.store.specs.Ready.{Room}
use Rattle.store.proofs.raise_all.Given as goal

abbrev pub invariant-loop-n : goal.invariant-loop-n
invariant-loop-n l = record {
  room : Room (length l.nodes - l.n-index) l.counts;
  rest : raises l.counts (drop l.n-index l.nodes) ≡ raises l.initial.counts l.nodes;
}

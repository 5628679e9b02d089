use Rattle.std.proofs.Common.{[], ◌∙◌}
use Rattle.store.specs.Store.{nodes_of}
use Rattle.store.specs.Ready.{AllBelow}
use Rattle.sweep.specs.Ready.{store_on}
use Rattle.sweep.proofs.Lowering.{lowered-room, lowers-turn, lowers-end}
use Rattle.sweep.proofs.lower_all.Goals as goal

pub lower_one-requires-clause-n_in_bounds : goal.lower_one-requires-clause-n_in_bounds
unfolding AllBelow
lower_one-requires-clause-n_in_bounds c = rw c.loop-n.invariant.counts (c.requires.all_below c.loop-n.n-index c.loop-n-test.true)

pub loop-n-preserved : goal.loop-n-preserved
unfolding AllBelow
loop-n-preserved c =
    let p = c.loop-n in record {
      counts = c.lower_one.auto.counts ∙ p.invariant.counts;
      free_in_bounds = lowered-room (store_on (nodes_of [] [] []) p.counts p.order p.free) _ _ (rw p.invariant.counts (c.requires.all_below p.n-index c.loop-n-test.true)) p.invariant.free_in_bounds (c.lower_one.ensures (nodes_of [] [] []));
      rest = λ s. lowers-turn _ _ _ _ p.n-index c.loop-n-test.true (c.lower_one.ensures s) (p.invariant.rest s);
    }

pub returns : goal.returns
returns c s = lowers-end _ _ _ c.loop-n.n-index c.loop-n-test.false (c.loop-n.invariant.rest s)

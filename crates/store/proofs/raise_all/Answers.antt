use Rattle.std.proofs.Common.{arith}
use Rattle.store.specs.Ready.{AllBelow}
use Rattle.store.proofs.Raising.{room-less, room-raise, raises-turn, raises-end}
use Rattle.store.proofs.raise_all.Goals as goal

pub raise-requires : goal.raise-requires
unfolding AllBelow
raise-requires c = record {
  n_in_bounds = rw c.loop-n.auto.counts (c.requires.all_below c.loop-n.n-index c.loop-n-test.true);
  room = room-less 1 _ _ (omega arith) c.loop-n.invariant.room;
}

pub loop-n-preserved : goal.loop-n-preserved
loop-n-preserved c =
    let p = c.loop-n in record {
      room = rw c.raise.ensures (room-raise _ _ _ _ (omega arith) p.invariant.room);
      rest = raises-turn p.counts _ _ _ p.n-index c.loop-n-test.true c.raise.ensures p.invariant.rest;
    }

pub returns : goal.returns
returns c = raises-end _ _ _ c.loop-n.n-index c.loop-n-test.false c.loop-n.invariant.rest

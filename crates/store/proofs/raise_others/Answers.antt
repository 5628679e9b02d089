use Rattle.std.proofs.Common.{length-take, length-drop, arith}
use Rattle.store.proofs.Raising.{below-part, room-less, room-raises, others-raised}
use Rattle.store.proofs.raise_others.Goals as goal

pub raise_all-requires : goal.raise_all-requires
raise_all-requires c = record {
  all_below = below-part _ _ 0 c.args.but c.requires.all_below;
  room = room-less _ _ _ (simp length-take (omega arith)) c.requires.room;
}

pub raise_all-requires-2 : goal.raise_all-requires-2
raise_all-requires-2 c = record {
  all_below = rw c.raise_all.auto.counts (below-part _ _ c.min-next.result _ c.requires.all_below);
  room = rw c.raise_all.ensures (room-raises _ _ _ (room-less _ _ _ (simp (length-take, length-drop) (omega arith)) c.requires.room));
}

pub returns : goal.returns
returns c = others-raised _ _ _ c.args.nodes.now c.args.but _ c.min-next.ensures c.raise_all.ensures c.raise_all-2.ensures

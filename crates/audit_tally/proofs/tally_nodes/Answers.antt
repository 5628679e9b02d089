use native.Mathlib.Omega.{arith}
use Rattle.audit_tally.proofs.Raising.{under_more, node-room, nodes_tally_more}
use Rattle.audit_tally.proofs.tally_nodes.Goals as goal

pub tally_node-requires : goal.tally_node-requires
tally_node-requires c = under_more _ _ _ c.loop-m.invariant.room (omega (arith, c.loop-m-test.true, c.requires.0))

pub loop-m-preserved : goal.loop-m-preserved
loop-m-preserved c = record {
  tallied = grind (arith, nodes_tally_more);
  room = node-room _ _ _ _ _ _ c.tally_node.ensures.tallied c.tally_node.ensures.most c.loop-m.invariant.room (omega arith);
}

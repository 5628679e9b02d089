use mathlib.Core.Path.{◌≡◌}
use Prim.Native.Nat.{◌+◌, ◌*◌}
use Rattle.meaning.specs.Limits.{max_nodes, version_count, walk_count}
use Rattle.audit_model.specs.Tallies.{nodes_tally}
use Rattle.audit_reads.specs.Slices.{nodes_in}
use Rattle.audit_tally.specs.Under.{Under}
use Rattle.audit_tally.proofs.tally_nodes.Given as goal

abbrev pub invariant-loop-m : goal.invariant-loop-m
invariant-loop-m l = record { tallied : l.t ≡ nodes_tally (nodes_in l.nodes) l.m l.initial.t; room : Under (max_nodes + version_count + walk_count + 255 * l.m) l.t }

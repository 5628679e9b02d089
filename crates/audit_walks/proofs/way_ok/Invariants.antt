use mathlib.Core.Path.{◌≡◌}
use Rattle.audit_model.specs.Records.{way_ok}
use Rattle.audit_walks.proofs.way_ok.Given as goal

abbrev pub invariant-loop-k : goal.invariant-loop-k
invariant-loop-k l = way_ok l.nodes.cells.now l.walks.nodes.now l.walks.indices.now l.stack l.bits l.height l.root l.index ≡ way_ok l.nodes.cells.now l.walks.nodes.now l.walks.indices.now l.stack l.bits l.k l.n l.index

use Rattle.audit_model.proofs.Steps.{Held}
use Rattle.audit_model.specs.Records.{level_is}
use Rattle.audit_walks.proofs.blank_from.Given as goal

abbrev pub invariant-loop-k : goal.invariant-loop-k
invariant-loop-k l = Held l.start l.k (λ j. level_is l.walks.nodes.now l.walks.indices.now l.stack j 0 0)

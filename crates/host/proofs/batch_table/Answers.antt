use Rattle.host.proofs.Batching.{batch-refused, batch-done}
use Rattle.host.proofs.batch_table.Goals as goal

-- A batch on a table by value: each end by the law of it.

pub returns-then-count-ne-VERSIONS : goal.returns-then-count-ne-VERSIONS
returns-then-count-ne-VERSIONS c = rw c.done_with.ensures (batch-refused _ _ _ _ _ _ c.if-count-ne-VERSIONS.true c.refusal_of_sizes-refusal.ensures)

pub returns : goal.returns
returns c = rw c.done_with-2.ensures (batch-done _ _ _ _ _ _ _ _ _ c.if-count-ne-VERSIONS.false c.batch-r.ensures)

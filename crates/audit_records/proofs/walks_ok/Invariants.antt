use mathlib.Core.Path.{◌≡◌}
use mathlib.Core.Bool.{true}
use Rattle.audit_model.specs.Records.{walk_step}
use Rattle.audit_model.specs.Descent.{answer, through}
use Rattle.audit_reads.specs.Slices.{nodes_in, walks_in}
use Rattle.audit_records.proofs.walks_ok.Given as goal

abbrev pub invariant-loop-n : goal.invariant-loop-n
invariant-loop-n l = through l.n (walk_step (nodes_in l.nodes) (walks_in l.walks)) l.initial.codes ≡ answer true l.codes

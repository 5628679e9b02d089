use mathlib.Core.Path.{◌≡◌}
use Rattle.audit_model.specs.Tallies.{roots_tally}
use Rattle.audit_model.specs.Made.{walk_version}
use Rattle.audit_tally.proofs.tally_walks.Given as goal

abbrev pub invariant-loop-n : goal.invariant-loop-n
invariant-loop-n l = l.t ≡ roots_tally l.n (walk_version l.walks.numbers.now) l.initial.t

use mathlib.Core.Path.{◌≡◌}
use mathlib.Core.Bool.{true}
use Prim.Native.Nat.{ℕ}
use lib.ListN.{get_or}
use Rattle.meaning.specs.Lent.{is_free}
use Rattle.audit_model.specs.Tallies.{raise_to}
use Rattle.audit_model.specs.Records.{all_to}
use Rattle.audit_model.specs.Made.{kinds_of}
use Rattle.audit_tally.proofs.tally_order.Given as goal

abbrev pub invariant-loop-j : goal.invariant-loop-j
invariant-loop-j l = (all_to l.j (λ (k : ℕ). is_free (kinds_of l.kinds) (get_or l.order k 0)) ≡ true) × (l.t ≡ raise_to l.j (λ (k : ℕ). get_or l.order k 0) l.initial.t)

use mathlib.Core.Path.{sym, ◌∙◌}
use borrow.Author.Tests.{eq-eqb, ne_eqb}
use Rattle.meaning.specs.Limits.{hand_over_code}
use Rattle.requests.specs.Requests.{frame_of}
use Rattle.refusals.proofs.Refusing.{taker-is}
use Rattle.refusals.proofs.taker.Goals as goal

pub returns-then-f-from : goal.returns-then-f-from
returns-then-f-from c = taker-is (frame_of c.args.f) _ (rw (eq-eqb c.args.f.operation hand_over_code (c.if-f-from.true ∙ c.from.ensures)))

pub returns : goal.returns
returns c = taker-is (frame_of c.args.f) _ (rw (ne_eqb c.args.f.operation hand_over_code (λ e. c.if-f-from.false (e ∙ sym c.from.ensures))) c.from-2.ensures)

use mathlib.Core.Path.{sym, ap, ◌∙◌}
use mathlib.Core.Bool.{not}
use native.Mathlib.Omega.{arith}
use borrow.Author.Tests.{not-true}
use Rattle.meaning.specs.Limits.{max_nodes}
use Rattle.meaning.specs.Lent.{is_free}
use Rattle.audit_model.specs.Made.{kinds_of}
use Rattle.audit_model.proofs.Steps.{all-fails, all-ends}
use Rattle.audit_model.proofs.Tests.{true≢false}
use Rattle.audit_tally.proofs.Raising.{to-ends, to-under}
use Rattle.audit_tally.proofs.tally_order.Goals as goal

pub returns-then-not-free : goal.returns-then-not-free
returns-then-not-free c = (all-fails _ _ c.loop-j.j c.loop-j-test.true (sym (c.is_free-free.ensures ∙ ap (is_free (kinds_of c.args.kinds.now)) c.at-x.ensures) ∙ not-true _ (ap not c.if-not-free.true)), λ e. true≢false (sym e))

pub raise_one-requires : goal.raise_one-requires
raise_one-requires c = to-under _ _ c.loop-j.j _ 0 4000000000 c.loop-j.invariant.1 c.requires.1 (omega (arith, c.loop-j-test.true, c.requires.0))

pub returns : goal.returns
returns c = (
  all-ends c.loop-j.j _ _ c.loop-j.invariant.0 c.loop-j.auto.j-end c.loop-j-test.false,
  λ _. (to-ends _ _ c.loop-j.j _ _ c.loop-j.invariant.1 c.loop-j.auto.j-end c.loop-j-test.false, to-under _ _ c.loop-j.j _ 0 max_nodes c.loop-j.invariant.1 c.requires.1 (omega (arith, c.requires.0))),
)

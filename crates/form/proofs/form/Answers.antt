use mathlib.Core.Path.{refl}
use native.Mathlib.Omega.{arith}
use borrow.Author.Tests.{not-true, not-false}
use Rattle.audit_reads.specs.Slices.{lent_from}
use Rattle.form.proofs.Forming.{tested-fit, refused-is, fresh-is, cleared}
use mathlib.Core.Path.{ap}
use mathlib.Core.Bool.{not}
use Rattle.form.proofs.form.Goals as goal

-- `form::form` meets its contract.

pub returns-then-not-fit : goal.returns-then-not-fit
returns-then-not-fit c =
    let a = c.args in
    let s = lent_from a.kinds.now a.used.now a.counts.now a.cells.now a.order.now a.versions.now a.walk_numbers.now a.walk_nodes.now a.walk_indices.now in
    refused-is s a.versions.now _ c.fit.ensures refl (not-true _ (ap not c.if-not-fit.true))

pub clear_nodes-requires : goal.clear_nodes-requires
clear_nodes-requires c =
    let a = c.args in
    let s = lent_from a.kinds.now a.used.now a.counts.now a.cells.now a.order.now a.versions.now a.walk_numbers.now a.walk_nodes.now a.walk_indices.now in
    let fit = tested-fit s a.versions.now _ c.fit.ensures refl (not-false _ (ap not c.if-not-fit.false)) in
    omega (arith, fit.order, fit.most)

pub returns : goal.returns
returns c =
    let a = c.args in
    let s = lent_from a.kinds.now a.used.now a.counts.now a.cells.now a.order.now a.versions.now a.walk_numbers.now a.walk_nodes.now a.walk_indices.now in
    let fit = tested-fit s a.versions.now _ c.fit.ensures refl (not-false _ (ap not c.if-not-fit.false)) in
    fresh-is s _ _ _ _ _ _ _ _ fit c.clear_nodes.ensures (cleared _ _ _ fit.versions (c.fill.ensures.after (λ y e. e)) c.empty.ensures) c.clear_walks.ensures

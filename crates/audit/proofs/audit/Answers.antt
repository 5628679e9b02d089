use mathlib.Core.Path.{refl, ap}
use mathlib.Core.Bool.{not}
use borrow.Author.Tests.{not-true, not-false}
use Rattle.audit_reads.specs.Slices.{lent_in}
use Rattle.audit.proofs.Judging.{tested-fit, unfit}
use Rattle.audit.proofs.audit.Goals as goal

pub returns-then-not-fit : goal.returns-then-not-fit
returns-then-not-fit c = unfit (lent_in c.args.lent) c.args.lent.versions.now _ _ c.fit.ensures refl c.table_length.ensures (not-true _ (ap not c.if-not-fit.true))

pub audit_sized-requires-clause-small : goal.audit_sized-requires-clause-small
audit_sized-requires-clause-small c =
    let fits = tested-fit (lent_in c.args.lent) c.args.lent.versions.now _ _ c.fit.ensures refl c.table_length.ensures (not-false _ (ap not c.if-not-fit.false)) in
    record { sizes = fits; room = c.if-n-le-SMALL.true }

pub audit_sized-requires-then-n-le-MEDIUM-clause-small : goal.audit_sized-requires-then-n-le-MEDIUM-clause-small
audit_sized-requires-then-n-le-MEDIUM-clause-small c =
    let fits = tested-fit (lent_in c.args.lent) c.args.lent.versions.now _ _ c.fit.ensures refl c.table_length.ensures (not-false _ (ap not c.if-not-fit.false)) in
    record { sizes = fits; room = c.if-n-le-MEDIUM.true }

pub audit_sized-requires-2-clause-small : goal.audit_sized-requires-2-clause-small
audit_sized-requires-2-clause-small c =
    let fits = tested-fit (lent_in c.args.lent) c.args.lent.versions.now _ _ c.fit.ensures refl c.table_length.ensures (not-false _ (ap not c.if-not-fit.false)) in
    record { sizes = fits; room = fits.most }

use mathlib.Core.Path.{ap, ◌∙◌}
use native.Mathlib.Omega.{arith}
use Rattle.std.proofs.lemmas.Result.{err_from_is_err_and}
use Rattle.limits.specs.Refusals.{number_of}
use Rattle.requests.specs.Requests.{frame_of}
use Rattle.refusals.specs.Uses.{later_number}
use Rattle.refusals.specs.declared.Uses.{Uses}
use Rattle.refusals.proofs.Refusing.{no-party, no-operation, later}
use Rattle.refusals.proofs.check.Goals as goal

pub returns-then-f-gt-LAST_PARTY-clause-number : goal.returns-then-f-gt-LAST_PARTY-clause-number
returns-then-f-gt-LAST_PARTY-clause-number c = no-party (frame_of c.args.f) c.args.standing c.if-f-gt-LAST_PARTY.true

pub returns-in_err-operation-clause-number : goal.returns-in_err-operation-clause-number
returns-in_err-operation-clause-number c =
    let p = err_from_is_err_and c.from_residual.result c.from_residual.ensures.1 in
    rw p.1 (ap number_of (p.2 ∙ c.in_err-operation.ensures.0) ∙ no-operation (frame_of c.args.f) c.args.standing (omega arith) c.in_err-operation.ensures.1)

pub returns-in_err-check_fields-clause-number : goal.returns-in_err-check_fields-clause-number
returns-in_err-check_fields-clause-number c =
    let p = err_from_is_err_and c.from_residual-in_err-check_fields.result c.from_residual-in_err-check_fields.ensures.1 in
    rw p.1 (ap number_of p.2 ∙ c.in_err-check_fields.ensures ∙ ap (λ (u : Uses). later_number u (frame_of c.args.f) c.args.standing) c.uses_of.ensures ∙ later (frame_of c.args.f) c.args.standing c.in_ok-operation.operation (omega arith) c.in_ok-operation.ensures)

pub returns-clause-number : goal.returns-clause-number
returns-clause-number c =
    c.in_ok-check_fields.ensures ∙ ap (λ (u : Uses). later_number u (frame_of c.args.f) c.args.standing) c.uses_of.ensures
    ∙ later (frame_of c.args.f) c.args.standing c.in_ok-operation.operation (omega arith) c.in_ok-operation.ensures

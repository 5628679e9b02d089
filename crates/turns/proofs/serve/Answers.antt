use mathlib.Core.Path.{sym, ◌∙◌}
use Rattle.std.proofs.Common.{arith}
use Rattle.records.specs.Records.{record_of}
use Rattle.requests.specs.Requests.{frame_of}
use Rattle.turns.proofs.Turning.{entry-is, turn-refuses, turn-acts}
use Rattle.turns.proofs.serve.Goals as goal

pub returns-then-number-ne-DONE-clause-turned : goal.returns-then-number-ne-DONE-clause-turned
returns-then-number-ne-DONE-clause-turned c =
    turn-refuses _ (frame_of c.args.f) (record_of c.args.v) (record_of c.args.w) _ _
    (entry-is _ (frame_of c.args.f) (record_of c.args.v) (record_of c.args.w) _ _ _ _ _ c.giver.ensures c.taker.ensures c.is_open.ensures c.is_open-2.ensures (c.of_outcome-number.ensures ∙ c.check.ensures.number))
    _ _ c.if-number-ne-DONE.true c.refused.ensures

pub act-requires : goal.act-requires
act-requires c =
    c.requires (sym (entry-is _ (frame_of c.args.f) (record_of c.args.v) (record_of c.args.w) _ _ _ _ _ c.giver.ensures c.taker.ensures c.is_open.ensures c.is_open-2.ensures (c.of_outcome-number.ensures ∙ c.check.ensures.number)) ∙ c.if-number-ne-DONE.false)

pub returns-clause-turned : goal.returns-clause-turned
returns-clause-turned c =
    let told = entry-is _ (frame_of c.args.f) (record_of c.args.v) (record_of c.args.w) _ _ _ _ _ c.giver.ensures c.taker.ensures c.is_open.ensures c.is_open-2.ensures (c.of_outcome-number.ensures ∙ c.check.ensures.number) in
    let e = turn-acts _ (frame_of c.args.f) (record_of c.args.v) (record_of c.args.w) _ _ told (record_of c.args.old) _ c.if-number-ne-DONE.false c.act.ensures.acted in
    grind (arith, e)

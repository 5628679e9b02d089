use mathlib.Core.Path.{◌≡◌, refl, ◌∙◌}
use native.Mathlib.Omega.{arith}
use Rattle.requests.specs.Requests.{frame_of}
use Rattle.repeats.proofs.Repeating.{row-begins, row-goes-on}
use Rattle.repeats.proofs.Together.{cells-begin, cells-go-on, within-before}
use mathlib.Core.Path.{ap}
use mathlib.Core.Bool.{not}
use Rattle.repeats.proofs.leaf.answer_cells.Goals as goal

pub loop-j-init : goal.loop-j-init
loop-j-init c = (row-begins _ _ _ _ c.requires.room.far, cells-begin _ _ _ _ _, refl)

pub returns-then-not-is_step : goal.returns-then-not-is_step
returns-then-not-is_step c = record { row = c.loop-j.invariant.0; stay = omega (arith, c.end_of-end.ensures.2); answers = c.loop-j.invariant.1 }

pub along-i-requires : goal.along-i-requires
along-i-requires c = within-before _ _ _ _ c.requires.stay (omega (arith, c.end_of-end.ensures.2, c.loop-j-test.true, c.loop-j.invariant.0.from))

pub loop-j-preserved : goal.loop-j-preserved
loop-j-preserved c = (row-goes-on _ _ _ _ c.loop-j.j (frame_of c.frame_at-f.result) _ c.loop-j.invariant.0 (omega (arith, c.end_of-end.ensures.1, c.loop-j-test.true)) c.frame_at-f.ensures c.is_step.ensures (ap not c.if-not-is_step.false), cells-go-on _ _ c.args.s _ _ c.loop-j.j _ _ _ _ c.loop-j.invariant.0.from c.loop-j.invariant.1 c.along-i.ensures.0 c.cell_at-x.ensures (rw c.done.ensures at c.put_answer.ensures), c.put_answer.auto.room ∙ c.loop-j.invariant.2)

pub returns : goal.returns
returns c =
    let e : c.loop-j.j ≡ c.end_of-end.result = omega arith in
    record { row = rw e at c.loop-j.invariant.0; stay = c.end_of-end.ensures.2; answers = rw e at c.loop-j.invariant.1 }

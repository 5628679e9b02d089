use native.Mathlib.Omega.{arith}
use Rattle.lines.proofs.Printed.{frame-answered, frame-prints, other-prints}
use Rattle.lines.proofs.print_line.Goals as goal

-- `lines::print_line` meets its contract.

pub answer_place-start-requires : goal.answer_place-start-requires
answer_place-start-requires c = omega (arith, frame-answered _ _ _ _ _ c.requires c.if-mark-eq-FRAME.true)

pub slice_bounds-print_answer-end : goal.slice_bounds-print_answer-end
slice_bounds-print_answer-end c = omega (arith, frame-answered _ _ _ _ _ c.requires c.if-mark-eq-FRAME.true, c.answer_place-start.ensures)

pub returns-then-mark-eq-FRAME : goal.returns-then-mark-eq-FRAME
returns-then-mark-eq-FRAME c = frame-prints _ _ _ _ _ c.requires _ _ c.if-mark-eq-FRAME.true c.answer_place-start.ensures c.print_answer.ensures

pub returns : goal.returns
returns c = other-prints _ _ _ _ _ c.requires _ c.if-mark-eq-FRAME.false (rw c.from.ensures at c.print_answer-2.ensures)

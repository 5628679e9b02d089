use native.Mathlib.Omega.{arith}
use Rattle.hexadecimal.proofs.Pairs.{show-next, show-end}
use Rattle.hexadecimal.proofs.print_answer.Goals as goal

-- `hexadecimal::print_answer` meets its contract.

pub loop-i-preserved : goal.loop-i-preserved
loop-i-preserved c = show-next c.args.answer.now c.args.out.now c.args.at c.requires.0 c.requires.1 c.loop-i.out c.loop-i.i _ _ (omega arith) c.loop-i.invariant c.digit_byte.ensures c.digit_byte-in-loop-i.ensures

pub returns : goal.returns
returns c = show-end c.args.answer.now c.args.out.now c.args.at c.requires.0 c.requires.1 _ c.loop-i.i (omega arith) (omega arith) c.loop-i.invariant

use mathlib.Core.Path.{◌≡◌}
use Prim.Native.Nat.{◌*◌}
use lib.Seq.{paste}
use Rattle.hexadecimal.specs.Text.{printed_answer}
use Rattle.hexadecimal.proofs.print_answer.Given as goal

abbrev pub invariant-loop-i : goal.invariant-loop-i
invariant-loop-i l = l.out ≡ paste l.initial.out l.at (printed_answer l.answer) (2 * l.i)

use mathlib.Core.Path.{◌≡◌}
use Prim.Native.Nat.{◌*◌}
use lib.ListN.{take}
use Rattle.hexadecimal.specs.Text.{printed_size}
use Rattle.lines.specs.Lines.{frames_marked}
use Rattle.lines.specs.Printing.{printed}
use Rattle.lines.proofs.print_answers.Given as goal

abbrev pub invariant-loop-i : goal.invariant-loop-i
invariant-loop-i l = (l.frames ≡ frames_marked (take l.i l.marks)) × (take (printed_size * l.i) l.out ≡ printed (take l.i l.marks) l.answers)

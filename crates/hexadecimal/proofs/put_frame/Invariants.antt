use mathlib.Core.Path.{◌≡◌}
use lib.Seq.{paste}
use Rattle.meaning.specs.Program.{from_hex}
use Rattle.hexadecimal.proofs.put_frame.Given as goal

abbrev pub invariant-loop-i : goal.invariant-loop-i
invariant-loop-i l = l.requests ≡ paste l.initial.requests l.at (from_hex l.text) l.i

use mathlib.Core.Path.{◌≡◌}
use Prim.Native.Nat.{◌-◌}
use lib.ListN.{length}
use Rattle.repeats.specs.InARow.{InARow, is_step, after_cells}
use Rattle.repeats.proofs.leaf.answer_cells.Given as goal

abbrev pub invariant-loop-j : goal.invariant-loop-j
invariant-loop-j l =
    (InARow (is_step l.party l.operation l.walk) l.requests l.k l.count l.j)
    × (l.room ≡ after_cells l.cells l.back l.s l.initial.room l.k (l.j - l.k))
    × (length l.room ≡ length l.initial.room)

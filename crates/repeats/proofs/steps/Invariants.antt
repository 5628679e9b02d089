use mathlib.Core.Path.{◌≡◌}
use Prim.Native.Nat.{◌-◌}
use lib.ListN.{length}
use Rattle.walk.specs.Walk.{walks_of, Walkable}
use Rattle.repeats.specs.InARow.{InARow, is_step, walked, after_steps}
use Rattle.repeats.proofs.steps.Given as goal

abbrev pub invariant-loop-j : goal.invariant-loop-j
invariant-loop-j l =
    (InARow (is_step l.party l.operation l.walk) l.requests l.k l.count l.j)
    × (walked (walks_of l.walks) l.room ≡ after_steps l.cells l.used l.back l.n (walked (walks_of l.initial.walks) l.initial.room) l.k (l.j - l.k))
    × (length l.room ≡ length l.initial.room)
    × (Walkable l.walks.numbers l.n)

abbrev pub decreases-loop-j : goal.decreases-loop-j
decreases-loop-j l = l.count - l.j

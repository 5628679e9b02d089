use mathlib.Core.Path.{◌≡◌}
use Prim.Native.Nat.{◌-◌}
use lib.ListN.{length}
use Rattle.lookup.specs.Lookup.{leaf_in}
use Rattle.repeats.specs.InARow.{InARow, is_get, after_gets}
use Rattle.repeats.proofs.gets.Given as goal

abbrev pub invariant-loop-j : goal.invariant-loop-j
invariant-loop-j l =
    (InARow (is_get l.party l.slot l.v.length) l.requests l.k l.count l.j)
    × (l.room ≡ after_gets l.cells l.v l.requests l.initial.room l.k (l.j - l.k))
    × (length l.room ≡ length l.initial.room)
    × (l.leaf.0 ≡ leaf_in l.cells l.form.bits l.form.height l.v.root l.before)

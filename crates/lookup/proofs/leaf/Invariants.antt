use Prim.Native.Nat.{◌^◌, ◌<◌}
use Rattle.meaning.specs.Limits.{word_width}
use Rattle.lookup.specs.Lookup.{leaf_in}
use Rattle.lookup.proofs.Found.{Descending}
use Rattle.lookup.proofs.leaf.Given as goal

abbrev pub invariant-loop-shift : goal.invariant-loop-shift
invariant-loop-shift l = (l.shift < word_width) × (l.n < 2 ^ word_width) × Descending l.cells l.form.bits l.index l.shift l.n (leaf_in l.cells l.form.bits l.form.height l.initial.n l.index)

abbrev pub decreases-loop-shift : goal.decreases-loop-shift
decreases-loop-shift l = l.shift

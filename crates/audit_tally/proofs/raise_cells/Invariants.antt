use mathlib.Core.Path.{◌≡◌}
use Rattle.meaning.specs.Lent.{cell_of}
use Rattle.audit_model.specs.Tallies.{raise_to}
use Rattle.audit_reads.specs.Slices.{nodes_in}
use Rattle.audit_tally.proofs.raise_cells.Given as goal

abbrev pub invariant-loop-i : goal.invariant-loop-i
invariant-loop-i l = l.t ≡ raise_to l.i (cell_of (nodes_in l.nodes) l.n) l.initial.t

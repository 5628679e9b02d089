use mathlib.Core.Path.{refl, sym}
use Prim.Native.Nat.{◌+◌, ◌*◌}
use native.Mathlib.Omega.{arith}
use lib.ListN.{get_or-eq_default}
use Rattle.meaning.specs.Limits.{node_cells}
use Rattle.lookup.proofs.wide_cell_at.Goals as goal

-- `lookup::wide_cell_at` meets its contract.

pub overflow_cast-result : goal.overflow_cast-result
overflow_cast-result c =
    let a = c.args in
    record { fits = omega (arith, c.shared_slice_known-1.given (node_cells * a.node + a.i)) }

pub returns-then-at-cells : goal.returns-then-at-cells
returns-then-at-cells c =
    let a = c.args in
    record { value = refl; word = omega (arith, c.shared_slice_known-1.given (node_cells * a.node + a.i)) }

pub returns : goal.returns
returns c = record { value = sym (get_or-eq_default c.args.cells.now 0 c.if-at-cells.false); word = omega arith }

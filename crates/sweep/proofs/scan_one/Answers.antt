use Rattle.std.proofs.Common.{arith, length-take}
use Rattle.store.specs.Lent.{held}
use Rattle.sweep.specs.Sweep.{vacate}
use Rattle.sweep.proofs.Sweeping.{branch-children, scan-branch, scan-other}
use Rattle.sweep.proofs.scan_one.Goals as goal

pub slice_bounds-children-end : goal.slice_bounds-children-end
slice_bounds-children-end c = omega (arith, (branch-children (held c.args.store.now c.args.cells.now c.args.order.now) c.args.n.0 _ c.requires.whole c.if-kind-eq-BRANCH.true c.cells_of-children.ensures).0)

pub slice_bounds-lower_all-end-then-kind-eq-BRANCH : goal.slice_bounds-lower_all-end-then-kind-eq-BRANCH
slice_bounds-lower_all-end-then-kind-eq-BRANCH c = simp length-take (omega (arith, (branch-children (held c.args.store.now c.args.cells.now c.args.order.now) c.args.n.0 _ c.requires.whole c.if-kind-eq-BRANCH.true c.cells_of-children.ensures).0))

pub lower_all-requires-clause-all_below : goal.lower_all-requires-clause-all_below
lower_all-requires-clause-all_below c = (branch-children (held c.args.store.now c.args.cells.now c.args.order.now) c.args.n.0 _ c.requires.whole c.if-kind-eq-BRANCH.true c.cells_of-children.ensures).1

pub returns-then-kind-eq-BRANCH-clause-scanned : goal.returns-then-kind-eq-BRANCH-clause-scanned
unfolding vacate
returns-then-kind-eq-BRANCH-clause-scanned c = scan-branch (held c.args.store.now c.args.cells.now c.args.order.now) _ c.args.n.0 _ c.if-kind-eq-BRANCH.true c.cells_of-children.ensures (c.lower_all.ensures _)

pub returns-else-kind-eq-BRANCH-clause-scanned : goal.returns-else-kind-eq-BRANCH-clause-scanned
unfolding vacate
returns-else-kind-eq-BRANCH-clause-scanned c = scan-other (held c.args.store.now c.args.cells.now c.args.order.now) c.args.n.0 c.if-kind-eq-BRANCH.false

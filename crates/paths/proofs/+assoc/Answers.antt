use Rattle.std.proofs.Common.{refl, ◌∙◌, arith}
use native.Mathlib.Nat.{pos_of_ne-zero}
use Rattle.paths.proofs.Ways.{way-cells, ready-makes, leaf-assoc, assoc-lower, assoc-shares, assoc-child, branch-assoc}
use Rattle.paths.proofs.+assoc.Goals as goal

pub source_in-c-requires : goal.source_in-c-requires
source_in-c-requires t c = way-cells _ _ c.args.height _ _ c.args.index c.requires.sized c.requires.way

pub leaf_with-requires : goal.leaf_with-requires
leaf_with-requires t c = ready-makes _ _ _ _ c.requires c.bucket-b.ensures.cell

pub returns-then-height-eq0-clause-made : goal.returns-then-height-eq0-clause-made
returns-then-height-eq0-clause-made t c = let a = c.args in leaf-assoc _ a.bits a.height _ _ a.index a.value _ _ _ c.if-height-eq0.true c.source_in-c.ensures c.bucket-b.ensures.value c.leaf_with.ensures.made

pub assoc-copy-requires : goal.assoc-copy-requires
assoc-copy-requires t c = (
  omega (arith, c.decreases, pos_of_ne-zero c.if-height-eq0.false),
  assoc-lower _ _ c.args.height _ _ c.args.index _ _ _ _ c.if-height-eq0.false c.source_in-c.ensures c.bucket-b.ensures.value c.then_some-child.ensures refl c.requires,
)

pub branch_with-requires : goal.branch_with-requires
branch_with-requires t c = assoc-shares _ _ _ _ _ _ _ c.args.height _ _ c.args.index c.args.value _ _ _ _ _ c.if-height-eq0.false c.source_in-c.ensures c.bucket-b.ensures.value c.then_some-child.ensures refl c.bucket-b.ensures.cell c.requires c.assoc-copy.ensures.made c.assoc-copy.ensures.same_slices c.assoc-copy.auto.cells

pub returns-clause-made : goal.returns-clause-made
returns-clause-made t c =
    let a = c.args in
    branch-assoc _ a.bits a.height _ _ a.index a.value _ _ _ _ c.if-height-eq0.false c.source_in-c.ensures c.bucket-b.ensures.value
    (c.assoc-copy.ensures.made ∙ assoc-child _ _ _ _ _ _ _ _ _ c.then_some-child.ensures refl) c.branch_with.ensures.made

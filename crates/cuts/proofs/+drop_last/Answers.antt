use Rattle.std.proofs.Common.{sym, ◌∙◌, arith}
use native.Mathlib.Nat.{pos_of_ne-zero}
use Rattle.paths.proofs.Ways.{ready-makes}
use Rattle.cuts.proofs.Cutting.{last-cells, ready-shares, leaf-drop, cut-drop, drop-lower, drop-shares, branch-drop}
use Rattle.cuts.proofs.+drop_last.Goals as goal

pub source_in-c-requires : goal.source_in-c-requires
source_in-c-requires t c = λ there. last-cells _ _ c.args.height _ c.args.last c.requires.sized c.requires.way

pub leaf_cut-requires : goal.leaf_cut-requires
leaf_cut-requires t c = ready-makes _ _ _ _ c.requires c.bucket-b.ensures.cell

pub returns-then-height-eq0-clause-made : goal.returns-then-height-eq0-clause-made
returns-then-height-eq0-clause-made t c = let a = c.args in leaf-drop _ a.bits a.height a.node.0 a.last _ _ _ c.if-height-eq0.true c.source_in-c.ensures c.bucket-b.ensures.value c.leaf_cut.ensures.made

pub branch_cut-requires : goal.branch_cut-requires
branch_cut-requires t c = ready-shares _ _ c.args.height c.args.node.0 c.args.last _ _ c.if-height-eq0.false c.source_in-c.ensures c.bucket-b.ensures.value c.bucket-b.ensures.cell c.requires

pub returns-then-is_first-clause-made : goal.returns-then-is_first-clause-made
returns-then-is_first-clause-made t c = let a = c.args in cut-drop _ a.bits a.height a.node.0 a.last _ _ _ c.if-height-eq0.false (sym c.is_first.ensures ∙ c.if-is_first.true) c.source_in-c.ensures c.bucket-b.ensures.value c.branch_cut.ensures.made

pub drop_last-copy-requires : goal.drop_last-copy-requires
drop_last-copy-requires t c = (omega (arith, c.decreases, pos_of_ne-zero c.if-height-eq0.false), drop-lower _ _ c.args.height c.args.node.0 c.args.last _ _ c.if-height-eq0.false c.source_in-c.ensures c.bucket-b.ensures.value c.requires)

pub branch_with-requires : goal.branch_with-requires
branch_with-requires t c = drop-shares _ _ _ _ _ _ _ c.args.height c.args.node.0 c.args.last _ _ _ c.if-height-eq0.false c.source_in-c.ensures c.bucket-b.ensures.value c.bucket-b.ensures.cell c.requires c.drop_last-copy.ensures.made c.drop_last-copy.ensures.same_slices c.drop_last-copy.auto.cells

pub returns-clause-made : goal.returns-clause-made
returns-clause-made t c = let a = c.args in branch-drop _ a.bits a.height a.node.0 a.last _ _ _ _ c.if-height-eq0.false (sym c.is_first.ensures ∙ c.if-is_first.false) c.source_in-c.ensures c.bucket-b.ensures.value c.drop_last-copy.ensures.made c.branch_with.ensures.made

use Rattle.lookup.proofs.Found.{element-found}
use Rattle.lookup.proofs.element.Goals as goal

pub returns : goal.returns
returns c = element-found c.args.cells.now c.args.form.bits c.args.index _ _ _ _ _ c.leaf-n.ensures c.bucket-b.ensures.value c.cell_at.ensures

use mathlib.Core.Path.{◌∙◌}
use Rattle.lookup.proofs.Found.{leaf-same}
use Rattle.repeats.proofs.Repeating.{block_same}
use Rattle.repeats.proofs.leaf_again.Goals as goal

-- `repeats::leaf_again` meets its contract.

pub returns-then-index-before : goal.returns-then-index-before
returns-then-index-before c = c.requires ∙ leaf-same _ _ _ _ _ _ (block_same c.args.form.bits c.args.index c.args.before _ c.mask.ensures c.if-index-before.true)

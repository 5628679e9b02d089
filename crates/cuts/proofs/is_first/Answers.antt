use Rattle.cuts.proofs.Cutting.{shift-some, first-computed}
use Rattle.cuts.proofs.is_first.Goals as goal

pub nonzero_rem-result : goal.nonzero_rem-result
nonzero_rem-result c = shift-some c.args.bits c.args.height c.requires

pub returns : goal.returns
returns c = first-computed c.args.bits c.args.height c.args.index c.requires

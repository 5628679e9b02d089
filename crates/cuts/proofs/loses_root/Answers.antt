use Rattle.cuts.proofs.Cutting.{loses-computed}
use Rattle.cuts.proofs.loses_root.Goals as goal

pub returns : goal.returns
returns c = loses-computed c.args.bits c.args.height c.args.length c.requires.1

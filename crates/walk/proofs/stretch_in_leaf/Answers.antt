use native.Mathlib.Omega.{arith}
use Rattle.walk.proofs.LeafLaws.{stretch-is}
use Rattle.walk.proofs.stretch_in_leaf.Goals as goal

pub returns : goal.returns
returns c = (omega arith, stretch-is _ _ _ _ _ _ _ _ _ _ _ c.requires c.side-s.ensures.0 c.staying.ensures c.left.ensures.0 c.left.ensures.1 (omega arith) (omega arith) c.place.ensures (omega arith))

use Rattle.std.proofs.Common.{arith}
use Rattle.store.specs.Lent.{held}
use Rattle.store.proofs.Making.{sized-place, top_below, written-makes}
use Rattle.store.proofs.Store.make.Goals as goal

pub write-requires : goal.write-requires
write-requires c =
    let s = held c.args.self.now c.args.cells.now c.args.order.now in
    sized-place s _ c.requires.sized (omega (arith, top_below s _ c.requires.free_on_top c.top-node.ensures))

pub returns-clause-makes : goal.returns-clause-makes
returns-clause-makes c =
    rw (← c.byte.ensures, c.write.ensures.free) (written-makes (held c.args.self.now c.args.cells.now c.args.order.now) _ _ _ _ _ _ c.top-node.ensures c.write.ensures.written)

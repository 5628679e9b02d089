use Rattle.store.specs.Store.{store_of}
use Rattle.cuts.proofs.Cutting.{root-compressed}
use Rattle.cuts.proofs.compress_root.Goals as goal

pub raise-requires : goal.raise-requires
raise-requires c = record { n_in_bounds = rw c.first_child-child.ensures c.requires.0; room = c.requires.1 }

pub returns : goal.returns
returns c kinds used order free = root-compressed (store_of kinds used c.args.counts.now c.args.cells.now order free) _ _ _ c.first_child-child.ensures c.raise.ensures

use Rattle.std.proofs.Common.{ap, not}
use Rattle.vector.proofs.Editing.{new-can, new-fell}
use Rattle.vector.proofs.Answering.{new-bad, new-short, new-done}
use Rattle.vector.proofs.new_with_bits.Goals as goal

pub returns-then-not-legal-clause-called : goal.returns-then-not-legal-clause-called
returns-then-not-legal-clause-called c = new-bad _ c.args.bits (ap not c.if-not-legal.true)

pub returns-then-free-lt1-clause-called : goal.returns-then-free-lt1-clause-called
returns-then-free-lt1-clause-called c = new-short _ c.args.bits (ap not c.if-not-legal.false) c.if-free-lt1.true

pub new_empty_leaf-root-requires : goal.new_empty_leaf-root-requires
new_empty_leaf-root-requires c = new-can _ c.requires c.if-free-lt1.false

pub edited-requires : goal.edited-requires
edited-requires c = new-fell _ _ _ c.new_empty_leaf-root.ensures.made

pub returns-clause-called : goal.returns-clause-called
returns-clause-called c = new-done _ _ _ c.args.bits _ (ap not c.if-not-legal.false) c.if-free-lt1.false c.new_empty_leaf-root.ensures.made c.edited.ensures

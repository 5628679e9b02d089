use mathlib.Core.Path.{refl, sym}
use Rattle.audit_model.proofs.Steps.{held_start, held_next}
use Rattle.audit_walks.proofs.Walking.{level-read, blank-ends, blank-fails}
use Rattle.audit_walks.proofs.blank_from.Goals as goal

pub loop-k-init : goal.loop-k-init
loop-k-init c = held_start _ _

pub returns-then-not-level_is : goal.returns-then-not-level_is
returns-then-not-level_is c = blank-fails c.args.walks.nodes.now c.args.walks.indices.now _ _ c.loop-k.k c.loop-k.auto.k c.loop-k-test.true (level-read c.args.walks.nodes.now c.args.walks.indices.now c.args.stack c.loop-k.k _ 0 0 _ refl c.if-not-level_is.ensures)

pub loop-k-preserved : goal.loop-k-preserved
loop-k-preserved c = held_next _ _ _ c.loop-k.invariant (sym (level-read c.args.walks.nodes.now c.args.walks.indices.now c.args.stack c.loop-k.k _ 0 0 _ refl c.if-not-level_is.ensures))

pub returns : goal.returns
returns c = blank-ends c.args.walks.nodes.now c.args.walks.indices.now _ _ c.loop-k.k c.loop-k.invariant c.loop-k-test.false

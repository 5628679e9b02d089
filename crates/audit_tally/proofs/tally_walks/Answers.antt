use Prim.Native.Nat.{◌+◌}
use native.Mathlib.Omega.{arith}
use Rattle.meaning.specs.Limits.{max_nodes, version_count, walk_count}
use Rattle.audit_model.specs.Made.{walk_version}
use Rattle.audit_tally.proofs.Raising.{roots-under, roots-whole}
use Rattle.audit_tally.proofs.tally_walks.Goals as goal

pub raise_root-requires : goal.raise_root-requires
raise_root-requires c = roots-under (walk_version c.args.walks.numbers.now) _ c.loop-n.n _ (max_nodes + version_count) 4000000000 c.loop-n.invariant c.requires (omega (arith, c.loop-n-test.true))

pub returns : goal.returns
returns c = roots-whole (walk_version c.args.walks.numbers.now) _ c.loop-n.n walk_count _ (max_nodes + version_count) c.loop-n.invariant (omega (arith, c.loop-n-test.false)) c.requires

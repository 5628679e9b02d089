use Rattle.std.proofs.Common.{rules, refl, ◌∙◌}
use Rattle.sweep.proofs.Sweeping.{lowered-sweeping, sweep-turn, swept-release}
use Rattle.sweep.proofs.release.Goals as goal

pub loop-at-init : goal.loop-at-init
loop-at-init c = record {
  same_slices = search rules;
  order = refl;
  sweeping = lowered-sweeping _ _ _ c.requires (c.lower_one.ensures _);
  rest = refl;
}

pub loop-at-preserved : goal.loop-at-preserved
loop-at-preserved c =
    let p = c.loop-at in
    let t = sweep-turn _ _ _ _ p.at p.invariant.sweeping p.invariant.order c.loop-at-test.true c.scan_one.ensures.scanned p.invariant.rest in
    record { same_slices = search rules; order = c.scan_one.auto.order ∙ p.invariant.order; sweeping = t.0; rest = t.1 }

pub returns-clause-released : goal.returns-clause-released
returns-clause-released c = swept-release _ _ _ _ _ c.loop-at.at (c.lower_one.ensures _) c.lower_one.auto.order c.loop-at-test.false c.loop-at.invariant.rest

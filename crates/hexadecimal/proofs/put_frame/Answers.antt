use Prim.Native.Nat.{◌+◌, ◌*◌}
use native.Mathlib.Omega.{arith}
use Rattle.hexadecimal.proofs.Digits.{all-at}
use Rattle.hexadecimal.proofs.Pairs.{put_next}
use Rattle.hexadecimal.proofs.put_frame.Goals as goal

-- `hexadecimal::put_frame` meets its contract.

pub digit_value-high-requires : goal.digit_value-high-requires
digit_value-high-requires c = all-at _ (2 * c.loop-i.i) c.requires.1 (omega arith)

pub digit_value-low-requires : goal.digit_value-low-requires
digit_value-low-requires c = all-at _ (2 * c.loop-i.i + 1) c.requires.1 (omega arith)

pub loop-i-preserved : goal.loop-i-preserved
loop-i-preserved c = put_next c.args.text.now c.args.requests.now c.args.at c.loop-i.requests c.loop-i.i _ _ c.requires.0 c.requires.2 c.loop-i-test.true c.loop-i.invariant c.digit_value-high.ensures.0 c.digit_value-low.ensures.0

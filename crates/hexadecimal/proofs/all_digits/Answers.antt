use Rattle.hexadecimal.proofs.Digits.{all_start, all-next}
use Rattle.hexadecimal.proofs.all_digits.Goals as goal

-- `hexadecimal::all_digits` meets its contract.

pub loop-b-init : goal.loop-b-init
loop-b-init c = all_start c.args.text.now

pub loop-b-preserved : goal.loop-b-preserved
loop-b-preserved c = all-next _ _ _ _ c.loop-b-test.true c.loop-b.invariant c.is_digit-all.ensures

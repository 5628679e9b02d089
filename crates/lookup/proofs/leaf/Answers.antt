use mathlib.Core.Path.{refl}
use native.Mathlib.Omega.{arith}
use Rattle.lookup.proofs.Found.{shift-lasts, level-passed, leaf-reached}
use Rattle.lookup.proofs.leaf.Goals as goal

-- `lookup::leaf` meets its contract: at each turn the shift is that of the height of the node that it has come to.

pub loop-shift-init : goal.loop-shift-init
loop-shift-init c = (c.args.form.shift, omega arith, record { height = c.args.form.height; shifts = refl; leads = refl })

pub overflow_shr-index : goal.overflow_shr-index
overflow_shr-index c = omega (arith, c.loop-shift.invariant.0)

pub wide_cell_at-n-requires : goal.wide_cell_at-n-requires
wide_cell_at-n-requires c = c.loop-shift.invariant.1

pub overflow_sub-shift : goal.overflow_sub-shift
overflow_sub-shift c = omega (arith, c.loop-shift-test.true, shift-lasts c.loop-shift.invariant.2 (omega (arith, c.loop-shift-test.true)))

pub loop-shift-smaller : goal.loop-shift-smaller
loop-shift-smaller c = omega (arith, c.loop-shift-test.true, c.args.form.legal.least)

pub loop-shift-preserved : goal.loop-shift-preserved
loop-shift-preserved c =
    let down = level-passed c.loop-shift.invariant.2 _ _ (omega (arith, c.loop-shift-test.true)) c.args.form.legal.most c.mask-mask.ensures c.wide_cell_at-n.ensures.value in
    (omega (arith, c.loop-shift.invariant.0), c.wide_cell_at-n.ensures.word, down)

pub overflow_cast-result : goal.overflow_cast-result
overflow_cast-result c = record { fits = omega (arith, c.loop-shift.invariant.1) }

pub returns : goal.returns
returns c = leaf-reached c.loop-shift.invariant.2 c.args.form.legal.least c.loop-shift-test.false

use native.Mathlib.Nat.{pos_of_ne-zero}
use native.Mathlib.Omega.{arith}
use Rattle.compare.proofs.Spans.{end_after, end-within}
use Rattle.compare.proofs.Ranges.{none-differs, child-differs, child-goes-on}
use Rattle.compare.proofs.differences.+first_difference.Goals as goal

pub first_difference-r-requires : goal.first_difference-r-requires
first_difference-r-requires t c =
    let v = c.loop-i in
    let after = end_after c.args.form.bits c.args.form.height v.i c.args.to c.loop-i-test.true in
    let within = end-within c.args.form.bits c.args.form.height v.i c.args.to in (
      omega (arith, c.decreases, c.child.ensures.height, pos_of_ne-zero c.if-form-eq0.false),
      (omega (arith, c.child_end-e.ensures, after), omega (arith, c.child_end-e.ensures, within, c.requires.limit)),
    )

pub returns-then-r-e : goal.returns-then-r-e
returns-then-r-e t c =
    let v = c.loop-i in
    child-differs c.args.cells.now c.args.form.bits c.args.form.height c.args.n.0 c.args.m.0 c.args.from c.args.to v.i _ _ _ _ _ c.if-form-eq0.false c.bucket-b.ensures.value c.child_end-e.ensures c.cell_at-x.ensures c.cell_at-y.ensures v.invariant.0 v.invariant.2 (rw (c.child.ensures.bits, c.child.ensures.height) at c.first_difference-r.ensures) c.if-r-e.true

pub loop-i-smaller : goal.loop-i-smaller
loop-i-smaller t c =
    let v = c.loop-i in
    omega (arith, c.child_end-e.ensures, end_after c.args.form.bits c.args.form.height v.i c.args.to c.loop-i-test.true, v.invariant.1)

pub loop-i-preserved : goal.loop-i-preserved
loop-i-preserved t c =
    let v = c.loop-i in
    let after = end_after c.args.form.bits c.args.form.height v.i c.args.to c.loop-i-test.true in
    let within = end-within c.args.form.bits c.args.form.height v.i c.args.to in
    let on = child-goes-on c.args.cells.now c.args.form.bits c.args.form.height c.args.n.0 c.args.m.0 c.args.from c.args.to v.i _ _ _ _ _ c.if-form-eq0.false c.bucket-b.ensures.value c.child_end-e.ensures c.cell_at-x.ensures c.cell_at-y.ensures v.invariant.0 v.invariant.2 (rw (c.child.ensures.bits, c.child.ensures.height) at c.first_difference-r.ensures) c.if-r-e.false in
    (omega (arith, c.child_end-e.ensures, after, v.invariant.0), omega (arith, c.child_end-e.ensures, within), on)

pub returns : goal.returns
returns t c =
    let v = c.loop-i in
    none-differs c.args.cells.now c.args.form.bits c.args.form.height c.args.n.0 c.args.m.0 c.args.from c.args.to v.i v.invariant.0 v.invariant.1 c.loop-i-test.false v.invariant.2

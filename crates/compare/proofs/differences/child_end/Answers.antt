use Prim.Native.Nat.{◌*◌, ◌^◌}
use native.Mathlib.Nat.{div-le_self}
use native.Mathlib.Omega.{arith}
use Rattle.compare.proofs.Spans.{end-computed}
use Rattle.compare.proofs.differences.child_end.Goals as goal

pub overflow_add-i : goal.overflow_add-i
overflow_add-i c = omega (arith, c.requires.limit, div-le_self c.args.i (2 ^ (c.args.form.height * c.args.form.bits)))

pub returns : goal.returns
returns c = end-computed c.args.form.bits c.args.form.height c.args.i c.args.to _ c.args.form.shift c.requires.limit c.min.ensures

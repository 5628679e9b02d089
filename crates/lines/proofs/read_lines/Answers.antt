use mathlib.Core.Path.{refl, sym}
use native.Mathlib.Omega.{arith}
use Rattle.lines.proofs.Steps.{read-start, read-ends}
use Rattle.lines.proofs.read_lines.Goals as goal

-- `lines::read_lines` meets its contract.

pub loop-at-init : goal.loop-at-init
loop-at-init c = (omega arith, c.requires, refl, refl, record { many_lines = omega arith; many_frames = omega arith }, λ line k. read-start c.args.piece.now _ _ _ _ line k)

pub loop-at-preserved : goal.loop-at-preserved
loop-at-preserved c = (c.read_on-at.ensures.read.inside, c.read_on-at.ensures.read.can, cc, cc, c.read_on-at.ensures.read.bounded, λ line k. c.read_on-at.ensures.read.reads line (c.loop-at.invariant.5 line k))

pub returns : goal.returns
returns c =
    rw (c.marks-1.given.1.1 (sym c.loop-at.invariant.2), c.requests-1.given.1.1 (sym c.loop-at.invariant.3))
    (read-ends _ _ _ _ c.loop-at.at _ _ _ _ _ c.loop-at.invariant.0 c.loop-at-test.false c.loop-at.invariant.4 c.loop-at.invariant.5)

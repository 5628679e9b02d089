use native.Mathlib.Omega.{arith}
use Rattle.repeats.proofs.Repeating.{row-begins, steps-begin}
use Rattle.repeats.proofs.Together.{stays_within, can-pass, leaf-steps}
use Rattle.repeats.proofs.leaf.steps_in_leaf.Goals as goal

pub version-requires : goal.version-requires
version-requires c = c.requires.walk.walk

pub returns-then-version-lt-WORTH : goal.returns-then-version-lt-WORTH
returns-then-version-lt-WORTH c = record { row = row-begins _ _ _ _ c.requires.room.far; steps = steps-begin _ _ _ _ _ _ }

pub returns-in_default : goal.returns-in_default
returns-in_default c = record { row = row-begins _ _ _ _ c.requires.room.far; steps = steps-begin _ _ _ _ _ _ }

pub answer_cells-end-requires : goal.answer_cells-end-requires
answer_cells-end-requires c = record { stay = stays_within _ _ _ _ _ c.in-Some.ensures.1; room = c.requires.room }

pub pass_on-requires : goal.pass_on-requires
pass_on-requires c = can-pass _ _ _ _ _ c.in-Some.ensures.1 _ (omega (arith, c.answer_cells-end.ensures.stay))

pub returns : goal.returns
returns c = leaf-steps _ _ _ _ _ c.in-Some.ensures.1 _ _ _ _ _ _ _ _ _ _ _ c.answer_cells-end.ensures (c.pass_on.ensures _)

use mathlib.Core.Path.{refl}
use native.Mathlib.Omega.{arith}
use Rattle.conversation.proofs.Piece.{can-read, can-run, can-print, talks}
use Rattle.conversation.proofs.talk.Goals as goal

-- `conversation::talk` meets its contract.

pub read_lines-read-requires : goal.read_lines-read-requires
read_lines-read-requires c = can-read _ _ _ c.requires _ _ refl refl

pub run-requires : goal.run-requires
run-requires c = can-run _ _ _ c.requires _ _ _ c.read_lines-read.auto.requests refl (omega (arith, c.requires.short, c.read_lines-read.ensures.bounded.many_lines, c.read_lines-read.ensures.bounded.many_frames))

pub print_answers-requires : goal.print_answers-requires
print_answers-requires c = can-print _ _ _ c.requires _ _ c.read_lines-read.ensures.bounded _ _ c.run.auto.room

pub returns-clause-talks : goal.returns-clause-talks
returns-clause-talks c = talks _ _ _ _ _ _ _ _ c.run.ensures.ran _ _ _ _ _ _ _ _ c.read_lines-read.new.begun.kept c.requires c.read_lines-read.ensures c.print_answers.ensures c.run.ensures.same_slices.kinds.length c.print_answers.auto.out

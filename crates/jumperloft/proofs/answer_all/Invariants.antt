use Rattle.serving.specs.States.{Runs}
use Rattle.runs.specs.States.{state_of}
use Rattle.jumperloft.proofs.answer_all.Given as goal

abbrev pub invariant-loop : goal.invariant-loop
invariant-loop l = Runs (state_of l.store l.cells l.order l.versions l.walks)

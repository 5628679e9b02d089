use Rattle.walk.specs.Walk.{walks_of}
use Rattle.jumperloft.proofs.Starting.{formed-runs, closed-fit, zeros-size}
use Rattle.jumperloft.proofs.main.Goals as goal

pub answer_all-requires : goal.answer_all-requires
answer_all-requires c = formed-runs _ _ _ (closed-fit c.empty-versions.result (walks_of c.all_closed-walks.result) c.all_closed-walks.ensures) zeros-size c.form.ensures

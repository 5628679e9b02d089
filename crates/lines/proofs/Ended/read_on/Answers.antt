use mathlib.Core.Path.{refl}
use Rattle.lines.proofs.Steps.{frame_on}
use Rattle.lines.proofs.Ended.read_on.Goals as goal

-- `lines::Ended::read_on` meets its contract.

pub returns-in-Some-clause-read : goal.returns-in-Some-clause-read
returns-in-Some-clause-read c =
    let found = c.in-Some.ensures in
    let ended = rw found.1 at c.put_frame.ensures.ended in
    rw (c.put_frame.ensures.counted, c.if-begun-eq0.true) (frame_on _ _ _ _ _ _ c.requires _ 0 _ _ _ refl found.0 ended)

-- Demand 1, of one frame: refused, it changes nothing.
use Rattle.std.specs.Prelude.{◌≡◌, ◌≢◌}
use Rattle.meaning.specs.Limits.{done_number}
use Rattle.meaning.specs.Lent.{Lent}
use Rattle.meaning.specs.Frames.{Frame}
use Rattle.meaning.specs.Serve.{refused}
use Rattle.serving.specs.Lending.{after, answer}

-- not one lent number is another afterwards, and fresh and value are 0
pub record Untouched (s : Lent) (f : Frame) : Type 0 where
  pub state : after s f ≡ s
  pub told : answer s f ≡ refused (answer s f).number

abbrev pub Demand1 : Type 0
Demand1 = (s : Lent) (f : Frame) → (answer s f).number ≢ done_number → Untouched s f

use mathlib.Core.Path.{ap, ◌∙◌}
use Prim.Native.Nat.{ℕ}
use lib.ListN.{take, drop}
use Rattle.meaning.specs.Limits.{frame_size}
use Rattle.meaning.specs.Frames.{decode}
use Rattle.requests.proofs.Bytes.{frame_is}
use Rattle.requests.proofs.frame_at.Goals as goal

-- `requests::frame_at` meets its contract.

pub returns : goal.returns
returns c = frame_is c.args.requests.now c.frame_place-at.result _ _ c.number_at-index.ensures c.number_at-value.ensures ∙ ap (λ (at : ℕ). decode (take frame_size (drop at c.args.requests.now))) c.frame_place-at.ensures

use mathlib.Core.Path.{ap, ◌∙◌}
use Prim.Native.Nat.{ℕ}
use native.Mathlib.Omega.{arith}
use Rattle.meaning.specs.Frames.{encode}
use Rattle.requests.specs.Requests.{answer_of, put}
use Rattle.requests.proofs.Bytes.{answer-is}
use Rattle.requests.proofs.put_answer.Goals as goal

-- `requests::put_answer` meets its contract.

pub returns : goal.returns
returns c = answer-is _ _ _ (answer_of c.args.a) c.to_be_bytes.ensures (omega (arith, c.requires, c.answer_place-at.ensures)) ∙ ap (λ (at : ℕ). put c.args.room.now at (encode (answer_of c.args.a))) c.answer_place-at.ensures

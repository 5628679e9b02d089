-- What a refusal's number tells.
use mathlib.Core.Logic.{◌≢◌}
use native.Mathlib.Omega.{arith}
use Rattle.meaning.specs.Limits.{done_number}
use Rattle.limits.specs.Refusals.{number_of}
use Rattle.limits.specs.declared.numbers.Refusal.{Refusal}
use Rattle.limits.specs.declared.numbers.Refusal.TheVariants.{NoParty, NoOperation, HostOnly, OutOfRange, EmptySource, LiveTarget, BadBits, NothingThere, Full, NoNodes, IllFormed, NoRoom, Ragged, NotAFrame}

-- no refusal has the number of what is done
pub refusal-is-told : (refusal : Refusal) → number_of refusal ≢ done_number
refusal-is-told NoParty e = absurd (omega arith)
refusal-is-told NoOperation e = absurd (omega arith)
refusal-is-told HostOnly e = absurd (omega arith)
refusal-is-told OutOfRange e = absurd (omega arith)
refusal-is-told EmptySource e = absurd (omega arith)
refusal-is-told LiveTarget e = absurd (omega arith)
refusal-is-told BadBits e = absurd (omega arith)
refusal-is-told NothingThere e = absurd (omega arith)
refusal-is-told Full e = absurd (omega arith)
refusal-is-told NoNodes e = absurd (omega arith)
refusal-is-told IllFormed e = absurd (omega arith)
refusal-is-told NoRoom e = absurd (omega arith)
refusal-is-told Ragged e = absurd (omega arith)
refusal-is-told NotAFrame e = absurd (omega arith)

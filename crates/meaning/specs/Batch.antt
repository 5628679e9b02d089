-- "Requests come as a batch": bytes in, bytes out, one report.
use Rattle.std.specs.Prelude.{Bool, not, List, [], ◌∷◌, ◌++◌, ℕ, zero, suc, ◌*◌, ◌/◌, ltb, length, take, drop}
use Rattle.meaning.specs.Limits.{frame_size, answer_size, done_number, ill_formed_number, no_room_number, ragged_number}
use Rattle.meaning.specs.Counting.{divides}
use Rattle.meaning.specs.Table.{Table}
use Rattle.meaning.specs.Frames.{decode, encode}
use Rattle.meaning.specs.Supply.{Supply}
use Rattle.meaning.specs.Checks.{Check, ◌if◌, first_of}
use Rattle.meaning.specs.Serve.{Call, Reply, run}

-- batch checks run 13, 12, 11
unfoldable pub batch_checks : (well_formed : Bool) → (requests room : List ℕ) → List Check
batch_checks well_formed requests room =
    (ragged_number if not (divides frame_size (length requests)))
    ∷ (no_room_number if ltb (length room) (answer_size * (length requests / frame_size)))
    ∷ (ill_formed_number if not well_formed)
    ∷ []

-- the first k frames of the request bytes, each with the nodes that are free when it comes
unfoldable pub calls_in : (k : ℕ) → (requests : List ℕ) → (free : ℕ → Supply) → List Call
calls_in zero bs free = []
calls_in (suc k) bs free = record { supply = free 0; frame = decode (take frame_size bs) } ∷ calls_in k (drop frame_size bs) (λ n. free (suc n))

unfoldable pub answer_bytes : List Reply → List ℕ
answer_bytes [] = []
answer_bytes (r ∷ rs) = encode r.answer ++ answer_bytes rs

pub record Outcome : Type 0 where
  pub number : ℕ
  pub frames : ℕ
  pub room : List ℕ
  pub table : Table

-- a batch that is refused writes nothing and reports 0 frames; answer room beyond 6 bytes a frame stays untouched
unfoldable pub outcome : (number : ℕ) → (count : ℕ) → (room : List ℕ) → Table → (ran : Table × List Reply) → Outcome
outcome zero k room t ran = record { number = done_number; frames = k; room = answer_bytes ran.1 ++ drop (answer_size * k) room; table = ran.0 }
outcome (suc n) k room t ran = record { number = suc n; frames = 0; room = room; table = t }

-- with so many nodes free at each frame
unfoldable pub batch : (well_formed : Bool) → (requests room : List ℕ) → (free : ℕ → Supply) → Table → Outcome
batch well_formed requests room free t =
    let k = length requests / frame_size in
    outcome (first_of (batch_checks well_formed requests room)) k room t (run (calls_in k requests free) t)

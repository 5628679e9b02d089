-- "Requests, one frame each": the bytes of a frame and of an answer.
use Rattle.std.specs.Prelude.{List, [], ◌∷◌, ℕ, zero, suc, ◌+◌, ◌*◌, ◌/◌, ◌%◌, ◌^◌, get_or, take, drop}

pub record Frame : Type 0 where
  pub party : ℕ
  pub operation : ℕ
  pub slot : ℕ
  pub destination : ℕ
  pub index : ℕ
  pub value : ℕ

pub record Answer : Type 0 where
  pub number : ℕ
  pub fresh : ℕ
  pub value : ℕ

-- a number from its bytes, most significant first, behind what was read of it
unfoldable pub from_bytes : List ℕ → (high : ℕ) → ℕ
from_bytes [] high = high
from_bytes (b ∷ bs) high = from_bytes bs (high * 256 + b)

-- the k bytes of a number, most significant first
unfoldable pub to_bytes : (k : ℕ) → ℕ → List ℕ
to_bytes zero n = []
to_bytes (suc k) n = n / 256 ^ k % 256 ∷ to_bytes k n

-- party, operation, slot, destination, index (4 bytes), value (4 bytes)
unfoldable pub decode : List ℕ → Frame
decode bs =
    record {
      party = get_or bs 0 0;
      operation = get_or bs 1 0;
      slot = get_or bs 2 0;
      destination = get_or bs 3 0;
      index = from_bytes (take 4 (drop 4 bs)) 0;
      value = from_bytes (take 4 (drop 8 bs)) 0;
    }

-- number, fresh nodes, value (4 bytes)
unfoldable pub encode : Answer → List ℕ
encode a = a.number ∷ a.fresh ∷ to_bytes 4 a.value

-- Demand 3 at work: an instance, by computation.
use mathlib.Core.Path.{◌≡◌, refl}
use mathlib.Core.List.{List, [], ◌∷◌, map}
use Prim.Native.Nat.{ℕ}
use Rattle.meaning.specs.Table.{fresh_table}
use Rattle.meaning.specs.Frames.{Answer, decode, encode, from_bytes, to_bytes}
use Rattle.meaning.specs.Supply.{all_free}
use Rattle.meaning.specs.Serve.{Call}
use Rattle.isolation.specs.Demand3.{keep, frames_of, answers_to, strike_out, party_by_party, left, apart}
use Rattle.meaning.proofs.Sessions.{session, Line, ◌with◌}

unfoldable pub mix : List Call
unfolding session
mix = map (λ (l : Line). record { supply = all_free l.free; frame = decode (to_bytes 12 l.frame) })
    ((0x010000000000000500000000 with 2)  -- party 1: new
    ∷ (0x020000000000000100000000 with 1)  -- party 2: new
    ∷ (0x010600010000000000000007 with 0)  -- party 1: push, 10
    ∷ (0x020200000000000000000000 with 0)  -- party 2: release
    ∷ (0x010401000000000000000000 with 1)  -- party 1: get in slot 1, which that push did not fill: 5
    ∷ (0x010600010000000000000009 with 1)  -- party 1: push
    ∷ (0x020401000000000000000000 with 0)  -- party 2: get: 5
    ∷ (0x010401000000000000000000 with 0)  -- party 1: get: 9
    ∷ [])

unfoldable pub seen : List Answer → List ℕ
unfolding encode from_bytes to_bytes
seen as' = map (λ (a : Answer). from_bytes (encode a) 0) as'

pub mixing
    : (seen (answers_to 1 (left mix fresh_table)) ≡ 0x000100000000 ∷ 0x050000000000 ∷ 0x000100000000 ∷ 0x000000000009 ∷ [])
    × (seen (answers_to 1 (apart mix fresh_table).1) ≡ 0x000100000000 ∷ 0x050000000000 ∷ 0x000100000000 ∷ 0x000000000009 ∷ [])
    × (seen (answers_to 2 (left mix fresh_table)) ≡ 0x000100000000 ∷ 0x000000000000 ∷ 0x050000000000 ∷ [])
    × (seen (answers_to 2 (apart mix fresh_table).1) ≡ 0x000100000000 ∷ 0x000000000000 ∷ 0x050000000000 ∷ [])
unfolding session mix seen keep frames_of answers_to strike_out party_by_party
mixing = (refl, refl, refl, refl)

-- The bytes of a number, of a frame and of an answer, at their places.
use mathlib.Core.Path.{◌≡◌, refl, ap, ◌∙◌}
use mathlib.Core.List.{List, [], ◌∷◌, append_assoc}
use Prim.Native.Nat.{ℕ, zero, suc, ◌+◌, ◌/◌, ◌%◌, ◌≤◌, ◌<◌}
use native.Mathlib.Nat.{lt_irrefl, add-zero}
use native.Mathlib.Numerals.{add-one}
use native.Mathlib.Omega.{arith}
use lib.ListN.{length, take, drop, get_or, set, length-take, length-drop, length-append}
use lib.Seq.{drop-cons, drop-drop, take-take, get_or-take, get_or-drop, set_comm, sets, sets-eq}
use Rattle.std.specs.Int.{w32, from_be_bytes, to_be_bytes}
use Rattle.meaning.specs.Limits.{frame_size, answer_size}
use Rattle.meaning.specs.Frames as meaning
use Rattle.meaning.specs.Frames.{from_bytes, to_bytes, decode, encode}
use Rattle.requests.specs.Requests.{put}

-- ---- lengths

pub encode-length : (a : meaning.Answer) → length (encode a) ≡ answer_size
unfolding encode to_bytes
encode-length a = refl

pub put-length : (room : List ℕ) (at : ℕ) (bytes : List ℕ) → at + length bytes ≤ length room → length (put room at bytes) ≡ length room
unfolding put
put-length room at bytes l = simp (length-append, length-take, length-drop) (omega arith)

-- ---- a number and a frame

pub number_is : (bs : List ℕ) (at : ℕ) → at + 4 ≤ length bs
    → from_be_bytes w32 (get_or bs at 0 ∷ get_or bs (at + 1) 0 ∷ get_or bs (at + 2) 0 ∷ get_or bs (at + 3) 0 ∷ []) ≡ from_bytes (take 4 (drop at bs)) 0
unfolding from_bytes
number_is bs at l =
    rw (drop-cons bs at 0 (omega arith), drop-cons bs (suc at) 0 (omega arith), drop-cons bs (suc (suc at)) 0 (omega arith), drop-cons bs (suc (suc (suc at))) 0 (omega arith), add-one at, two, three)
    (omega arith)
  where
    two : at + 2 ≡ suc (suc at)
    two = omega arith

    three : at + 3 ≡ suc (suc (suc at))
    three = omega arith

-- a part of the first n
take-drop-take : (m k n : ℕ) (l : List ℕ) → k + m ≤ n → take m (drop k (take n l)) ≡ take m (drop k l)
take-drop-take m zero n l h = take-take m n l (omega arith)
take-drop-take m (suc k) zero l h = absurd (lt_irrefl zero (omega arith))
take-drop-take m (suc k) (suc n) [] h = refl
take-drop-take m (suc k) (suc n) (x ∷ l) h = take-drop-take m k n l (omega arith)

pub frame_is : (bs : List ℕ) (at i v : ℕ) → i ≡ from_bytes (take 4 (drop (at + 4) bs)) 0 → v ≡ from_bytes (take 4 (drop (at + 8) bs)) 0
    → ◌≡◌ {A = meaning.Frame} (record { party = get_or bs at 0; operation = get_or bs (at + 1) 0; slot = get_or bs (at + 2) 0; destination = get_or bs (at + 3) 0; index = i; value = v })
    (decode (take frame_size (drop at bs)))
unfolding decode
frame_is bs at i v p q =
    rw (p, q, ← (drop-drop 4 at bs), ← (drop-drop 8 at bs), take-drop-take 4 4 12 (drop at bs) (omega arith), take-drop-take 4 8 12 (drop at bs) (omega arith), byte 0 (omega arith), byte 1 (omega arith), byte 2 (omega arith), byte 3 (omega arith), add-zero at)
  where
    byte : (k : ℕ) → k < 12 → get_or (take frame_size (drop at bs)) k 0 ≡ get_or bs (at + k) 0
    byte k h = get_or-take 12 (drop at bs) k 0 h ∙ get_or-drop at bs k 0

-- ---- an answer

-- bytes stored one by one
put-by-sets : (bytes room : List ℕ) (at : ℕ) → at + length bytes ≤ length room → sets room at bytes ≡ put room at bytes
unfolding put
put-by-sets bytes room at l = sets-eq bytes room at l ∙ append_assoc (take at room) bytes (drop (at + length bytes) room)

-- a store in front of others changes places with them
set-before-sets : (bytes room : List ℕ) (i j b : ℕ) → i < j → set (sets room j bytes) i b ≡ sets (set room i b) j bytes
set-before-sets [] room i j b l = refl
set-before-sets (x ∷ bytes) room i j b l =
    set-before-sets bytes (set room j x) i (suc j) b (omega arith)
    ∙ ap (λ (r : List ℕ). sets r (suc j) bytes) (set_comm room j i x b (λ e. lt_irrefl j (omega arith)))

pub answer-is : (room bytes : List ℕ) (at : ℕ) (a : meaning.Answer) → bytes ≡ to_be_bytes w32 a.value → at + answer_size ≤ length room
    → set (set (set (set (set (set room (at + 2) (get_or bytes 0 0)) (at + 3) (get_or bytes 1 0)) (at + 4) (get_or bytes 2 0)) (at + 5) (get_or bytes 3 0)) at a.number) (at + 1) a.fresh
    ≡ put room at (encode a)
unfolding encode to_bytes
answer-is room bytes at a e l =
    rw (e, add-one at, two, three, four, five, one)
    (ap (λ (r : List ℕ). set r (suc at) a.fresh) (set-before-sets (to_bytes 4 a.value) room at (suc (suc at)) a.number (omega arith))
    ∙ set-before-sets (to_bytes 4 a.value) (set room at a.number) (suc at) (suc (suc at)) a.fresh (omega arith)
    ∙ put-by-sets (encode a) room at l)
  where
    one : a.value % 256 ≡ a.value / 1 % 256
    one = omega arith

    two : at + 2 ≡ suc (suc at)
    two = omega arith

    three : at + 3 ≡ suc (suc (suc at))
    three = omega arith

    four : at + 4 ≡ suc (suc (suc (suc at)))
    four = omega arith

    five : at + 5 ≡ suc (suc (suc (suc (suc at))))
    five = omega arith

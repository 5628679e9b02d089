-- One frame more in a row, and what it makes of the room and the walks.
use Rattle.std.specs.Prelude.{Option}
use mathlib.Core.Path.{◌≡◌, refl, sym, ap, ◌∙◌}
use mathlib.Core.Bool.{Bool, true, false, not, false≢true}
use mathlib.Core.List.{List, [], ◌∷◌}
use mathlib.Core.Logic.{◌≢◌}
use Prim.Native.Nat.{ℕ, zero, suc, ◌+◌, ◌-◌, ◌*◌, ◌/◌, ◌^◌, ◌≤◌, ◌<◌}
use native.Mathlib.Nat.{lt_irrefl, div-eq_of_lt}
use native.Mathlib.Decide.{dec_lt}
use native.Mathlib.Omega.{arith}
use lib.Bits.{bit_xor, and_le_l, and_le_r, xor_add_and, xor_shr}
use lib.ListN.{get_or, set}
use lib.Pow.{pow_pos}
use lib.Seq.{get_or-set_other}
use borrow.Author.Tests.{eqb-false}
use Rattle.meaning.specs.Limits.{walk_numbers}
use Rattle.meaning.specs.Counting.{bit}
use Rattle.meaning.specs.Lent.{WalkSlices}
use Rattle.meaning.specs.Shape.{degree, mask}
use Rattle.meaning.specs.Trees.{height_of}
use Rattle.meaning.specs.Frames.{Frame, Answer, encode}
use Rattle.records.specs.Records.{record_of}
use Rattle.records.specs.declared.Version.{Version}
use Rattle.lookup.specs.Lookup.{element_in}
use Rattle.walk.specs.Walk as walk
use Rattle.walk.specs.Walk.{number_at, is_ended, Walkable, taken_by}
use Rattle.requests.specs.Requests.{put, frame_in, answer_place}
use Rattle.edits.specs.Edits.{valued}
use Rattle.calls.specs.Walks.{answer_of}
use Rattle.repeats.specs.InARow.{InARow, Stops, after_gets, walked, after_steps, Walked}

-- ---- the row

module _ (kind : Frame → Bool) (requests : List ℕ) (k count : ℕ) where
  pub row-begins : k ≤ count → InARow kind requests k count k
  row-begins l = record { from = omega arith; to = l; all = λ i a b. absurd (lt_irrefl 0 (omega arith)) }

  pub row-goes-on : (j : ℕ) (f : Frame) (b : Bool) → InARow kind requests k count j → j < count → f ≡ frame_in requests j → b ≡ kind f → not b ≡ false → InARow kind requests k count (j + 1)
  row-goes-on j f b row l e h t = record { from = omega (arith, row.from); to = omega arith; all = λ i a c. pick i a c (dec_lt i j) }
    where
      was : (c : Bool) → not c ≡ false → c ≡ true
      was true q = refl
      was false q = absurd (false≢true (sym q))

      pick : (i : ℕ) → k ≤ i → i < j + 1 → Dec (i < j) → kind (frame_in requests i) ≡ true
      pick i a c (yes d) = row.all i a d
      pick i a c (no n) = let here : i ≡ j = omega arith in ap (λ (m : ℕ). kind (frame_in requests m)) here ∙ (ap kind (sym e) ∙ (sym h ∙ was b t))

module _ (kind : Frame → Bool) (requests : List ℕ) (count : ℕ) where
  pub row-stops : (j : ℕ) (f : Frame) (b : Bool) → f ≡ frame_in requests j → b ≡ kind f → not b ≡ true → Stops kind requests count j
  row-stops j f b e h t l = ap kind (sym e) ∙ (sym h ∙ was b t)
    where
      was : (c : Bool) → not c ≡ true → c ≡ false
      was false q = refl
      was true q = absurd (false≢true q)

  pub row-over : (j : ℕ) → count ≤ j → Stops kind requests count j
  row-over j l m = absurd (lt_irrefl 0 (omega arith))

-- ---- gets

-- numbers that differ in their last b bits alone have the others in common
pub block_same : (b i j m : ℕ) → m ≡ mask b → bit_xor i j ≤ m → j / 2 ^ b ≡ i / 2 ^ b
unfolding mask degree
block_same b i j m e l =
    let p = i / 2 ^ b in
    let q = j / 2 ^ b in
    let short : bit_xor i j < 2 ^ b = omega (arith, pow_pos b) in
    let none : bit_xor p q ≡ 0 = sym (xor_shr i j b) ∙ div-eq_of_lt short in
    omega (arith, xor_add_and p q, and_le_l p q, and_le_r p q)

module _ (cells : List ℕ) (v : Version) (requests room : List ℕ) (k : ℕ) where
  pub gets-begin : room ≡ after_gets cells v requests room k (k - k)
  unfolding after_gets
  gets-begin = let none : k - k ≡ 0 = omega arith in rw none

  pub gets-go-on : (j x : ℕ) (f : Frame) (now after : List ℕ) → k ≤ j → now ≡ after_gets cells v requests room k (j - k) → f ≡ frame_in requests j
      → x ≡ element_in cells v.bits (height_of (record_of v)) v.root f.index → after ≡ put now (answer_place j) (encode (valued x))
      → after ≡ after_gets cells v requests room k (j + 1 - k)
  unfolding after_gets
  gets-go-on j x f now after l h e q p =
      let more : j + 1 - k ≡ suc (j - k) = omega arith in
      let here : k + (j - k) ≡ j = omega arith in
      let item : x ≡ element_in cells v.bits (height_of (record_of v)) v.root (frame_in requests j).index =
      q ∙ ap (λ (g : Frame). element_in cells v.bits (height_of (record_of v)) v.root g.index) e in
      rw (more, here, ← item, ← h) p

-- ---- steps

module _ (cells used : List ℕ) (back : Bool) (n : ℕ) (w : Walked) (k : ℕ) where
  pub steps-begin : w ≡ after_steps cells used back n w k (k - k)
  unfolding after_steps
  steps-begin = let none : k - k ≡ 0 = omega arith in rw none

  pub steps-go-on : (j : ℕ) (ws after : WalkSlices) (room room_after : List ℕ) (g : Option ℕ) (a : Answer) → k ≤ j → walked ws room ≡ after_steps cells used back n w k (j - k)
      → walk.stepped after g ≡ taken_by cells used back ws n → a ≡ answer_of g → room_after ≡ put room (answer_place j) (encode a)
      → walked after room_after ≡ after_steps cells used back n w k (j + 1 - k)
  unfolding after_steps
  steps-go-on j ws after room room_after g a l h t e p =
      let more : j + 1 - k ≡ suc (j - k) = omega arith in
      let here : k + (j - k) ≡ j = omega arith in
      rw (more, here, ← h, ← t, p, e)

-- ---- a walk goes on to be one

set_below : (xs : List ℕ) (i x : ℕ) → get_or (set xs i x) i 0 ≤ x
set_below [] i x = omega arith
set_below (y ∷ xs) zero x = omega arith
set_below (y ∷ xs) (suc i) x = set_below xs i x

module _ (numbers : List ℕ) (n : ℕ) (w : Walkable numbers n) where
  counted : (b : Bool) → is_ended numbers n ≡ false → Walkable (set numbers (walk_numbers * n + (4 + bit b)) (number_at numbers n (4 + bit b) + 1)) n
  unfolding is_ended
  counted false e =
      let more : number_at numbers n 4 + number_at numbers n 5 ≢ number_at numbers n 3 = eqb-false _ _ e in
      let at : List ℕ = set numbers (walk_numbers * n + 4) (number_at numbers n 4 + 1) in
      let two : number_at at n 2 ≡ number_at numbers n 2 = get_or-set_other numbers _ _ _ 0 (λ q. lt_irrefl 0 (omega arith)) in
      let three : number_at at n 3 ≡ number_at numbers n 3 = get_or-set_other numbers _ _ _ 0 (λ q. lt_irrefl 0 (omega arith)) in
      let five : number_at at n 5 ≡ number_at numbers n 5 = get_or-set_other numbers _ _ _ 0 (λ q. lt_irrefl 0 (omega arith)) in
      record { walk = w.walk; legal = rw (two, three) w.legal; taken = rw (three, five) (omega (arith, set_below numbers (walk_numbers * n + 4) (number_at numbers n 4 + 1), w.taken, more)) }
  counted true e =
      let more : number_at numbers n 4 + number_at numbers n 5 ≢ number_at numbers n 3 = eqb-false _ _ e in
      let at : List ℕ = set numbers (walk_numbers * n + 5) (number_at numbers n 5 + 1) in
      let two : number_at at n 2 ≡ number_at numbers n 2 = get_or-set_other numbers _ _ _ 0 (λ q. lt_irrefl 0 (omega arith)) in
      let three : number_at at n 3 ≡ number_at numbers n 3 = get_or-set_other numbers _ _ _ 0 (λ q. lt_irrefl 0 (omega arith)) in
      let four : number_at at n 4 ≡ number_at numbers n 4 = get_or-set_other numbers _ _ _ 0 (λ q. lt_irrefl 0 (omega arith)) in
      record { walk = w.walk; legal = rw (two, three) w.legal; taken = rw (three, four) (omega (arith, set_below numbers (walk_numbers * n + 5) (number_at numbers n 5 + 1), w.taken, more)) }

pub walkable-on : (cells used : List ℕ) (back : Bool) (ws after : WalkSlices) (n : ℕ) (g : Option ℕ) → Walkable ws.numbers n → walk.stepped after g ≡ taken_by cells used back ws n → Walkable after.numbers n
unfolding taken_by
walkable-on cells used back ws after n g w t = rw (ap (λ (s : walk.Step). s.slices.numbers) t) (pick (is_ended ws.numbers n) refl)
  where
    pick : (b : Bool) → is_ended ws.numbers n ≡ b → Walkable (taken_by cells used back ws n).slices.numbers n
    pick true e = rw e w
    pick false e = rw e (counted ws.numbers n w back e)

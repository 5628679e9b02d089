-- Steps that stay in one leaf are steps of the walk; steps in a row after steps in a row are steps in a row.
use mathlib.Core.Path.{◌≡◌, refl, sym, ap, ◌∙◌}
use mathlib.Core.Bool.{Bool, true}
use mathlib.Core.List.{List}
use Prim.Native.Nat.{ℕ, zero, suc, ◌+◌, ◌-◌, ◌*◌, ◌≤◌, ◌<◌}
use native.Mathlib.Decide.{dec_lt}
use native.Mathlib.Omega.{arith}
use lib.ListN.{get_or}
use Rattle.meaning.specs.Limits.{node_cells}
use Rattle.meaning.specs.Lent.{WalkSlices}
use Rattle.meaning.specs.Frames.{Frame, encode}
use Rattle.index.specs.Index.{along, Within}
use Rattle.index.proofs.IndexLaws.{less-within}
use Rattle.walk.specs.declared.Stretch.{Stretch}
use Rattle.walk.specs.Walk.{Walkable, passed_on, Passable, Staying}
use Rattle.requests.specs.Requests.{put, frame_in, answer_place}
use Rattle.edits.specs.Edits.{valued}
use Rattle.calls.specs.Walks.{answer_of}
use Rattle.repeats.specs.InARow.{InARow, walked, after_steps, Walked, Steps, after_cells, StepsInLeaf}
use Rattle.repeats.proofs.Repeating.{walkable-on}

-- ---- answers by cells

module _ (cells : List ℕ) (back : Bool) (s : Stretch) (room : List ℕ) (k : ℕ) where
  pub cells-begin : room ≡ after_cells cells back s room k (k - k)
  unfolding after_cells
  cells-begin = let none : k - k ≡ 0 = omega arith in rw none

  pub cells-go-on : (j i x : ℕ) (now after : List ℕ) → k ≤ j → now ≡ after_cells cells back s room k (j - k) → i ≡ along back s.place (j - k)
      → x ≡ get_or cells (node_cells * s.node + i) 0 → after ≡ put now (answer_place j) (encode (valued x)) → after ≡ after_cells cells back s room k (j + 1 - k)
  unfolding after_cells
  cells-go-on j i x now after l h e q p =
      let more : j + 1 - k ≡ suc (j - k) = omega arith in
      let here : k + (j - k) ≡ j = omega arith in
      rw (more, here, ← e, ← q, ← h) p

pub within-before : (b : Bool) (i most m : ℕ) → Within b i most → m < most → Within b i m
within-before b i most m w l = less-within b i most m w (omega arith)

-- ---- one leaf

module _ (used : List ℕ) (back : Bool) (ws : WalkSlices) (n : ℕ) (s : Stretch) (stays : Staying used back ws n s.node s.place s.most) where
  pub stays_within : Within back s.place s.most
  stays_within = rw stays.here stays.passable.within

  pub can-pass : (m : ℕ) → m ≤ s.most → Passable back ws.numbers ws.indices n m
  can-pass m l =
      record {
        walk = stays.passable.walk;
        counts = omega (arith, stays.passable.counts);
        within = less-within back _ s.most m stays.passable.within l;
      }

  cells-are-steps : (cells room : List ℕ) (k m : ℕ) → m ≤ s.most → walked (passed_on back ws n m) (after_cells cells back s room k m) ≡ after_steps cells used back n (walked ws room) k m
  unfolding after_cells after_steps answer_of
  cells-are-steps cells room k zero l = ap (λ (v : WalkSlices). walked v room) stays.none
  cells-are-steps cells room k (suc m) l =
      let so_far : walked (passed_on back ws n m) (after_cells cells back s room k m) ≡ after_steps cells used back n (walked ws room) k m = cells-are-steps cells room k m (omega arith) in
      let more : m + 1 ≡ suc m = omega arith in
      rw (← so_far, stays.next cells m (omega arith), more)

  pub leaf-steps : (cells : List ℕ) (party operation walk : ℕ) (requests room room_after : List ℕ) (after : WalkSlices) (k count end : ℕ)
      → StepsInLeaf cells party operation walk back s requests room room_after k count end → after ≡ passed_on back ws n (end - k)
      → Steps cells used party operation walk back n (walked ws room) (walked after room_after) requests k count end
  leaf-steps cells party operation walk requests room room_after after k count end a p =
      record { row = a.row; steps = rw (a.answers, p) (cells-are-steps cells room k (end - k) a.stay) }

-- ---- one row after another

pub row-joins : (kind : Frame → Bool) (requests : List ℕ) (k count j end : ℕ) → InARow kind requests k count j → InARow kind requests j count end → InARow kind requests k count end
row-joins kind requests k count j end a b = record { from = omega (arith, a.from, b.from); to = b.to; all = λ i l h. pick i l h (dec_lt i j) }
  where
    pick : (i : ℕ) → k ≤ i → i < end → Dec (i < j) → kind (frame_in requests i) ≡ true
    pick i l h (yes d) = a.all i l d
    pick i l h (no n) = b.all i (omega arith) h

module _ (cells used : List ℕ) (back : Bool) (n : ℕ) (w : Walked) (k : ℕ) where
  afterwards : (a m : ℕ) → after_steps cells used back n (after_steps cells used back n w k a) (k + a) m ≡ after_steps cells used back n w k (a + m)
  unfolding after_steps
  afterwards a zero = let none : a + 0 ≡ a = omega arith in rw none
  afterwards a (suc m) =
      let more : a + suc m ≡ suc (a + m) = omega arith in
      let here : k + a + m ≡ k + (a + m) = omega arith in
      rw (more, afterwards a m, here)

  pub steps-join : (j end : ℕ) (now after : Walked) → k ≤ j → j ≤ end → now ≡ after_steps cells used back n w k (j - k) → after ≡ after_steps cells used back n now j (end - j)
      → after ≡ after_steps cells used back n w k (end - k)
  steps-join j end now after l h p q =
      let here : k + (j - k) ≡ j = omega arith in
      let all : j - k + (end - j) ≡ end - k = omega arith in
      q ∙ (ap (λ (v : Walked). after_steps cells used back n v j (end - j)) p
      ∙ (ap (λ (i : ℕ). after_steps cells used back n (after_steps cells used back n w k (j - k)) i (end - j)) (sym here)
      ∙ (afterwards (j - k) (end - j) ∙ ap (after_steps cells used back n w k) all)))

  walkable-then : Walkable w.walks.numbers n → (m : ℕ) → Walkable (after_steps cells used back n w k m).walks.numbers n
  unfolding after_steps
  walkable-then h zero = h
  walkable-then h (suc m) = walkable-on cells used back _ _ n _ (walkable-then h m) refl

  pub walkable-still : (end : ℕ) (after : Walked) → Walkable w.walks.numbers n → after ≡ after_steps cells used back n w k (end - k) → Walkable after.walks.numbers n
  walkable-still end after h e = rw e (walkable-then h (end - k))

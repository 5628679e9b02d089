-- Marked lines on a running state: the state is that of their frames in order, the text what is printed of the frames' answers.
use mathlib.Core.Path.{◌≡◌, refl, sym, ap, ◌∙◌}
use mathlib.Core.Bool.{Bool, true, false}
use mathlib.Core.List.{List, [], ◌∷◌}
use Prim.Native.Nat.{ℕ}
use lib.Dec.{eqb}
use lib.ListN.{take, drop}
use Rattle.meaning.specs.Limits.{frame_size}
use Rattle.meaning.specs.Frames.{decode}
use Rattle.meaning.specs.Batch.{answer_bytes}
use Rattle.meaning.specs.Program.{Line, write}
use Rattle.frames.specs.Run.{Run}
use Rattle.frames.specs.Serve.{serve}
use Rattle.serving.specs.Served.{serve_all}
use Rattle.serving.specs.Lending.{frames_in}
use Rattle.lines.specs.Lines.{frame_mark, marked_lines, frames_marked}
use Rattle.lines.specs.Printing.{printed}
use Rattle.lines.proofs.Marks.{marked-frame, marked_other, counted-frame, counted-other, printed-frame, printed-other}
use Rattle.lines.proofs.Talking.{line-printed, take-encoded, drop-encoded}
use Rattle.conversation.specs.Conversing.{talk_on}

-- of the frames of those marks
abbrev state_after : Run → (marks requests : List ℕ) → Run
state_after r ms bs = (serve_all r (frames_in (frames_marked ms) bs)).0

abbrev answers_to : Run → (marks requests : List ℕ) → List ℕ
answers_to r ms bs = answer_bytes (serve_all r (frames_in (frames_marked ms) bs)).1

abbrev Stands : Run → (marks requests : List ℕ) → Type 0
Stands r ms bs = (talk_on r (marked_lines ms bs)).0 ≡ state_after r ms bs

abbrev Written : Run → (marks requests : List ℕ) → Type 0
Written r ms bs = write (talk_on r (marked_lines ms bs)).1 ≡ printed ms (answers_to r ms bs)

module _ (r : Run) (m : ℕ) (ms bs : List ℕ) where
  abbrev next : Run
  next = (serve r (decode (take frame_size bs))).0

  state-frame : eqb m frame_mark ≡ true → Stands next ms (drop frame_size bs) → Stands r (m ∷ ms) bs
  unfolding talk_on serve_all frames_in
  state-frame e p =
      ap (λ (ls : List Line). (talk_on r ls).0) (marked-frame m ms e bs) ∙ (p ∙ sym (ap (λ (k : ℕ). (serve_all r (frames_in k bs)).0) (counted-frame m ms e)))

  state-other : eqb m frame_mark ≡ false → Stands r ms bs → Stands r (m ∷ ms) bs
  unfolding talk_on
  state-other e p =
      ap (λ (ls : List Line). (talk_on r ls).0) (marked_other m ms e bs) ∙ (p ∙ sym (ap (λ (k : ℕ). (serve_all r (frames_in k bs)).0) (counted-other m ms e)))

  text-frame : eqb m frame_mark ≡ true → Written next ms (drop frame_size bs) → Written r (m ∷ ms) bs
  unfolding talk_on serve_all frames_in write answer_bytes
  text-frame e p = rw (marked-frame m ms e bs, counted-frame m ms e, p, printed-frame m ms e, take-encoded, drop-encoded, line-printed)

  text-other : eqb m frame_mark ≡ false → Written r ms bs → Written r (m ∷ ms) bs
  unfolding talk_on write
  text-other e p = rw (marked_other m ms e bs, counted-other m ms e, p, printed-other m ms e, line-printed)

pub marked-state : (r : Run) (marks requests : List ℕ) → (talk_on r (marked_lines marks requests)).0 ≡ (serve_all r (frames_in (frames_marked marks) requests)).0
unfolding talk_on serve_all frames_in marked_lines frames_marked
marked-state r [] bs = refl
marked-state r (m ∷ ms) bs = by (eqb m frame_mark) refl (marked-state (next r m ms bs) ms (drop frame_size bs)) (marked-state r ms bs)
  where
    by : (o : Bool) → eqb m frame_mark ≡ o → Stands (next r m ms bs) ms (drop frame_size bs) → Stands r ms bs → Stands r (m ∷ ms) bs
    by true e p q = state-frame r m ms bs e p
    by false e p q = state-other r m ms bs e q

pub marked-text : (r : Run) (marks requests : List ℕ)
    → write (talk_on r (marked_lines marks requests)).1 ≡ printed marks (answer_bytes (serve_all r (frames_in (frames_marked marks) requests)).1)
unfolding talk_on serve_all frames_in marked_lines frames_marked write answer_bytes printed
marked-text r [] bs = refl
marked-text r (m ∷ ms) bs = by (eqb m frame_mark) refl (marked-text (next r m ms bs) ms (drop frame_size bs)) (marked-text r ms bs)
  where
    by : (o : Bool) → eqb m frame_mark ≡ o → Written (next r m ms bs) ms (drop frame_size bs) → Written r ms bs → Written r (m ∷ ms) bs
    by true e p q = text-frame r m ms bs e p
    by false e p q = text-other r m ms bs e q

-- What each step of printing promises, from what the steps below it do.
use mathlib.Core.Path.{◌≡◌, refl, ap, ◌∙◌}
use mathlib.Core.Logic.{◌≢◌}
use mathlib.Core.Bool.{Bool, true, false, cond}
use mathlib.Core.List.{List, [], ◌∷◌, ◌++◌, append-nil}
use Prim.Native.Nat.{ℕ, ◌+◌, ◌-◌, ◌*◌, ◌≤◌, ◌<◌}
use native.Mathlib.Numerals.{add-one}
use native.Mathlib.Omega.{arith}
use lib.Dec.{eqb}
use lib.ListN.{length, get_or, take, drop, length-drop}
use lib.Seq.{take-suc, take-add, take_all, take-paste, length-take-le, length-paste, paste}
use borrow.Author.Tests.{eq-eqb, ne_eqb}
use Rattle.meaning.specs.Limits.{answer_size, not_a_frame_number}
use Rattle.meaning.specs.Frames.{to_bytes, encode}
use Rattle.meaning.specs.Serve.{refused}
use Rattle.requests.specs.Requests.{answer_place}
use Rattle.hexadecimal.specs.Text.{printed_answer, printed_size}
use Rattle.lines.specs.Lines.{frame_mark, frames_marked}
use Rattle.lines.specs.Printing.{printed_line, printed, CanPrintLine, PrintsLine, CanPrint}
use Rattle.lines.proofs.Marks.{counted-append, printed-append}
use Rattle.hexadecimal.proofs.Pairs.{row-length}

-- ---- a line

refused-length : length (encode (refused not_a_frame_number)) ≡ answer_size
unfolding encode to_bytes refused
refused-length = refl

one-frame : (mark : ℕ) → mark ≡ frame_mark → frames_marked (mark ∷ []) ≡ 1
unfolding frames_marked
one-frame mark e = rw (eq-eqb mark frame_mark e)

no_frames : (mark : ℕ) → mark ≢ frame_mark → frames_marked (mark ∷ []) ≡ 0
unfolding frames_marked
no_frames mark f = rw (ne_eqb mark frame_mark f)

module _ (mark : ℕ) (answers : List ℕ) (frames : ℕ) (out : List ℕ) (at : ℕ) (can : CanPrintLine mark answers frames out at) where
  pub frame-answered : mark ≡ frame_mark → answer_place frames + answer_size ≤ length answers
  frame-answered e = omega (arith, can.answered, one-frame mark e)

  pub frame-prints : (out' : List ℕ) (start : ℕ) → mark ≡ frame_mark → start ≡ answer_place frames
      → out' ≡ paste out at (printed_answer (take (start + answer_size - start) (drop start answers))) printed_size
      → PrintsLine mark answers frames out at (frames + 1) out'
  unfolding printed_line
  frame-prints out' start e begins p =
      let s : start + answer_size - start ≡ answer_size = omega arith in
      record { counted = rw (one-frame mark e); text = rw (eq-eqb mark frame_mark e) (rw (s, begins) at p) }

  pub other-prints : (out' : List ℕ) → mark ≢ frame_mark → out' ≡ paste out at (printed_answer (not_a_frame_number ∷ 0 ∷ 0 ∷ 0 ∷ 0 ∷ 0 ∷ [])) printed_size
      → PrintsLine mark answers frames out at frames out'
  unfolding printed_line encode to_bytes refused
  other-prints out' f p = record { counted = omega (arith, no_frames mark f); text = rw (ne_eqb mark frame_mark f) p }

  line-length : length (printed_line mark (drop (answer_place frames) answers)) ≡ printed_size
  unfolding printed_line frames_marked
  line-length = by (eqb mark frame_mark) can.answered
    where
      bs : List ℕ
      bs = drop (answer_place frames) answers

      by : (o : Bool) → answer_size * (frames + cond o 1 0) ≤ length answers → length (printed_answer (cond o (take answer_size bs) (encode (refused not_a_frame_number)))) ≡ printed_size
      by true l = row-length (take answer_size bs) (length-take-le answer_size bs (simp length-drop (omega arith)))
      by false l = row-length (encode (refused not_a_frame_number)) refused-length

-- ---- lines

counted-most : (marks : List ℕ) (i n : ℕ) → i ≤ n → frames_marked (take i marks) ≤ frames_marked (take n marks)
counted-most marks i n l =
    let e : n ≡ i + (n - i) = omega arith in
    rw (e, take-add i (n - i) marks, counted-append) (omega arith)

counted-all : (marks : List ℕ) (i : ℕ) → i ≤ length marks → frames_marked (take i marks) ≤ frames_marked marks
counted-all marks i l =
    let e : take (length marks) marks ≡ marks = take_all (length marks) marks (omega arith) in
    let h : frames_marked (take i marks) ≤ frames_marked (take (length marks) marks) = counted-most marks i (length marks) l in
    rw e at h

next_marks : (marks : List ℕ) (i : ℕ) → i < length marks → take (i + 1) marks ≡ take i marks ++ (get_or marks i 0 ∷ [])
next_marks marks i l = rw (add-one, take-suc marks i 0 l)

printed-one : (mark : ℕ) (bs : List ℕ) → printed (mark ∷ []) bs ≡ printed_line mark bs
unfolding printed
printed-one mark bs = append-nil (printed_line mark bs)

module _ (marks answers out₀ : List ℕ) (can : CanPrint marks answers out₀) (out : List ℕ) (s : length out ≡ length out₀) (frames i : ℕ) (l : i < length marks) (n : frames ≡ frames_marked (take i marks)) where
  abbrev mark : ℕ
  mark = get_or marks i 0

  counted_next : frames + frames_marked (mark ∷ []) ≡ frames_marked (take (i + 1) marks)
  counted_next = rw (next_marks marks i l, counted-append, n)

  pub line-can : CanPrintLine mark answers frames out (printed_size * i)
  line-can =
      record {
        answered = omega (arith, can.answered, counted_next, counted-all marks (i + 1) (omega arith));
        room = omega (arith, can.room);
      }

  pub next-printed : (frames' : ℕ) (out' : List ℕ) → take (printed_size * i) out ≡ printed (take i marks) answers → PrintsLine mark answers frames out (printed_size * i) frames' out'
      → (length out' ≡ length out₀) × (frames' ≡ frames_marked (take (i + 1) marks)) × (take (printed_size * (i + 1)) out' ≡ printed (take (i + 1) marks) answers)
  next-printed frames' out' p h =
      let at : ℕ = printed_size * i in
      let row : List ℕ = printed_line mark (drop (answer_place frames) answers) in
      let z : length row ≡ printed_size = line-length mark answers frames out at line-can in
      let a : take printed_size row ≡ row = take_all printed_size row (omega arith) in
      let e : printed_size * (i + 1) ≡ printed_size * i + printed_size = omega arith in
      let w : take (printed_size * i + printed_size) out' ≡ take at out ++ row = rw (h.text, take-paste out at row printed_size (omega (arith, line-can.room)) (omega arith), a) in
      let q : printed (take (i + 1) marks) answers ≡ printed (take i marks) answers ++ row =
      rw (next_marks marks i l, printed-append, printed-one, n) in
      (ap length h.text ∙ length-paste out at row printed_size (omega (arith, line-can.room)) (omega arith) ∙ s, h.counted ∙ counted_next, rw (e, w, p, q))

-- ---- before the first line

pub none-counted : (marks : List ℕ) → 0 ≡ frames_marked (take 0 marks)
unfolding frames_marked
none-counted marks = refl

pub none-printed : (marks answers out : List ℕ) → take (printed_size * 0) out ≡ printed (take 0 marks) answers
unfolding printed
none-printed marks answers out = refl

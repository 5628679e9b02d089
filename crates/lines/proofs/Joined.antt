-- The program piece by piece: what it writes for a piece, what it goes on with, and what it writes at the end of the input.
use mathlib.Core.Path.{◌≡◌, refl, sym, ap, ◌∙◌}
use mathlib.Core.Bool.{Bool, true, false, cond}
use mathlib.Core.List.{List, [], ◌∷◌, ◌++◌}
use Prim.Native.Nat.{ℕ, suc, ◌+◌, ◌<◌}
use native.Mathlib.Omega.{arith}
use lib.Dec.{eqb}
use lib.ListN.{length, drop}
use Rattle.meaning.specs.Limits.{frame_size}
use Rattle.meaning.specs.Table.{Table}
use Rattle.meaning.specs.Supply.{Supply}
use Rattle.meaning.specs.Frames.{to_bytes, encode}
use Rattle.meaning.specs.Serve.{refused, run}
use Rattle.meaning.specs.Batch.{calls_in, answer_bytes}
use Rattle.meaning.specs.Program.{Line, other, digit_byte, to_hex, lines_of, talk, write}
use Rattle.hexadecimal.specs.Text.{printed_answer}
use Rattle.lines.specs.Lines.{frame_mark, whole_lines, left_over, Keeps, marked_lines, frames_marked}
use Rattle.lines.specs.Printing.{printed_line, printed}
use Rattle.lines.specs.After.{after_lines, at_lines}
use Rattle.lines.proofs.Pieces.{lines-append, lines_end}
use Rattle.lines.proofs.Marks.{marked-frame, marked_other}
use Rattle.lines.proofs.Talking.{write-append, talk-append, talk-same, after_same, marked-talk, marked-after}

marked-length : (marks requests : List ℕ) → length (marked_lines marks requests) ≡ length marks
unfolding marked_lines
marked-length [] bs = refl
marked-length (m ∷ ms) bs = by (eqb m frame_mark) refl (marked-length ms (drop frame_size bs)) (marked-length ms bs)
  where
    by : (o : Bool) → eqb m frame_mark ≡ o → length (marked_lines ms (drop frame_size bs)) ≡ length ms → length (marked_lines ms bs) ≡ length ms → length (marked_lines (m ∷ ms) bs) ≡ suc (length ms)
    by true e p q = ap length (marked-frame m ms e bs) ∙ ap suc p
    by false e p q = ap length (marked_other m ms e bs) ∙ ap suc q

-- with so many nodes free at each line, and so many at each frame of the piece
module _ (line piece rest marks requests : List ℕ) (at free : ℕ → Supply) (t : Table) (agree : (n : ℕ) → n < length marks → at n ≡ at_lines marks free n) (read : marked_lines marks requests ≡ whole_lines line piece) where
  abbrev served : Table × List ℕ
  served = let r = run (calls_in (frames_marked marks) requests free) t in (r.0, answer_bytes r.1)

  pub piece-answered : write (talk (lines_of line (piece ++ rest)) at t) ≡ printed marks served.1 ++ write (talk (lines_of (left_over line piece) rest) (λ n. at (length marks + n)) served.0)
  piece-answered =
      let ls : List Line = marked_lines marks requests in
      let more : List Line = lines_of (left_over line piece) rest in
      let n : length ls ≡ length marks = marked-length marks requests in
      let h : (k : ℕ) → k < length ls → at k ≡ at_lines marks free k = λ k l. agree k (omega arith) in
      let split : lines_of line (piece ++ rest) ≡ ls ++ more = lines-append line piece rest ∙ ap (λ xs. xs ++ more) (sym read) in
      let first : write (talk ls at t) ≡ printed marks served.1 = ap write (talk-same ls at (at_lines marks free) t h) ∙ marked-talk marks requests free t in
      let left : after_lines ls at t ≡ served.0 = after_same ls at (at_lines marks free) t h ∙ marked-after marks requests free t in
      rw (split, talk-append ls more at t, write-append, first, left, n)

-- what is begun there is answered as no frame
pub end-answered : (bytes : List ℕ) (len : ℕ) (line : List ℕ) (at : ℕ → Supply) (t : Table) → Keeps bytes len line → write (talk (lines_of line []) at t) ≡ cond (eqb len 0) [] (printed (0 ∷ []) [])
unfolding talk write printed printed_line printed_answer refused encode to_bytes to_hex digit_byte
end-answered bytes len line at t k = rw (lines_end bytes len line k) (by (eqb len 0))
  where
    by : (o : Bool) → write (talk (cond o [] (other ∷ [])) at t) ≡ cond o [] (printed (0 ∷ []) [])
    by true = refl
    by false = refl

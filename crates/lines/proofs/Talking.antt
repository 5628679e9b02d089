-- What the program answers to marked lines is what is printed of the answers to their frames; lines in two parts.
use mathlib.Core.Path.{◌≡◌, refl, sym, ap, ◌∙◌}
use mathlib.Core.Bool.{Bool, true, false, cond}
use mathlib.Core.List.{List, [], ◌∷◌, ◌++◌, append_assoc}
use Prim.Native.Nat.{ℕ, suc, ◌+◌, ◌<◌}
use native.Mathlib.Omega.{arith}
use native.Mathlib.Nat.{zero-add, suc-add}
use lib.Dec.{eqb}
use lib.ListN.{length, take, drop}
use Rattle.meaning.specs.Limits.{frame_size, answer_size, not_a_frame_number}
use Rattle.meaning.specs.Table.{Table}
use Rattle.meaning.specs.Frames.{Answer, to_bytes, decode, encode}
use Rattle.meaning.specs.Supply.{Supply}
use Rattle.meaning.specs.Serve.{refused, serve, run}
use Rattle.meaning.specs.Batch.{calls_in, answer_bytes}
use Rattle.meaning.specs.Program.{Line, frame, other, line_feed, to_hex, talk, write}
use Rattle.hexadecimal.specs.Text.{printed_answer}
use Rattle.lines.specs.Lines.{frame_mark, marked_lines, frames_marked}
use Rattle.lines.specs.Printing.{printed}
use Rattle.lines.specs.After.{after_lines, at_lines}
use Rattle.lines.proofs.Marks.{marked-frame, marked_other, counted-frame, counted-other, printed-frame, printed-other}

-- ---- lines in two parts

pub write-append : (as' bs : List Answer) → write (as' ++ bs) ≡ write as' ++ write bs
unfolding write
write-append [] bs = refl
write-append (a ∷ as') bs = rw (write-append as' bs, append_assoc)

pub talk-append : (xs ys : List Line) (free : ℕ → Supply) (t : Table) → talk (xs ++ ys) free t ≡ talk xs free t ++ talk ys (λ n. free (length xs + n)) (after_lines xs free t)
unfolding talk after_lines
talk-append [] ys free t = simp zero-add
talk-append (frame f ∷ xs) ys free t = simp suc-add (ap {B = List Answer} (λ as'. (serve (free 0) f t).1 ∷ as') (talk-append xs ys (λ n. free (suc n)) (serve (free 0) f t).0))
talk-append (other ∷ xs) ys free t = simp suc-add (ap {B = List Answer} (λ as'. refused not_a_frame_number ∷ as') (talk-append xs ys (λ n. free (suc n)) t))

pub after-append : (xs ys : List Line) (free : ℕ → Supply) (t : Table) → after_lines (xs ++ ys) free t ≡ after_lines ys (λ n. free (length xs + n)) (after_lines xs free t)
unfolding after_lines
after-append [] ys free t = simp zero-add
after-append (frame f ∷ xs) ys free t = simp suc-add (after-append xs ys (λ n. free (suc n)) (serve (free 0) f t).0)
after-append (other ∷ xs) ys free t = simp suc-add (after-append xs ys (λ n. free (suc n)) t)

-- ---- marked lines

pub line-printed : (bytes more : List ℕ) → printed_answer bytes ++ more ≡ to_hex bytes ++ (line_feed ∷ more)
unfolding printed_answer
line-printed bytes more = append_assoc (to_hex bytes) (line_feed ∷ []) more

pub take-encoded : (a : Answer) (more : List ℕ) → take answer_size (encode a ++ more) ≡ encode a
unfolding encode to_bytes
take-encoded a more = refl

pub drop-encoded : (a : Answer) (more : List ℕ) → drop answer_size (encode a ++ more) ≡ more
unfolding encode to_bytes
drop-encoded a more = refl

at-frame : (m : ℕ) (ms : List ℕ) (free : ℕ → Supply) → eqb m frame_mark ≡ true → ◌≡◌ {A = ℕ → Supply} (λ n. at_lines (m ∷ ms) free (suc n)) (at_lines ms (λ n. free (suc n)))
unfolding at_lines frames_marked
at-frame m ms free e = ap {B = ℕ → Supply} (λ (o : Bool). λ n. free (cond o (suc (frames_marked (take n ms))) (frames_marked (take n ms)))) e

at_other : (m : ℕ) (ms : List ℕ) (free : ℕ → Supply) → eqb m frame_mark ≡ false → ◌≡◌ {A = ℕ → Supply} (λ n. at_lines (m ∷ ms) free (suc n)) (at_lines ms free)
unfolding at_lines frames_marked
at_other m ms free e = ap {B = ℕ → Supply} (λ (o : Bool). λ n. free (cond o (suc (frames_marked (take n ms))) (frames_marked (take n ms)))) e

at_first : (marks : List ℕ) (free : ℕ → Supply) → at_lines marks free 0 ≡ free 0
unfolding at_lines frames_marked
at_first marks free = refl

module _ (m : ℕ) (ms bs : List ℕ) (free : ℕ → Supply) (t : Table) where
  abbrev served : Table × Answer
  served = serve (free 0) (decode (take frame_size bs)) t

  abbrev later : List ℕ
  later = answer_bytes (run (calls_in (frames_marked ms) (drop frame_size bs) (λ n. free (suc n))) served.0).1

  talk-frame : eqb m frame_mark ≡ true → write (talk (marked_lines ms (drop frame_size bs)) (at_lines ms (λ n. free (suc n))) served.0) ≡ printed ms later
      → write (talk (marked_lines (m ∷ ms) bs) (at_lines (m ∷ ms) free) t) ≡ printed (m ∷ ms) (answer_bytes (run (calls_in (frames_marked (m ∷ ms)) bs free) t).1)
  unfolding write talk calls_in run answer_bytes
  talk-frame e p = rw (marked-frame m ms e bs, counted-frame m ms e, at_first, at-frame m ms free e, p, printed-frame m ms e, take-encoded, drop-encoded, line-printed)

  talk-other : eqb m frame_mark ≡ false → write (talk (marked_lines ms bs) (at_lines ms free) t) ≡ printed ms (answer_bytes (run (calls_in (frames_marked ms) bs free) t).1)
      → write (talk (marked_lines (m ∷ ms) bs) (at_lines (m ∷ ms) free) t) ≡ printed (m ∷ ms) (answer_bytes (run (calls_in (frames_marked (m ∷ ms)) bs free) t).1)
  unfolding write talk
  talk-other e p = rw (marked_other m ms e bs, counted-other m ms e, at_other m ms free e, p, printed-other m ms e, line-printed)

  after_frame : eqb m frame_mark ≡ true → after_lines (marked_lines ms (drop frame_size bs)) (at_lines ms (λ n. free (suc n))) served.0 ≡ (run (calls_in (frames_marked ms) (drop frame_size bs) (λ n. free (suc n))) served.0).0
      → after_lines (marked_lines (m ∷ ms) bs) (at_lines (m ∷ ms) free) t ≡ (run (calls_in (frames_marked (m ∷ ms)) bs free) t).0
  unfolding after_lines calls_in run at_lines frames_marked
  after_frame e p =
      ap (λ ls. after_lines ls (at_lines (m ∷ ms) free) t) (marked-frame m ms e bs)
      ∙ ap (λ (at : ℕ → Supply). after_lines (marked_lines ms (drop frame_size bs)) at served.0) (at-frame m ms free e)
      ∙ p
      ∙ sym (ap (λ k. (run (calls_in k bs free) t).0) (counted-frame m ms e))

  after-other : eqb m frame_mark ≡ false → after_lines (marked_lines ms bs) (at_lines ms free) t ≡ (run (calls_in (frames_marked ms) bs free) t).0
      → after_lines (marked_lines (m ∷ ms) bs) (at_lines (m ∷ ms) free) t ≡ (run (calls_in (frames_marked (m ∷ ms)) bs free) t).0
  unfolding after_lines
  after-other e p =
      ap (λ ls. after_lines ls (at_lines (m ∷ ms) free) t) (marked_other m ms e bs)
      ∙ ap (λ (at : ℕ → Supply). after_lines (marked_lines ms bs) at t) (at_other m ms free e)
      ∙ p
      ∙ sym (ap (λ k. (run (calls_in k bs free) t).0) (counted-other m ms e))

-- the program's answers, with so many nodes free at each frame
pub marked-talk : (marks requests : List ℕ) (free : ℕ → Supply) (t : Table)
    → write (talk (marked_lines marks requests) (at_lines marks free) t) ≡ printed marks (answer_bytes (run (calls_in (frames_marked marks) requests free) t).1)
unfolding write talk marked_lines frames_marked printed calls_in run answer_bytes
marked-talk [] bs free t = refl
marked-talk (m ∷ ms) bs free t = by (eqb m frame_mark) refl (marked-talk ms (drop frame_size bs) (λ n. free (suc n)) (served m ms bs free t).0) (marked-talk ms bs free t)
  where
    by : (o : Bool) → eqb m frame_mark ≡ o
        → write (talk (marked_lines ms (drop frame_size bs)) (at_lines ms (λ n. free (suc n))) (served m ms bs free t).0) ≡ printed ms (later m ms bs free t)
        → write (talk (marked_lines ms bs) (at_lines ms free) t) ≡ printed ms (answer_bytes (run (calls_in (frames_marked ms) bs free) t).1)
        → write (talk (marked_lines (m ∷ ms) bs) (at_lines (m ∷ ms) free) t) ≡ printed (m ∷ ms) (answer_bytes (run (calls_in (frames_marked (m ∷ ms)) bs free) t).1)
    by true e p q = talk-frame m ms bs free t e p
    by false e p q = talk-other m ms bs free t e q

-- the table that they leave
pub marked-after : (marks requests : List ℕ) (free : ℕ → Supply) (t : Table)
    → after_lines (marked_lines marks requests) (at_lines marks free) t ≡ (run (calls_in (frames_marked marks) requests free) t).0
unfolding after_lines marked_lines frames_marked calls_in run
marked-after [] bs free t = refl
marked-after (m ∷ ms) bs free t = by (eqb m frame_mark) refl (marked-after ms (drop frame_size bs) (λ n. free (suc n)) (served m ms bs free t).0) (marked-after ms bs free t)
  where
    by : (o : Bool) → eqb m frame_mark ≡ o
        → after_lines (marked_lines ms (drop frame_size bs)) (at_lines ms (λ n. free (suc n))) (served m ms bs free t).0 ≡ (run (calls_in (frames_marked ms) (drop frame_size bs) (λ n. free (suc n))) (served m ms bs free t).0).0
        → after_lines (marked_lines ms bs) (at_lines ms free) t ≡ (run (calls_in (frames_marked ms) bs free) t).0
        → after_lines (marked_lines (m ∷ ms) bs) (at_lines (m ∷ ms) free) t ≡ (run (calls_in (frames_marked (m ∷ ms)) bs free) t).0
    by true e p q = after_frame m ms bs free t e p
    by false e p q = after-other m ms bs free t e q

-- ---- what is free counts at the lines alone

pub talk-same : (ls : List Line) (f g : ℕ → Supply) (t : Table) → ((n : ℕ) → n < length ls → f n ≡ g n) → talk ls f t ≡ talk ls g t
unfolding talk
talk-same [] f g t h = refl
talk-same (frame x ∷ ls) f g t h =
    rw (h 0 (omega arith), talk-same ls (λ n. f (suc n)) (λ n. g (suc n)) (serve (g 0) x t).0 (λ n l. h (suc n) (omega arith)))
talk-same (other ∷ ls) f g t h = rw (talk-same ls (λ n. f (suc n)) (λ n. g (suc n)) t (λ n l. h (suc n) (omega arith)))

pub after_same : (ls : List Line) (f g : ℕ → Supply) (t : Table) → ((n : ℕ) → n < length ls → f n ≡ g n) → after_lines ls f t ≡ after_lines ls g t
unfolding after_lines
after_same [] f g t h = refl
after_same (frame x ∷ ls) f g t h =
    ap (λ s. after_lines ls (λ n. f (suc n)) (serve s x t).0) (h 0 (omega arith))
    ∙ after_same ls (λ n. f (suc n)) (λ n. g (suc n)) (serve (g 0) x t).0 (λ n l. h (suc n) (omega arith))
after_same (other ∷ ls) f g t h = after_same ls (λ n. f (suc n)) (λ n. g (suc n)) t (λ n l. h (suc n) (omega arith))

-- Marked lines and what is printed of them: one mark, marks in two parts, the bytes that marks look at.
use mathlib.Core.Path.{◌≡◌, refl, sym, ap, ◌∙◌}
use mathlib.Core.Bool.{Bool, true, false, cond}
use mathlib.Core.List.{List, [], ◌∷◌, ◌++◌, append_assoc}
use Prim.Native.Nat.{ℕ, zero, suc, ◌+◌, ◌*◌}
use native.Mathlib.Nat.{zero-add, suc-add, mul-suc}
use native.Mathlib.Omega.{arith}
use lib.Dec.{eqb}
use lib.ListN.{take, drop}
use lib.Seq.{take-take, take-nil, drop-drop}
use Rattle.meaning.specs.Limits.{frame_size, answer_size, not_a_frame_number}
use Rattle.meaning.specs.Frames.{decode, encode}
use Rattle.meaning.specs.Serve.{refused}
use Rattle.meaning.specs.Supply.{Supply}
use Rattle.meaning.specs.Batch.{calls_in}
use Rattle.meaning.specs.Program.{Line, frame, other}
use Rattle.hexadecimal.specs.Text.{printed_answer}
use Rattle.lines.specs.Lines.{frame_mark, marked_lines, frames_marked}
use Rattle.lines.specs.Printing.{printed_line, printed}

-- ---- one mark

module _ (m : ℕ) (ms : List ℕ) (e : eqb m frame_mark ≡ true) where
  pub marked-frame : (bs : List ℕ) → marked_lines (m ∷ ms) bs ≡ frame (decode (take frame_size bs)) ∷ marked_lines ms (drop frame_size bs)
  unfolding marked_lines
  marked-frame bs = rw e

  pub counted-frame : frames_marked (m ∷ ms) ≡ suc (frames_marked ms)
  unfolding frames_marked
  counted-frame = rw e

  pub printed-frame : (bs : List ℕ) → printed (m ∷ ms) bs ≡ printed_answer (take answer_size bs) ++ printed ms (drop answer_size bs)
  unfolding printed printed_line
  printed-frame bs = rw e

module _ (m : ℕ) (ms : List ℕ) (e : eqb m frame_mark ≡ false) where
  pub marked_other : (bs : List ℕ) → marked_lines (m ∷ ms) bs ≡ other ∷ marked_lines ms bs
  unfolding marked_lines
  marked_other bs = rw e

  pub counted-other : frames_marked (m ∷ ms) ≡ frames_marked ms
  unfolding frames_marked
  counted-other = rw e

  pub printed-other : (bs : List ℕ) → printed (m ∷ ms) bs ≡ printed_answer (encode (refused not_a_frame_number)) ++ printed ms bs
  unfolding printed printed_line
  printed-other bs = rw e

-- ---- marks in two parts

times-suc : (size n : ℕ) → size * suc n ≡ size + size * n
times-suc size n = let e : size * suc n ≡ size * n + size = mul-suc size n in omega arith

drop-next : (size n : ℕ) (bs : List ℕ) → drop (size * n) (drop size bs) ≡ drop (size * suc n) bs
drop-next size n bs = drop-drop (size * n) size bs ∙ ap (λ k. drop k bs) (sym (times-suc size n))

pub counted-append : (xs ys : List ℕ) → frames_marked (xs ++ ys) ≡ frames_marked xs + frames_marked ys
unfolding frames_marked
counted-append [] ys = sym (zero-add _)
counted-append (m ∷ xs) ys = by (eqb m frame_mark) (counted-append xs ys)
  where
    by : (o : Bool) → frames_marked (xs ++ ys) ≡ frames_marked xs + frames_marked ys
        → cond o (suc (frames_marked (xs ++ ys))) (frames_marked (xs ++ ys)) ≡ cond o (suc (frames_marked xs)) (frames_marked xs) + frames_marked ys
    by true p = omega arith
    by false p = p

pub marked_append : (xs ys bs : List ℕ) → marked_lines (xs ++ ys) bs ≡ marked_lines xs bs ++ marked_lines ys (drop (frame_size * frames_marked xs) bs)
unfolding marked_lines frames_marked
marked_append [] ys bs = refl
marked_append (m ∷ xs) ys bs = by (eqb m frame_mark) (marked_append xs ys (drop frame_size bs)) (marked_append xs ys bs)
  where
    by : (o : Bool) → marked_lines (xs ++ ys) (drop frame_size bs) ≡ marked_lines xs (drop frame_size bs) ++ marked_lines ys (drop (frame_size * frames_marked xs) (drop frame_size bs))
        → marked_lines (xs ++ ys) bs ≡ marked_lines xs bs ++ marked_lines ys (drop (frame_size * frames_marked xs) bs)
        → cond o (frame (decode (take frame_size bs)) ∷ marked_lines (xs ++ ys) (drop frame_size bs)) (other ∷ marked_lines (xs ++ ys) bs)
        ≡ cond o (frame (decode (take frame_size bs)) ∷ marked_lines xs (drop frame_size bs)) (other ∷ marked_lines xs bs) ++ marked_lines ys (drop (frame_size * cond o (suc (frames_marked xs)) (frames_marked xs)) bs)
    by true p q = rw (p, drop-next frame_size (frames_marked xs) bs)
    by false p q = rw q

pub printed-append : (xs ys bs : List ℕ) → printed (xs ++ ys) bs ≡ printed xs bs ++ printed ys (drop (answer_size * frames_marked xs) bs)
unfolding printed frames_marked
printed-append [] ys bs = refl
printed-append (m ∷ xs) ys bs = by (eqb m frame_mark) (printed-append xs ys (drop answer_size bs)) (printed-append xs ys bs)
  where
    by : (o : Bool) → printed (xs ++ ys) (drop answer_size bs) ≡ printed xs (drop answer_size bs) ++ printed ys (drop (answer_size * frames_marked xs) (drop answer_size bs))
        → printed (xs ++ ys) bs ≡ printed xs bs ++ printed ys (drop (answer_size * frames_marked xs) bs)
        → printed_line m bs ++ printed (xs ++ ys) (cond o (drop answer_size bs) bs)
        ≡ printed_line m bs ++ printed xs (cond o (drop answer_size bs) bs) ++ printed ys (drop (answer_size * cond o (suc (frames_marked xs)) (frames_marked xs)) bs)
    by true p q = rw (p, drop-next answer_size (frames_marked xs) bs, append_assoc)
    by false p q = rw (q, append_assoc)

-- ---- the bytes that marks look at

take_next : (size n : ℕ) (bs : List ℕ) → drop size (take (size + n) bs) ≡ take n (drop size bs)
take_next zero n bs = rw zero-add
take_next (suc size) n [] = rw suc-add (sym (take-nil n))
take_next (suc size) n (b ∷ bs) = rw suc-add (take_next size n bs)

module _ (size n : ℕ) (bs : List ℕ) where
  take-first : take size (take (size * suc n) bs) ≡ take size bs
  take-first = take-take size (size * suc n) bs (omega (arith, times-suc size n))

  take-later : drop size (take (size * suc n) bs) ≡ take (size * n) (drop size bs)
  take-later = rw times-suc (take_next size (size * n) bs)

pub marked-front : (ms bs : List ℕ) → marked_lines ms (take (frame_size * frames_marked ms) bs) ≡ marked_lines ms bs
unfolding marked_lines frames_marked
marked-front [] bs = refl
marked-front (m ∷ ms) bs = by (eqb m frame_mark) (marked-front ms (drop frame_size bs)) (marked-front ms bs)
  where
    marked : Bool → List ℕ → List Line
    marked o cs = cond o (frame (decode (take frame_size cs)) ∷ marked_lines ms (drop frame_size cs)) (other ∷ marked_lines ms cs)

    by : (o : Bool) → marked_lines ms (take (frame_size * frames_marked ms) (drop frame_size bs)) ≡ marked_lines ms (drop frame_size bs)
        → marked_lines ms (take (frame_size * frames_marked ms) bs) ≡ marked_lines ms bs
        → marked o (take (frame_size * cond o (suc (frames_marked ms)) (frames_marked ms)) bs) ≡ marked o bs
    by true p q = rw (take-first frame_size (frames_marked ms) bs, take-later frame_size (frames_marked ms) bs, p)
    by false p q = rw q

pub marked-same : (ms bs cs : List ℕ) → take (frame_size * frames_marked ms) bs ≡ take (frame_size * frames_marked ms) cs → marked_lines ms bs ≡ marked_lines ms cs
marked-same ms bs cs e = sym (marked-front ms bs) ∙ ap (λ ds. marked_lines ms ds) e ∙ marked-front ms cs

pub printed-front : (ms bs : List ℕ) → printed ms (take (answer_size * frames_marked ms) bs) ≡ printed ms bs
unfolding printed printed_line frames_marked
printed-front [] bs = refl
printed-front (m ∷ ms) bs = by (eqb m frame_mark) (printed-front ms (drop answer_size bs)) (printed-front ms bs)
  where
    shown : Bool → List ℕ → List ℕ
    shown o cs = printed_answer (cond o (take answer_size cs) (encode (refused not_a_frame_number))) ++ printed ms (cond o (drop answer_size cs) cs)

    by : (o : Bool) → printed ms (take (answer_size * frames_marked ms) (drop answer_size bs)) ≡ printed ms (drop answer_size bs)
        → printed ms (take (answer_size * frames_marked ms) bs) ≡ printed ms bs
        → shown o (take (answer_size * cond o (suc (frames_marked ms)) (frames_marked ms)) bs) ≡ shown o bs
    by true p q = rw (take-first answer_size (frames_marked ms) bs, take-later answer_size (frames_marked ms) bs, p)
    by false p q = rw q

pub calls-front : (k : ℕ) (bs : List ℕ) (free : ℕ → Supply) → calls_in k (take (frame_size * k) bs) free ≡ calls_in k bs free
unfolding calls_in
calls-front zero bs free = refl
calls-front (suc k) bs free = rw (take-first frame_size k bs, take-later frame_size k bs, calls-front k (drop frame_size bs) (λ n. free (suc n)))

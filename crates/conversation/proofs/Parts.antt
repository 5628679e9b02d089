-- Lines in two parts, so an input by its pieces; the end of the input.
use mathlib.Core.Path.{◌≡◌, refl, ap, ◌∙◌}
use mathlib.Core.Bool.{Bool, true, false, cond}
use mathlib.Core.List.{List, [], ◌∷◌, ◌++◌}
use Prim.Native.Nat.{ℕ}
use lib.Dec.{eqb}
use Rattle.meaning.specs.Limits.{not_a_frame_number}
use Rattle.meaning.specs.Frames.{Answer}
use Rattle.meaning.specs.Serve.{refused}
use Rattle.meaning.specs.Program.{Line, frame, other, lines_of, write}
use Rattle.frames.specs.Run.{Run}
use Rattle.frames.specs.Serve.{serve}
use Rattle.lines.specs.Lines.{whole_lines, left_over, Keeps}
use Rattle.lines.proofs.Pieces.{lines-append, lines_end}
use Rattle.lines.proofs.Talking.{write-append}
use Rattle.conversation.specs.Conversing.{talk_on}

-- ---- lines in two parts

pub state-append : (r : Run) (xs ys : List Line) → (talk_on r (xs ++ ys)).0 ≡ (talk_on (talk_on r xs).0 ys).0
unfolding talk_on
state-append r [] ys = refl
state-append r (frame f ∷ xs) ys = state-append (serve r f).0 xs ys
state-append r (other ∷ xs) ys = state-append r xs ys

pub answers-append : (r : Run) (xs ys : List Line) → (talk_on r (xs ++ ys)).1 ≡ (talk_on r xs).1 ++ (talk_on (talk_on r xs).0 ys).1
unfolding talk_on
answers-append r [] ys = refl
answers-append r (frame f ∷ xs) ys = ap {B = List Answer} (λ as'. (serve r f).1 ∷ as') (answers-append (serve r f).0 xs ys)
answers-append r (other ∷ xs) ys = ap {B = List Answer} (λ as'. refused not_a_frame_number ∷ as') (answers-append r xs ys)

-- ---- a piece and what follows it

module _ (r : Run) (line piece rest : List ℕ) where
  abbrev whole : List Line
  whole = whole_lines line piece

  abbrev later : List Line
  later = lines_of (left_over line piece) rest

  pub talk-pieces : (talk_on r (lines_of line (piece ++ rest))).1 ≡ (talk_on r whole).1 ++ (talk_on (talk_on r whole).0 later).1
  talk-pieces = ap (λ ls. (talk_on r ls).1) (lines-append line piece rest) ∙ answers-append r whole later

  pub state-pieces : (talk_on r (lines_of line (piece ++ rest))).0 ≡ (talk_on (talk_on r whole).0 later).0
  state-pieces = ap (λ ls. (talk_on r ls).0) (lines-append line piece rest) ∙ state-append r whole later

  pub text-pieces : write (talk_on r (lines_of line (piece ++ rest))).1 ≡ write (talk_on r whole).1 ++ write (talk_on (talk_on r whole).0 later).1
  text-pieces = ap write talk-pieces ∙ write-append (talk_on r whole).1 (talk_on (talk_on r whole).0 later).1

-- ---- the end of the input

-- what is begun there is answered 14, unless nothing is
pub talk-end : (r : Run) (bytes : List ℕ) (len : ℕ) (line : List ℕ) → Keeps bytes len line → (talk_on r (lines_of line [])).1 ≡ cond (eqb len 0) [] (refused not_a_frame_number ∷ [])
unfolding talk_on
talk-end r bytes len line k = rw (lines_end bytes len line k) (by (eqb len 0))
  where
    by : (o : Bool) → (talk_on r (cond o [] (other ∷ []))).1 ≡ cond o [] (refused not_a_frame_number ∷ [])
    by true = refl
    by false = refl

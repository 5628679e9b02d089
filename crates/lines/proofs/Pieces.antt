-- Lines by pieces: a piece in two parts, a piece and what follows it, the end of the input.
use mathlib.Core.Path.{◌≡◌, refl, ap, ◌∙◌}
use mathlib.Core.Logic.{◌≢◌}
use mathlib.Core.Bool.{Bool, true, false, cond}
use mathlib.Core.List.{List, [], ◌∷◌, ◌++◌}
use Prim.Native.Nat.{ℕ}
use native.Mathlib.Omega.{arith}
use lib.Dec.{eqb}
use borrow.Author.Tests.{eq-eqb, ne_eqb}
use Rattle.meaning.specs.Program.{Line, other, line_feed, read_line, lines_of}
use Rattle.lines.specs.Lines.{whole_lines, left_over, Keeps}

-- ---- a piece in two parts

pub whole_append : (line xs ys : List ℕ) → whole_lines line (xs ++ ys) ≡ whole_lines line xs ++ whole_lines (left_over line xs) ys
unfolding whole_lines left_over
whole_append line [] ys = refl
whole_append line (b ∷ xs) ys = by (eqb b line_feed) (whole_append [] xs ys) (whole_append (line ++ (b ∷ [])) xs ys)
  where
    more : List ℕ
    more = line ++ (b ∷ [])

    by : (o : Bool) → whole_lines [] (xs ++ ys) ≡ whole_lines [] xs ++ whole_lines (left_over [] xs) ys
        → whole_lines more (xs ++ ys) ≡ whole_lines more xs ++ whole_lines (left_over more xs) ys
        → cond o (read_line line ∷ whole_lines [] (xs ++ ys)) (whole_lines more (xs ++ ys))
        ≡ cond o (read_line line ∷ whole_lines [] xs) (whole_lines more xs) ++ whole_lines (cond o (left_over [] xs) (left_over more xs)) ys
    by true p q = ap {B = List Line} (λ ls. read_line line ∷ ls) p
    by false p q = q

pub left-append : (line xs ys : List ℕ) → left_over line (xs ++ ys) ≡ left_over (left_over line xs) ys
unfolding left_over
left-append line [] ys = refl
left-append line (b ∷ xs) ys = by (eqb b line_feed) (left-append [] xs ys) (left-append (line ++ (b ∷ [])) xs ys)
  where
    more : List ℕ
    more = line ++ (b ∷ [])

    by : (o : Bool) → left_over [] (xs ++ ys) ≡ left_over (left_over [] xs) ys → left_over more (xs ++ ys) ≡ left_over (left_over more xs) ys
        → cond o (left_over [] (xs ++ ys)) (left_over more (xs ++ ys)) ≡ left_over (cond o (left_over [] xs) (left_over more xs)) ys
    by true p q = p
    by false p q = q

-- ---- a piece and what follows it

lines_cons : (line : List ℕ) (b : ℕ) (bs : List ℕ) → lines_of line (b ∷ bs) ≡ elim (eqb b line_feed) [ true ↦ read_line line ∷ lines_of [] bs | false ↦ lines_of (line ++ (b ∷ [])) bs ]
unfolding lines_of
lines_cons [] b bs = refl
lines_cons (x ∷ line) b bs = refl

pub lines-append : (line piece rest : List ℕ) → lines_of line (piece ++ rest) ≡ whole_lines line piece ++ lines_of (left_over line piece) rest
unfolding whole_lines left_over
lines-append line [] rest = refl
lines-append line (b ∷ bs) rest = lines_cons line b (bs ++ rest) ∙ by (eqb b line_feed) (lines-append [] bs rest) (lines-append (line ++ (b ∷ [])) bs rest)
  where
    more : List ℕ
    more = line ++ (b ∷ [])

    by : (o : Bool) → lines_of [] (bs ++ rest) ≡ whole_lines [] bs ++ lines_of (left_over [] bs) rest
        → lines_of more (bs ++ rest) ≡ whole_lines more bs ++ lines_of (left_over more bs) rest
        → elim o [ true ↦ read_line line ∷ lines_of [] (bs ++ rest) | false ↦ lines_of more (bs ++ rest) ]
        ≡ cond o (read_line line ∷ whole_lines [] bs) (whole_lines more bs) ++ lines_of (cond o (left_over [] bs) (left_over more bs)) rest
    by true p q = ap {B = List Line} (λ ls. read_line line ∷ ls) p
    by false p q = q

-- ---- the end of the input

-- what is begun there is no frame, unless nothing is
pub lines_end : (bytes : List ℕ) (len : ℕ) (line : List ℕ) → Keeps bytes len line → lines_of line [] ≡ cond (eqb len 0) [] (other ∷ [])
unfolding lines_of
lines_end bytes len [] k = let e : len ≡ 0 = omega (arith, k.size) in rw (eq-eqb len 0 e)
lines_end bytes len (b ∷ line) k = let n : len ≢ 0 = λ e. omega (arith, k.size) in rw (ne_eqb len 0 n)

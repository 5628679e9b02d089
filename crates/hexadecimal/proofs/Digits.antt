-- Digits one by one and in a row, and what a turn of the loops over them does.
use mathlib.Core.Path.{◌≡◌, refl, sym}
use mathlib.Core.Bool.{Bool, true, false, ◌&&◌, and-true, and_assoc}
use mathlib.Core.List.{List, [], ◌∷◌, ◌++◌}
use Prim.Native.Nat.{ℕ, zero, suc, ◌+◌, ◌<◌}
use native.Mathlib.Nat.{lt_irrefl}
use native.Mathlib.Numerals.{add-one}
use native.Mathlib.Omega.{arith}
use lib.Dec.{eqb}
use lib.ListN.{length, get_or, take}
use lib.Seq.{take-suc}
use Rattle.std.proofs.lemmas.Bool.Decides.{nat_tests}
use Rattle.meaning.specs.Program.{line_feed, is_digit, all_digits}
use Rattle.meaning.proofs.Booleans.{both_true}

-- ---- one digit

pub digit-feed : (b : ℕ) → is_digit b ≡ true → eqb b line_feed ≡ false
unfolding is_digit
digit-feed b e = grind (arith, nat_tests)

-- ---- digits in a row

all_append : (xs : List ℕ) (b : ℕ) → all_digits (xs ++ (b ∷ [])) ≡ (all_digits xs && is_digit b)
unfolding all_digits
all_append [] b = and-true (is_digit b)
all_append (x ∷ xs) b = rw (all_append xs b) (sym (and_assoc (is_digit x) (all_digits xs) (is_digit b)))

pub all_start : (text : List ℕ) → true ≡ all_digits (take 0 text)
unfolding all_digits
all_start text = refl

pub all-next : (text : List ℕ) (i : ℕ) (all digit : Bool) → i < length text → all ≡ all_digits (take i text) → digit ≡ is_digit (get_or text i 0) → (all && digit) ≡ all_digits (take (i + 1) text)
all-next text i all digit l p q = rw (p, q, add-one, take-suc text i 0 l) (sym (all_append (take i text) (get_or text i 0)))

pub all_cons : (b : ℕ) (bs : List ℕ) → all_digits (b ∷ bs) ≡ true → (is_digit b ≡ true) × (all_digits bs ≡ true)
unfolding all_digits
all_cons b bs e = both_true (is_digit b) (all_digits bs) e

pub all-at : (text : List ℕ) (i : ℕ) → all_digits text ≡ true → i < length text → is_digit (get_or text i 0) ≡ true
all-at [] i e l = absurd (lt_irrefl 0 (omega arith))
all-at (b ∷ bs) zero e l = (all_cons b bs e).0
all-at (b ∷ bs) (suc i) e l = all-at bs i (all_cons b bs e).1 (omega arith)

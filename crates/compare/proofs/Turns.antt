-- The order of two lists, from one place on.
use mathlib.Core.Path.{◌≡◌}
use mathlib.Core.Logic.{◌≢◌}
use mathlib.Core.List.{List}
use Prim.Native.Nat.{ℕ, suc, ◌≤◌, ◌<◌, min}
use native.Mathlib.Omega.{arith}
use native.Mathlib.Decide.{dec_lt}
use lib.ListN.{length, get_or, drop, drop_of_length-le}
use lib.Seq.{drop-cons}
use Rattle.std.specs.Ordering.{nat_cmp}
use Rattle.std.proofs.lemmas.Bool.Decides.{nat_tests}
use Rattle.meaning.specs.Effects.{order}
use Rattle.compare.specs.Compare.{ordering_of}

module _ (xs ys : List ℕ) (i : ℕ) (hx : i < length xs) (hy : i < length ys) where
  pub order-decided : get_or xs i 0 ≢ get_or ys i 0 → ordering_of (order (drop i xs) (drop i ys)) ≡ nat_cmp (get_or xs i 0) (get_or ys i 0)
  unfolding order
  order-decided f = rw (drop-cons xs i 0 hx, drop-cons ys i 0 hy) (grind (arith, nat_tests))

  pub order-goes-on : get_or xs i 0 ≡ get_or ys i 0 → order (drop i xs) (drop i ys) ≡ order (drop (suc i) xs) (drop (suc i) ys)
  unfolding order
  order-goes-on e = rw (drop-cons xs i 0 hx, drop-cons ys i 0 hy) (grind (arith, nat_tests))

-- where one list has ended, the lengths decide
pub order-ends : (xs ys : List ℕ) (i : ℕ) → i ≡ min (length xs) (length ys) → ordering_of (order (drop i xs) (drop i ys)) ≡ nat_cmp (length xs) (length ys)
unfolding order
order-ends xs ys i e = pick (dec_lt (length xs) (length ys)) (dec_lt (length ys) (length xs))
  where
    pick : Dec (length xs < length ys) → Dec (length ys < length xs) → ordering_of (order (drop i xs) (drop i ys)) ≡ nat_cmp (length xs) (length ys)
    pick (yes l) d =
        let h : length xs ≤ i = omega arith in
        let k : i < length ys = omega arith in
        rw (drop_of_length-le xs h, drop-cons ys i 0 k) (grind (arith, nat_tests))
    pick (no f) (yes l) =
        let h : length ys ≤ i = omega arith in
        let k : i < length xs = omega arith in
        rw (drop_of_length-le ys h, drop-cons xs i 0 k) (grind (arith, nat_tests))
    pick (no f) (no g) =
        let h : length xs ≤ i = omega arith in
        let k : length ys ≤ i = omega arith in
        rw (drop_of_length-le xs h, drop_of_length-le ys k) (grind (arith, nat_tests))

-- The order filled from its start: one turn, and the end.
use mathlib.Core.Path.{◌≡◌, sym, ap, ◌∙◌}
use mathlib.Core.List.{List, ◌++◌, append-nil}
use Prim.Native.Nat.{ℕ, suc, ◌+◌, ◌-◌, ◌≤◌, ◌<◌}
use native.Mathlib.Numerals.{add-one}
use native.Mathlib.Omega.{arith}
use lib.ListN.{length, take, set, length-set}
use lib.Seq.{take_all, take-suc-set, append_snoc}
use Rattle.meaning.specs.Fresh.{down_from}

-- the first i stand as in the order of n, and what is left of it goes behind them
pub record Ordered (n i : ℕ) (xs : List ℕ) : Type 0 where
  pub inside : i ≤ n
  pub length : length xs ≡ n
  pub filled : take i xs ++ down_from (n - i) ≡ down_from n

module _ (n : ℕ) (xs : List ℕ) where
  pub order-starts : length xs ≡ n → Ordered n 0 xs
  order-starts e = record { inside = omega arith; length = e; filled = ap down_from (omega arith) }

  pub order-turn : (i : ℕ) → Ordered n i xs → i < n → Ordered n (i + 1) (set xs i (n - (i + 1)))
  unfolding down_from
  order-turn i o l =
      let left : n - i ≡ suc (n - (i + 1)) = omega arith in
      record {
        inside = omega arith;
        length = length-set xs i (n - (i + 1)) ∙ o.length;
        filled =
            rw (add-one i, take-suc-set xs i (n - suc i) (rw o.length l), append_snoc (take i xs) (n - suc i) (down_from (n - suc i)))
            (rw (left, add-one i) at o.filled);
      }

  pub order-ends : (i : ℕ) → Ordered n i xs → n ≤ i → xs ≡ down_from n
  unfolding down_from
  order-ends i o l =
      let e : n - i ≡ 0 = omega arith in
      sym (take_all i xs (rw o.length l)) ∙ sym (append-nil (take i xs)) ∙ (rw e at o.filled)

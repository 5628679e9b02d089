-- A free order with each free node once, and nothing else, is a stock of all of them.
use mathlib.Core.Path.{◌≡◌, refl, sym, ◌∙◌}
use mathlib.Core.List.{List, [], ◌∷◌}
use Prim.Native.Nat.{ℕ, zero, suc, ◌-◌, ◌≤◌, ◌<◌}
use native.Mathlib.Decide.{dec_lt}
use native.Mathlib.Nat.{lt_irrefl}
use native.Mathlib.Omega.{arith}
use lib.ListN.{length, get_or, take}
use lib.Seq.{length-take-le, get_or-take}
use borrow.Author.Tests.{eq-eqb}
use Rattle.meaning.specs.Limits.{free_kind}
use Rattle.meaning.specs.Counting.{bit, occurrences}
use Rattle.meaning.specs.Lent.{kind_of, is_free}
use Rattle.meaning.proofs.Nodes.{bit-free}
use Rattle.meaning.proofs.Sums.{bit_le, occurs-at}
use Rattle.store.specs.Store.{Store, node_count}
use Rattle.store.specs.Ready.{Sized}
use Rattle.trees.specs.Stock.{waiting, Stock}

occurs-twice : (xs : List ℕ) (i j : ℕ) → i < j → j < length xs → get_or xs i 0 ≡ get_or xs j 0 → 2 ≤ occurrences (get_or xs i 0) xs
unfolding occurrences
occurs-twice [] i j l m e = absurd (lt_irrefl zero (omega arith))
occurs-twice (x ∷ xs) i zero l m e = absurd (lt_irrefl zero (omega arith))
occurs-twice (x ∷ xs) zero (suc j) l m e =
    let later : 1 ≤ occurrences x xs = rw (sym e) at (occurs-at xs j (omega arith)) in
    rw (eq-eqb x x refl) (omega arith)
occurs-twice (x ∷ xs) (suc i) (suc j) l m e = omega (arith, occurs-twice xs i j (omega arith) (omega arith) e)

pub order-stocks : (s : Store) → Sized s → s.free ≤ length s.order → ((n : ℕ) → occurrences n (take s.free s.order) ≡ bit (is_free s.nodes n))
    → Stock s s.free
unfolding waiting
order-stocks s z within once = record {
  sizes = z;
  enough = omega arith;
  within = within;
  node = λ j l. (free j l).0;
  kind = λ j l. (free j l).1;
  apart = λ i j l m e. pick i j l m e (dec_lt i j) (dec_lt j i);
}
  where
    firsts : List ℕ
    firsts = take s.free s.order

    long : length firsts ≡ s.free
    long = length-take-le s.free s.order within

    at : (j : ℕ) → j < s.free → get_or firsts (s.free - suc j) 0 ≡ waiting s j
    at j l = get_or-take s.free s.order (s.free - suc j) 0 (omega arith)

    free : (j : ℕ) → j < s.free → (waiting s j < node_count s) × (kind_of s.nodes (waiting s j) ≡ free_kind)
    free j l =
        let there : 1 ≤ occurrences (waiting s j) firsts = rw (at j l) at (occurs-at firsts (s.free - suc j) (omega (arith, long))) in
        bit-free s.nodes (waiting s j) (omega (arith, once (waiting s j)))

    never : (i j : ℕ) → i < s.free → j < s.free → waiting s i ≡ waiting s j → j < i → ⊥
    never i j l m e k =
        let same : get_or firsts (s.free - suc i) 0 ≡ get_or firsts (s.free - suc j) 0 = at i l ∙ e ∙ sym (at j m) in
        let twice = occurs-twice firsts (s.free - suc i) (s.free - suc j) (omega arith) (omega (arith, long)) same in
        let node : ℕ = get_or firsts (s.free - suc i) 0 in
        lt_irrefl zero (omega (arith, once node, bit_le (is_free s.nodes node)))

    pick : (i j : ℕ) → i < s.free → j < s.free → waiting s i ≡ waiting s j → Dec (i < j) → Dec (j < i) → i ≡ j
    pick i j l m e (yes k) d = absurd (never j i m l (sym e) k)
    pick i j l m e (no f) (yes k) = absurd (never i j l m e k)
    pick i j l m e (no f) (no g) = omega arith

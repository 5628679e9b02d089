-- A step at one level, and levels that have finished together.
use mathlib.Core.Path.{◌≡◌, refl}
use mathlib.Core.Bool.{Bool, true, false}
use mathlib.Core.List.{List, ◌∷◌}
use Prim.Native.Nat.{ℕ, suc, ◌+◌, ◌-◌, ◌≤◌, ◌<◌}
use native.Mathlib.Omega.{arith}
use lib.ListN.{get_or}
use lib.IntN.{pos}
use borrow.Author.Tests.{lt-ltb, le-ltb, le-leb, lt-leb}
use Rattle.meaning.specs.Limits.{node_cells}
use Rattle.meaning.specs.Lent.{Level}
use Rattle.index.specs.Index.{first, advanced, finished}
use Rattle.walk_laws.specs.Stack.{moves, digging, emptied, renewing, advancing}
use Rattle.walk_laws.proofs.Ways.{at}

-- ---- indices

up : (j : ℕ) → j < node_cells → advanced false (pos j) ≡ pos (j + 1)
unfolding advanced
up j l = rw (lt-ltb j node_cells l)

down : (j : ℕ) → advanced true (pos (suc j)) ≡ pos j
unfolding advanced
down j =
    let e : suc j - 1 ≡ j = omega arith in
    rw (le-ltb (suc j) 0 (omega arith), le-ltb (suc j) 1 (omega arith), e)

pub first-last : (u : ℕ) → first true (suc u) ≡ pos u
unfolding first
first-last u =
    let e : suc u - 1 ≡ u = omega arith in
    rw (le-ltb (suc u) 1 (omega arith), e)

-- ---- stacks

module _ (cs us : List ℕ) where
  pub renewing-twice : (b : Bool) (k : ℕ) (st : List Level) (t : Bool) → renewing cs us b k (renewing cs us b 1 (moves st t)) ≡ renewing cs us b (suc k) (moves st t)
  unfolding renewing digging emptied
  renewing-twice b k st true = refl
  renewing-twice b k st false = refl

  pub fore-on : (n j : ℕ) (acc : List Level) → get_or us n 0 ≤ node_cells → j + 1 < get_or us n 0 → advancing cs us false (at n j ∷ acc) ≡ moves (at n (j + 1) ∷ acc) true
  unfolding advancing finished
  fore-on n j acc few l = rw (up j (omega arith), lt-leb (get_or us n 0) (j + 1) l)

  pub fore-end : (n j : ℕ) (acc : List Level) → get_or us n 0 ≤ node_cells → j + 1 ≡ get_or us n 0
      → advancing cs us false (at n j ∷ acc) ≡ renewing cs us false 1 (advancing cs us false acc)
  unfolding advancing finished
  fore-end n j acc few l = rw (up j (omega arith), le-leb (get_or us n 0) (j + 1) (omega arith))

  pub back_on : (n j : ℕ) (acc : List Level) → advancing cs us true (at n (suc j) ∷ acc) ≡ moves (at n j ∷ acc) true
  unfolding advancing finished
  back_on n j acc = rw (down j, le-ltb j 0 (omega arith))

  pub back_end : (n : ℕ) (acc : List Level) → advancing cs us true (at n 0 ∷ acc) ≡ renewing cs us true 1 (advancing cs us true acc)
  unfolding advancing finished advanced
  back_end n acc = refl

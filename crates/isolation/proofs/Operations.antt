-- An operation and its number, both ways.
use mathlib.Core.Path.{◌≡◌, sym, ap, ◌∙◌}
use mathlib.Core.Bool.{Bool, true, false, ◌&&◌}
use Prim.Native.Nat.{ℕ, zero, suc, ◌<◌}
use native.Mathlib.Nat.{lt_irrefl}
use native.Mathlib.Decide.{dec_lt}
use native.Mathlib.Omega.{arith}
use lib.Dec.{T, eqb, eqb→eq}
use lib.ListN.{get_or, get_or-eq_default}
use Rattle.meaning.specs.Limits.{new_code, clone_code, release_code, len_code, get_code, set_code, push_back_code, drop_last_code, open_walk_code, next_code, next_back_code, close_walk_code, hand_over_code, free_nodes_code, first_code, last_code, compare_code, last_operation}
use Rattle.meaning.specs.Operations.{Op, new, clone, release, len, get, set_at, push_back, drop_last, open_walk, next, next_back, close_walk, hand_over, free_nodes, first, last, compare, unknown, operations}

unfoldable pub code : Op → ℕ
code new = new_code
code clone = clone_code
code release = release_code
code len = len_code
code get = get_code
code set_at = set_code
code push_back = push_back_code
code drop_last = drop_last_code
code open_walk = open_walk_code
code next = next_code
code next_back = next_back_code
code close_walk = close_walk_code
code hand_over = hand_over_code
code free_nodes = free_nodes_code
code first = first_code
code last = last_code
code compare = compare_code
code unknown = 0x100

-- the test passes for every number below n
unfoldable pub all_below : (n : ℕ) → (ℕ → Bool) → Bool
all_below zero test = true
all_below (suc n) test = test n && all_below n test

both : (a b : Bool) → T (a && b) → T a × T b
both true true h = (tt, tt)
both false b h = elim h [ ]
both true false h = elim h [ ]

pub all_below-at : (n : ℕ) (test : ℕ → Bool) → T (all_below n test) → (i : ℕ) → i < n → T (test i)
unfolding all_below
all_below-at zero test h i l = absurd (lt_irrefl zero (omega arith))
all_below-at (suc n) test h i l = pick (dec_lt i n) (both (test n) (all_below n test) h) (all_below-at n test)
  where
    pick : Dec (i < n) → T (test n) × T (all_below n test) → (T (all_below n test) → (j : ℕ) → j < n → T (test j)) → T (test i)
    pick (yes s) b ih = ih b.1 i s
    pick (no s) b ih = let e : i ≡ n = omega arith in rw e b.0

-- an operation's number is where it stands in the list
pub code_at : (n : ℕ) → n < suc last_operation → code (get_or operations n unknown) ≡ n
unfolding code operations all_below
code_at n l = eqb→eq _ n (all_below-at (suc last_operation) (λ i. eqb (code (get_or operations i unknown)) i) tt n l)

-- an operation other than `unknown` comes from its own number alone
pub op-number : (n : ℕ) (o : Op) → get_or operations n unknown ≡ o → code o < suc last_operation → n ≡ code o
unfolding operations code
op-number n o e l = pick (dec_lt n (suc last_operation))
  where
    pick : Dec (n < suc last_operation) → n ≡ code o
    pick (yes s) = sym (code_at n s) ∙ ap code e
    pick (no s) =
        let d : get_or operations n unknown ≡ unknown = get_or-eq_default operations unknown {n = n} (omega arith) in
        let k : code o ≡ 0x100 = ap code (sym e ∙ d) in
        absurd (lt_irrefl zero (omega arith))

-- Elements that are cells of one leaf: each is one step of the walk, and what the code finds and stores says so.
use Rattle.std.specs.Prelude.{Some}
use mathlib.Core.Path.{◌≡◌, refl, sym, ap, ◌∙◌}
use mathlib.Core.Logic.{◌≢◌}
use mathlib.Core.Bool.{Bool, true, false}
use mathlib.Core.List.{List}
use Prim.Native.Nat.{ℕ, ◌+◌, ◌*◌, ◌≤◌, ◌<◌}
use native.Mathlib.Nat.{lt_irrefl}
use native.Mathlib.Omega.{arith}
use native.Mathlib.Decide.{dec_lt}
use lib.ListN.{length, get_or, set, get_or-eq_default}
use lib.Seq.{get_or-set_same, get_or-set_other, set-get_or}
use lib.IntN.{ℤ}
use borrow.Author.Tests.{ne_eqb}
use Rattle.meaning.specs.Limits.{node_cells, walk_levels, walk_numbers}
use Rattle.meaning.specs.Counting.{bit}
use Rattle.index.specs.Index.{along, Within}
use Rattle.index.proofs.IndexLaws.{less-within}
use Rattle.level.specs.Level.{levels, place_at, StaysAt, passed_at}
use Rattle.level.proofs.Passing.{set-set, none_passed, not-ended, one_more, passes-cell}
use Rattle.levels.specs.Levels.{Out, took, one_taken}
use Rattle.levels.proofs.StackLaws.{goes_on, stands, takes}
use Rattle.walk.specs.Walk.{slices, number_at, Walkable, is_ended, stepped, taken_at, stack_at, taken_of, taken_by, passed_on, Passable, Staying}
use Rattle.walk.proofs.WalkLaws.{number-place}

-- what is left, from both ends
abbrev Left : (numbers : List ℕ) → (n l : ℕ) → Type 0
Left ns n l = number_at ns n 4 + number_at ns n 5 + l ≤ number_at ns n 3

-- what is not 0 is there
there : (xs : List ℕ) (i : ℕ) → 0 < get_or xs i 0 → i < length xs
there xs i h = pick (dec_lt i (length xs))
  where
    pick : Dec (i < length xs) → i < length xs
    pick (yes l) = l
    pick (no n) = let none : get_or xs i 0 ≡ 0 = get_or-eq_default xs 0 (omega arith) in absurd (lt_irrefl 0 (omega (arith, none, h)))

-- the numbers after m
module _ (ns : List ℕ) (n m l : ℕ) (left : Left ns n l) (h : m < l) where
  counts-on : (b : Bool) → 0 < taken_at ns n b → is_ended (set ns (walk_numbers * n + (4 + bit b)) (taken_at ns n b + m)) n ≡ false
  unfolding is_ended
  counts-on false begun =
      let at : List ℕ = set ns (walk_numbers * n + 4) (number_at ns n 4 + m) in
      let three : number_at at n 3 ≡ number_at ns n 3 = get_or-set_other ns _ _ _ 0 (λ q. lt_irrefl 0 (omega arith)) in
      let four : number_at at n 4 ≡ number_at ns n 4 + m = get_or-set_same ns _ _ 0 (there ns _ begun) in
      let five : number_at at n 5 ≡ number_at ns n 5 = get_or-set_other ns _ _ _ 0 (λ q. lt_irrefl 0 (omega arith)) in
      ne_eqb (number_at at n 4 + number_at at n 5) (number_at at n 3) (λ q. lt_irrefl 0 (omega (arith, q, three, four, five, left)))
  counts-on true begun =
      let at : List ℕ = set ns (walk_numbers * n + 5) (number_at ns n 5 + m) in
      let three : number_at at n 3 ≡ number_at ns n 3 = get_or-set_other ns _ _ _ 0 (λ q. lt_irrefl 0 (omega arith)) in
      let four : number_at at n 4 ≡ number_at ns n 4 = get_or-set_other ns _ _ _ 0 (λ q. lt_irrefl 0 (omega arith)) in
      let five : number_at at n 5 ≡ number_at ns n 5 + m = get_or-set_same ns _ _ 0 (there ns _ begun) in
      ne_eqb (number_at at n 4 + number_at at n 5) (number_at at n 3) (λ q. lt_irrefl 0 (omega (arith, q, three, four, five, left)))

module _ (us : List ℕ) (b : Bool) (ns nodes : List ℕ) (is : List ℤ) (n a l : ℕ)
    (stays : StaysAt us b (levels nodes is) (stack_at n b) a) (left : Left ns n l) (begun : 0 < taken_at ns n b) where
  abbrev k : ℕ
  k = stack_at n b

  none-taken : passed_on b (slices ns nodes is) n 0 ≡ slices ns nodes is
  unfolding passed_on
  none-taken =
      let zero : taken_at ns n b + 0 ≡ taken_at ns n b = omega arith in
      rw (zero, set-get_or ns (walk_numbers * n + (4 + bit b)) 0, none_passed us b nodes is k a stays)

  module _ (cs : List ℕ) (m : ℕ) (h : m < a) (i : m < l) where
    abbrev x : ℕ
    x = get_or cs (node_cells * get_or nodes k 0 + along b (place_at is k) m) 0

    taken-now : taken_at (passed_on b (slices ns nodes is) n m).numbers n b ≡ taken_at ns n b + m
    unfolding passed_on
    taken-now = get_or-set_same ns _ _ 0 (there ns _ begun)

    counted : set (passed_on b (slices ns nodes is) n m).numbers (walk_numbers * n + (4 + bit b)) (taken_at (passed_on b (slices ns nodes is) n m).numbers n b + 1)
        ≡ (passed_on b (slices ns nodes is) n (m + 1)).numbers
    unfolding passed_on
    counted =
        let more : taken_at ns n b + m + 1 ≡ taken_at ns n b + (m + 1) = omega arith in
        ap (λ (t : ℕ). set (set ns (walk_numbers * n + (4 + bit b)) (taken_at ns n b + m)) (walk_numbers * n + (4 + bit b)) (t + 1)) taken-now
        ∙ (set-set ns _ _ _ ∙ ap (set ns (walk_numbers * n + (4 + bit b))) more)

    one_from : (taken root height : ℕ) → taken ≢ 0 → took (levels nodes (passed_at b is k (m + 1))) x ≡ one_taken cs us b taken root height (levels nodes (passed_at b is k m)) k
    one_from taken root height t =
        takes cs us b taken root height _ _ _ k x (stands cs us b taken root height _ k t) (sym (passes-cell us b nodes is k a stays m h cs))
        (ap (λ (o : Out). o.levels)
        (goes_on cs us b _ k _ false (not-ended us b nodes is k a stays m h) (one_more us b nodes is k a stays m h) height refl))

    one-taken : took (levels nodes (passed_at b is k (m + 1))) x ≡ taken_of cs us b (passed_on b (slices ns nodes is) n m) n
    unfolding taken_of passed_on
    one-taken = one_from _ _ _ (λ q. lt_irrefl 0 (omega (arith, q, taken-now, begun)))

    not-all : is_ended (passed_on b (slices ns nodes is) n m).numbers n ≡ false
    unfolding passed_on
    not-all = counts-on ns n m l left i b begun

    whole : slices (passed_on b (slices ns nodes is) n (m + 1)).numbers nodes (passed_at b is k (m + 1)) ≡ passed_on b (slices ns nodes is) n (m + 1)
    unfolding passed_on
    whole = refl

    next-taken : taken_by cs us b (passed_on b (slices ns nodes is) n m) n ≡ stepped (passed_on b (slices ns nodes is) n (m + 1)) (Some x)
    unfolding taken_by
    next-taken = rw (not-all, ← one-taken, counted, whole)

-- ---- the code

passable-on : (ns : List ℕ) (is : List ℤ) (n l a most : ℕ) (b : Bool) → Walkable ns n → Left ns n l → Within b (place_at is (stack_at n b)) a → most ≤ a → most ≤ l
    → Passable b ns is n most
passable-on ns is n l a most false w left h p q = record { walk = w.walk; counts = omega (arith, w.legal.length); within = less-within false _ a most h p }
passable-on ns is n l a most true w left h p q = record { walk = w.walk; counts = omega (arith, w.legal.length); within = less-within true _ a most h p }

stays-in : (us : List ℕ) (b : Bool) (ns nodes : List ℕ) (is : List ℤ) (n a l most place : ℕ) → Walkable ns n
    → StaysAt us b (levels nodes is) (stack_at n b) a → Left ns n l → 0 < taken_at ns n b → most ≤ a → most ≤ l → place ≡ place_at is (stack_at n b)
    → Staying us b (slices ns nodes is) n (get_or nodes (stack_at n b) 0) place most
unfolding StaysAt place_at
stays-in us b ns nodes is n a l most place w stay left begun p q e =
    record {
      here = e;
      passable = passable-on ns is n l a most b w left stay.within p q;
      none = none-taken us b ns nodes is n a l stay left begun;
      next = λ cs m h. rw e (next-taken us b ns nodes is n a l stay left begun cs m (omega arith) (omega arith));
    }

pub stretch-is : (us : List ℕ) (b : Bool) (ns nodes : List ℕ) (is : List ℤ) (n s a l most place : ℕ) → Walkable ns n → s ≡ bit b
    → (0 < a → StaysAt us b (levels nodes is) (walk_levels * (2 * n + s)) a) → Left ns n l → (0 < l → 0 < number_at ns n (4 + s)) → most ≤ a → most ≤ l
    → place ≡ place_at is (walk_levels * (2 * n + s)) → 0 < most → Staying us b (slices ns nodes is) n (get_or nodes (walk_levels * (2 * n + s)) 0) place most
stretch-is us b ns nodes is n s a l most place w e stay left begun p q f h =
    let on : StaysAt us b (levels nodes is) (stack_at n b) a = rw e at (stay (omega arith)) in
    let some : 0 < taken_at ns n b = rw e at (begun (omega arith)) in
    rw e (stays-in us b ns nodes is n a l most place w on left some p q (rw e at f))

pub passes_on : (b : Bool) (ns : List ℕ) (is is' : List ℤ) (n s m : ℕ) → s ≡ bit b → is' ≡ passed_at b is (walk_levels * (2 * n + s)) m → (nodes : List ℕ)
    → slices (set ns (walk_numbers * n + 4 + s) (get_or ns (walk_numbers * n + 4 + s) 0 + m)) nodes is' ≡ passed_on b (slices ns nodes is) n m
unfolding passed_on
passes_on b ns is is' n s m e p nodes = rw (number-place n s b e, p, e)

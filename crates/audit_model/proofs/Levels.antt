-- The levels of a walk are tested right: exactly the stack that its numbers give.
use mathlib.Core.Path.{◌≡◌, refl, sym, ap, ◌∙◌}
use mathlib.Core.Logic.{◌⊎◌, inl, inr}
use mathlib.Core.Bool.{Bool, true, false, cond, ◌&&◌, ◌||◌}
use mathlib.Core.List.{List, [], ◌∷◌, ◌++◌}
use Prim.Native.Nat.{ℕ, zero, suc, ◌-◌, ◌≤◌, ◌<◌}
use native.Mathlib.Nat.{eq-or-lt_of_le}
use native.Mathlib.Decide.{dec_lt}
use native.Mathlib.Omega.{arith}
use lib.Dec.{eqb}
use lib.IntN.{ℤ, pos, negsuc}
use lib.ListN.{length, get_or, replicate, length-append, length-replicate, get_or-eq_default, get_or-append}
use lib.Seq.{ext_get_or, get_or_at}
use borrow.Author.Tests.{eqb-true, eq-eqb}
use Rattle.meaning.specs.Limits.{walk_levels}
use Rattle.meaning.specs.Counting.{rows}
use Rattle.meaning.specs.Lent.{Nodes, cell_of, VersionRecord, WalkSlices, Level, no_level, level_of}
use Rattle.meaning.specs.Shape.{bucket}
use Rattle.meaning.specs.Trees.{height_of}
use Rattle.meaning.specs.Walks.{way, stack, padded}
use Rattle.meaning.proofs.Lists.{replicate-at}
use Rattle.meaning.proofs.Booleans.{both_true}
use Rattle.meaning.proofs.Rows.{rows_at, rows-length}
use Rattle.audit_model.specs.Records.{is_index, level_is, way_ok, blank_from, stack_ok}
use Rattle.audit_model.proofs.Tests.{true≢false, true-both, from_at, at_from}

filled_at : (ls : List Level) (n k : ℕ) → get_or (ls ++ replicate n no_level) k no_level ≡ get_or ls k no_level
filled_at [] n k = replicate-at n k no_level
filled_at (x ∷ xs) n zero = refl
filled_at (x ∷ xs) n (suc k) = filled_at xs n k

padded-length : (ls : List Level) → length ls ≤ walk_levels → length (padded ls) ≡ walk_levels
unfolding padded
padded-length ls l = simp (length-append, length-replicate) (omega arith)

padded-at : (ls : List Level) (k : ℕ) → get_or (padded ls) k no_level ≡ get_or ls k no_level
unfolding padded
padded-at ls k = filled_at ls (walk_levels - length ls) k

-- a stack, level by level
abbrev Levels : WalkSlices → (st : ℕ) → List Level → Type 0
Levels w st ls = (k : ℕ) → k < walk_levels → level_of w st k ≡ get_or ls k no_level

levels-rows : (w : WalkSlices) (st : ℕ) (ls : List Level) → length ls ≤ walk_levels → Levels w st ls → rows walk_levels (level_of w st) ≡ padded ls
levels-rows w st ls l h =
    ext_get_or no_level _ _ (rows-length walk_levels (level_of w st) ∙ sym (padded-length ls l))
    (λ k u. by k (omega (arith, rows-length walk_levels (level_of w st))))
  where
    by : (k : ℕ) → k < walk_levels → get_or (rows walk_levels (level_of w st)) k no_level ≡ get_or (padded ls) k no_level
    by k u = rows_at walk_levels k (level_of w st) no_level u ∙ h k u ∙ sym (padded-at ls k)

rows-levels : (w : WalkSlices) (st : ℕ) (ls : List Level) → rows walk_levels (level_of w st) ≡ padded ls → Levels w st ls
rows-levels w st ls e k u =
    sym (rows_at walk_levels k (level_of w st) no_level u) ∙ ap (λ (x : List Level). get_or x k no_level) e ∙ padded-at ls k

-- ---- one level

index_is : (z : ℤ) (i : ℕ) → is_index z i ≡ true → z ≡ pos i
unfolding is_index
index_is (pos k) i e = ap pos (eqb-true k i e)
index_is (negsuc k) i e = true≢false (sym e)

is-index : (z : ℤ) (i : ℕ) → z ≡ pos i → is_index z i ≡ true
unfolding is_index
is-index z i e = rw e (eq-eqb i i refl)

abbrev level : (node index : ℕ) → Level
level n i = record { node = n; index = pos i }

level-is : (w : WalkSlices) (st k n i : ℕ) → level_is w.nodes w.indices st k n i ≡ true → level_of w st k ≡ level n i
unfolding level_is
level-is w st k n i e =
    let x = both_true _ _ e in
    let p : (level_of w st k).node ≡ n = eqb-true _ _ x.0 in
    let q : (level_of w st k).index ≡ pos i = index_is _ _ x.1 in
    rw (p, q)

is-level : (w : WalkSlices) (st k n i : ℕ) → level_of w st k ≡ level n i → level_is w.nodes w.indices st k n i ≡ true
unfolding level_is
is-level w st k n i e = true-both _ _ (eq-eqb _ _ (ap (λ (x : Level). x.node) e)) (is-index _ _ (ap (λ (x : Level). x.index) e))

-- ---- the way

way-length : (s : Nodes) (b h n index : ℕ) → length (way s b h n index) ≡ suc h
unfolding way
way-length s b zero n index = refl
way-length s b (suc h) n index = simp length-append (omega (arith, way-length s b h (cell_of s n (bucket b (suc h) index)) index))

module _ (s : Nodes) (w : WalkSlices) (st b index : ℕ) where
  abbrev OnWay : (h n : ℕ) → Type 0
  OnWay h n = (k : ℕ) → k ≤ h → level_of w st k ≡ get_or (way s b h n index) k no_level

  way-top : (h n : ℕ) → get_or (way s b (suc h) n index) (suc h) no_level ≡ level n (bucket b (suc h) index)
  unfolding way
  way-top h n = get_or_at (way s b h (cell_of s n (bucket b (suc h) index)) index) _ [] no_level (suc h) (way-length s b h _ index)

  way-below : (h n k : ℕ) → k ≤ h → get_or (way s b (suc h) n index) k no_level ≡ get_or (way s b h (cell_of s n (bucket b (suc h) index)) index) k no_level
  unfolding way
  way-below h n k l = get_or-append (way s b h (cell_of s n (bucket b (suc h) index)) index) _ no_level k (omega (arith, way-length s b h (cell_of s n (bucket b (suc h) index)) index))

  ok-way : (h n : ℕ) → way_ok s.cells w.nodes w.indices st b h n index ≡ true → OnWay h n
  unfolding way_ok way
  ok-way zero n e k l = let z : k ≡ 0 = omega arith in rw z (level-is w st 0 n (bucket b 0 index) e)
  ok-way (suc h) n e k l =
      let x = both_true (level_is w.nodes w.indices st (suc h) n (bucket b (suc h) index)) (way_ok s.cells w.nodes w.indices st b h (cell_of s n (bucket b (suc h) index)) index) e in
      by x.0 (ok-way h (cell_of s n (bucket b (suc h) index)) x.1) (eq-or-lt_of_le l)
    where
      by : level_is w.nodes w.indices st (suc h) n (bucket b (suc h) index) ≡ true → OnWay h (cell_of s n (bucket b (suc h) index)) → (k ≡ suc h) ⊎ (k < suc h)
          → level_of w st k ≡ get_or (way s b (suc h) n index) k no_level
      by top rest (inl d) = rw d (level-is w st (suc h) n (bucket b (suc h) index) top ∙ sym (way-top h n))
      by top rest (inr u) = rest k (omega arith) ∙ sym (way-below h n k (omega arith))

  way-ok : (h n : ℕ) → OnWay h n → way_ok s.cells w.nodes w.indices st b h n index ≡ true
  unfolding way_ok way
  way-ok zero n f = is-level w st 0 n (bucket b 0 index) (f 0 (omega arith))
  way-ok (suc h) n f =
      true-both _ _ (is-level w st (suc h) n (bucket b (suc h) index) (f (suc h) (omega arith) ∙ way-top h n))
      (way-ok h (cell_of s n (bucket b (suc h) index)) (λ k l. f k (omega arith) ∙ way-below h n k l))

-- ---- a whole stack

blank-at : (w : WalkSlices) (st start : ℕ) → blank_from w.nodes w.indices st start ≡ true → (k : ℕ) → start ≤ k → k < walk_levels → level_of w st k ≡ no_level
unfolding blank_from
blank-at w st start e k l u = level-is w st k 0 0 (from_at start walk_levels (λ k. level_is w.nodes w.indices st k 0 0) e k l u)

at-blank : (w : WalkSlices) (st start : ℕ) → ((k : ℕ) → start ≤ k → k < walk_levels → level_of w st k ≡ no_level) → blank_from w.nodes w.indices st start ≡ true
unfolding blank_from
at-blank w st start h = at_from start walk_levels (λ k. level_is w.nodes w.indices st k 0 0) (λ k l u. is-level w st k 0 0 (h k l u))

module _ (s : Nodes) (w : WalkSlices) (st : ℕ) (v : VersionRecord) (low : height_of v < walk_levels) (taken index : ℕ) where
  above : (k : ℕ) → suc (height_of v) ≤ k → get_or (way s v.bits (height_of v) v.root index) k no_level ≡ no_level
  above k l = get_or-eq_default (way s v.bits (height_of v) v.root index) no_level {n = k} (omega (arith, way-length s v.bits (height_of v) v.root index))

  way-levels : (way_ok s.cells w.nodes w.indices st v.bits (height_of v) v.root index && blank_from w.nodes w.indices st (suc (height_of v))) ≡ true
      → Levels w st (way s v.bits (height_of v) v.root index)
  way-levels e k u = by (both_true _ _ e) (dec_lt (height_of v) k)
    where
      by : (way_ok s.cells w.nodes w.indices st v.bits (height_of v) v.root index ≡ true) × (blank_from w.nodes w.indices st (suc (height_of v)) ≡ true) → Dec (height_of v < k)
          → level_of w st k ≡ get_or (way s v.bits (height_of v) v.root index) k no_level
      by x (yes l) = blank-at w st (suc (height_of v)) x.1 k l u ∙ sym (above k l)
      by x (no f) = ok-way s w st v.bits index (height_of v) v.root x.0 k (omega arith)

  levels-way : Levels w st (way s v.bits (height_of v) v.root index)
      → (way_ok s.cells w.nodes w.indices st v.bits (height_of v) v.root index && blank_from w.nodes w.indices st (suc (height_of v))) ≡ true
  levels-way h =
      true-both _ _ (way-ok s w st v.bits index (height_of v) v.root (λ k l. h k (omega arith)))
      (at-blank w st (suc (height_of v)) (λ k l u. h k u ∙ above k l))

  pub stack-right : stack_ok s.cells w.nodes w.indices st v taken index ≡ true → rows walk_levels (level_of w st) ≡ padded (stack s v taken index)
  unfolding stack_ok stack
  stack-right e = by (eqb taken 0 || eqb taken v.length) e
    where
      by : (o : Bool) → cond o (blank_from w.nodes w.indices st 0) (way_ok s.cells w.nodes w.indices st v.bits (height_of v) v.root index && blank_from w.nodes w.indices st (suc (height_of v))) ≡ true
          → rows walk_levels (level_of w st) ≡ padded (cond o [] (way s v.bits (height_of v) v.root index))
      by true q = levels-rows w st [] (omega arith) (λ k u. blank-at w st 0 q k (omega arith) u)
      by false q = levels-rows w st (way s v.bits (height_of v) v.root index) (omega (arith, way-length s v.bits (height_of v) v.root index)) (way-levels q)

  pub right-stack : rows walk_levels (level_of w st) ≡ padded (stack s v taken index) → stack_ok s.cells w.nodes w.indices st v taken index ≡ true
  unfolding stack_ok stack
  right-stack e = by (eqb taken 0 || eqb taken v.length) e
    where
      by : (o : Bool) → rows walk_levels (level_of w st) ≡ padded (cond o [] (way s v.bits (height_of v) v.root index))
          → cond o (blank_from w.nodes w.indices st 0) (way_ok s.cells w.nodes w.indices st v.bits (height_of v) v.root index && blank_from w.nodes w.indices st (suc (height_of v))) ≡ true
      by true q = at-blank w st 0 (λ k l u. rows-levels w st [] q k u)
      by false q = levels-way (rows-levels w st _ q)

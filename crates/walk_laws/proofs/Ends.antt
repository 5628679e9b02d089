-- One element taken from an end of a version: it is the element that comes next there, and the stack is the way to the one after it.
use mathlib.Core.Path.{◌≡◌, refl, sym, ap, ◌∙◌}
use mathlib.Core.Logic.{◌≢◌, ⊎_elim}
use mathlib.Core.Bool.{Bool, true, false, cond, ◌||◌}
use mathlib.Core.List.{List, [], ◌∷◌, ◌++◌, append-nil}
use Prim.Native.Nat.{ℕ, zero, suc, ◌+◌, ◌-◌, ◌≤◌, ◌<◌}
use native.Mathlib.Nat.{lt_irrefl, eq-or-lt_of_le}
use native.Mathlib.Omega.{arith}
use lib.Dec.{eqb}
use lib.ListN.{length, take, drop, replicate, length-replicate, replicate-append-replicate}
use lib.Seq.{take_at, drop_at}
use borrow.Author.Tests.{eq-eqb, ne_eqb, eqb-true, eqb-false}
use Rattle.meaning.specs.Limits.{walk_levels, places}
use Rattle.meaning.specs.Lent.{Nodes, VersionRecord, Level, no_level}
use Rattle.meaning.specs.Trees.{height_of, element}
use Rattle.meaning.specs.Walks.{way, stack, padded}
use Rattle.meaning.specs.WellFormed.{Live}
use Rattle.shape.proofs.Capacity.{height-levels}
use Rattle.level.specs.declared.Levels.{Levels}
use Rattle.level.specs.Level.{pushed}
use Rattle.levels.specs.Levels.{advanced_by, initialised, one_taken}
use Rattle.walk_laws.specs.Stack.{Moved, moves, current, begun, digging, emptied, renewing, advancing}
use Rattle.walk_laws.proofs.Ways.{way-length, element-current}
use Rattle.walk_laws.proofs.Forward as fore
use Rattle.walk_laws.proofs.Backward as hind
use Rattle.walk_laws.specs.Took.{LevelsFit}
use Rattle.walk_laws.proofs.Places.{pushed-put, put-sized, initialised-sized, taken-outside}
use Rattle.walk_laws.proofs.Seen.{stack_in, stack-length, stack_same, stack-split, current-seen, step-seen, digs-seen, begun-seen}

-- the index that comes next from an end of n elements
abbrev pub index_from : (back : Bool) → (n taken : ℕ) → ℕ
index_from false n t = t
index_from true n t = n - 1 - t

abbrev pub stack_from : Nodes → VersionRecord → (back : Bool) → (taken : ℕ) → List Level
stack_from s v b t = padded (stack s v t (index_from b v.length t))

-- ---- lists

appended : (n : ℕ) (a c x y : List Level) → length a ≡ n → length x ≡ n → a ++ c ≡ x ++ y → (a ≡ x) × (c ≡ y)
appended n a c x y la lx e = (sym (take_at a c n la) ∙ (ap (take n) e ∙ take_at x y n lx), sym (drop_at a c n la) ∙ (ap (drop n) e ∙ drop_at x y n lx))

emptied-is : (k : ℕ) (st : List Level) → emptied k st ≡ replicate k no_level ++ st
unfolding emptied
emptied-is zero st = refl
emptied-is (suc k) st = emptied-is k (no_level ∷ st) ∙ shift k
  where
    shift : (k : ℕ) → replicate k no_level ++ (no_level ∷ st) ≡ no_level ∷ (replicate k no_level ++ st)
    shift zero = refl
    shift (suc k) = ap (λ (l : List Level). no_level ∷ l) (shift k)

-- ---- stacks by their numbers

module _ (s : Nodes) (v : VersionRecord) (i : ℕ) where
  none-taken : (t : ℕ) → t ≡ 0 → stack s v t i ≡ []
  unfolding stack
  none-taken t e = rw (eq-eqb t 0 e)

  all-taken : (t : ℕ) → t ≡ v.length → stack s v t i ≡ []
  unfolding stack
  all-taken t e = rw (eq-eqb t v.length e) (by (eqb t 0))
    where
      by : (c : Bool) → cond (c || true) [] (way s v.bits (height_of v) v.root i) ≡ []
      by true = refl
      by false = refl

  some-taken : (t : ℕ) → t ≢ 0 → t ≢ v.length → stack s v t i ≡ way s v.bits (height_of v) v.root i
  unfolding stack
  some-taken t z e = rw (ne_eqb t 0 z, ne_eqb t v.length e)

-- ---- a version, and a stack of levels from place k

module _ (s : Nodes) (v : VersionRecord) (live : Live s v) (b : Bool) (t : ℕ) (left : t < v.length) where
  abbrev h : ℕ
  h = height_of v

  abbrev next : ℕ
  next = index_from b v.length t

  abbrev way_to : ℕ → List Level
  way_to i = way s v.bits (height_of v) v.root i

  levels-fit : height_of v < walk_levels
  levels-fit = height-levels v.bits v.length (record { bits = live.bits; length = live.length })

  -- the step from the way to the next element, while there is another after it
  moves-on : t + 1 < v.length → advancing s.cells s.used b (way_to next ++ []) ≡ moves (way_to (index_from b v.length (t + 1)) ++ []) true
  moves-on l = by b
    where
      by : (c : Bool) → advancing s.cells s.used c (way s v.bits (height_of v) v.root (index_from c v.length t) ++ [])
          ≡ moves (way s v.bits (height_of v) v.root (index_from c v.length (t + 1)) ++ []) true
      by false = fore.goes_on s v.bits live.bits.most (height_of v) v.length v.root t [] live.shape l
      by true =
          let e : v.length - 1 - t ≡ suc (v.length - 1 - (t + 1)) = omega arith in
          rw e (hind.goes_back s v.bits (height_of v) v.length v.root (v.length - 1 - (t + 1)) [] live.shape (omega arith))

  -- the step after the last
  all-finish : t + 1 ≡ v.length → advancing s.cells s.used b (way_to next ++ []) ≡ moves (emptied (suc (height_of v)) []) false
  unfolding advancing renewing
  all-finish l = by b
    where
      by : (c : Bool) → advancing s.cells s.used c (way s v.bits (height_of v) v.root (index_from c v.length t) ++ []) ≡ moves (emptied (suc (height_of v)) []) false
      by false = fore.finishes-last s v.bits live.bits.most (height_of v) v.length v.root t [] live.shape l
      by true = let e : v.length - 1 - t ≡ 0 = omega arith in rw e (hind.finishes-first s v.bits (height_of v) v.root [])

  -- from the root down to the first element from that end
  digs : t ≡ 0 → digging s.cells s.used b (height_of v) (begun s.used b v.root ∷ []) ≡ way_to next ++ []
  digs e = by b
    where
      by : (c : Bool) → digging s.cells s.used c (height_of v) (begun s.used c v.root ∷ []) ≡ way s v.bits (height_of v) v.root (index_from c v.length t) ++ []
      by false = rw e (fore.digs-first s v.bits live.bits.most (height_of v) v.root [])
      by true =
          let n : v.length ≡ suc (v.length - 1 - t) = omega arith in
          hind.digs-last s v.bits (height_of v) (v.length - 1 - t) v.root [] (hind.resize s v.bits (height_of v) _ _ v.root n live.shape)

  module _ (w : Levels) (k : ℕ) (z : LevelsFit w) (room : k + walk_levels ≤ places) where
    abbrev there : Levels
    there = initialised s.cells s.used b t v.root (height_of v) w k

    abbrev over : ℕ
    over = walk_levels - suc (height_of v)

    split : (u : Levels) → stack_in walk_levels u k ≡ stack_in (suc (height_of v)) u k ++ stack_in over u (k + suc (height_of v))
    split u =
        let e : walk_levels ≡ suc (height_of v) + over = omega (arith, levels-fit) in
        ap (λ (n : ℕ). stack_in n u k) e ∙ stack-split (suc (height_of v)) over u k

    blank : replicate walk_levels no_level ≡ replicate (suc (height_of v)) no_level ++ replicate over no_level
    blank =
        let e : walk_levels ≡ suc (height_of v) + over = omega (arith, levels-fit) in
        ap (λ (n : ℕ). replicate n no_level) e ∙ sym (replicate-append-replicate (suc (height_of v)) over no_level)

    padded-way : (i : ℕ) → padded (way_to i) ≡ way_to i ++ replicate over no_level
    unfolding padded
    padded-way i = rw (way-length s v.bits (height_of v) v.root i)

    padded-none : padded [] ≡ replicate walk_levels no_level
    unfolding padded
    padded-none = refl

    -- at the first use
    begins : t ≡ 0 → stack_in (suc (height_of v)) there k ≡ way_to next
    unfolding initialised
    begins e =
        let one : suc (height_of v) ≡ height_of v + 1 = omega arith in
        let u : Levels = pushed s.used b w (k + height_of v) v.root in
        let zu : LevelsFit (pushed s.used b w (k + height_of v) v.root) = rw (pushed-put s.used b w (k + height_of v) v.root) (put-sized w (k + height_of v) _ z) in
        rw (eq-eqb t 0 e, one)
        (digs-seen s.cells s.used b (height_of v) 1 u k zu (omega (arith, levels-fit)) (omega arith)
        ∙ (ap (digging s.cells s.used b (height_of v)) (begun-seen s.cells s.used b w (k + height_of v) v.root z (omega (arith, levels-fit)))
        ∙ (digs e ∙ append-nil (way_to next))))

    stays : t ≢ 0 → there ≡ w
    unfolding initialised
    stays ne = rw (ne_eqb t 0 ne)

    module _ (is : stack_in walk_levels w k ≡ stack_from s v b t) where
      before : (c : Bool) → eqb t 0 ≡ c → (stack_in (suc (height_of v)) there k ≡ way_to next) × (stack_in over w (k + suc (height_of v)) ≡ replicate over no_level)
      before true e =
          let none = eqb-true t 0 e in
          let bare : stack_in walk_levels w k ≡ replicate walk_levels no_level = is ∙ (ap padded (none-taken s v next t none) ∙ padded-none) in
          let p = appended (suc (height_of v)) (stack_in (suc (height_of v)) w k) _ (replicate (suc (height_of v)) no_level) _ (stack-length (suc (height_of v)) w k) (length-replicate (suc (height_of v)) no_level) (sym (split w) ∙ (bare ∙ blank)) in
          (begins none, p.1)
      before false e =
          let some = eqb-false t 0 e in
          let whole : stack_in walk_levels w k ≡ way_to next ++ replicate over no_level =
          is ∙ (ap padded (some-taken s v next t some (λ q. lt_irrefl zero (omega arith))) ∙ padded-way next) in
          let p = appended (suc (height_of v)) (stack_in (suc (height_of v)) w k) _ (way_to next) _ (stack-length (suc (height_of v)) w k) (way-length s v.bits (height_of v) v.root next) (sym (split w) ∙ whole) in
          (ap (λ (u : Levels). stack_in (suc (height_of v)) u k) (stays some) ∙ p.0, p.1)

      abbrev after : Levels
      after = (advanced_by s.cells s.used b (suc (height_of v)) there k).levels

      upper : stack_in over after (k + suc (height_of v)) ≡ replicate over no_level
      unfolding one_taken
      upper =
          stack_same over after w (k + suc (height_of v)) (λ i l g. taken-outside s.cells s.used b t v.root (height_of v) w k i (λ j a c e. lt_irrefl zero (omega arith)))
          ∙ (before (eqb t 0) refl).1

      lower : (st : List Level) (on : Bool) → advancing s.cells s.used b (way_to next ++ []) ≡ moves st on → stack_in (suc (height_of v)) after k ≡ st
      lower st on e =
          let zt = initialised-sized s.cells s.used b t v.root (height_of v) w k z in
          ap (λ (m : Moved). m.stack) (step-seen s.cells s.used b (suc (height_of v)) there k zt (omega (arith, levels-fit))
          ∙ (ap (advancing s.cells s.used b) ((before (eqb t 0) refl).0 ∙ sym (append-nil (way_to next))) ∙ e))

      ends : t + 1 ≡ v.length → stack_in walk_levels after k ≡ stack_from s v b (t + 1)
      ends e =
          let low : stack_in (suc (height_of v)) after k ≡ replicate (suc (height_of v)) no_level = lower _ _ (all-finish e) ∙ (emptied-is (suc (height_of v)) [] ∙ append-nil (replicate (suc (height_of v)) no_level)) in
          rw (split after, low, upper, all-taken s v (index_from b v.length (t + 1)) (t + 1) e) (sym blank ∙ sym padded-none)

      goes : t + 1 < v.length → stack_in walk_levels after k ≡ stack_from s v b (t + 1)
      goes l =
          let i : ℕ = index_from b v.length (t + 1) in
          let low : stack_in (suc (height_of v)) after k ≡ way_to i = lower _ _ (moves-on l) ∙ append-nil (way_to i) in
          rw (split after, low, upper, some-taken s v i (t + 1) (λ q. lt_irrefl zero (omega arith)) (λ q. lt_irrefl zero (omega arith))) (sym (padded-way i))

      -- the stack afterwards
      pub stack-after : stack_in walk_levels (one_taken s.cells s.used b t v.root (height_of v) w k).levels k ≡ stack_from s v b (t + 1)
      unfolding one_taken
      stack-after = ⊎_elim (λ e. ends (omega arith)) (λ l. goes (omega arith)) (eq-or-lt_of_le left)

      -- the element answered
      pub element-next : (one_taken s.cells s.used b t v.root (height_of v) w k).element ≡ element s v.bits (height_of v) v.root next
      unfolding one_taken
      element-next =
          current-seen s.cells s.used b (suc (height_of v)) there k (omega arith)
          ∙ (ap (current s.cells) ((before (eqb t 0) refl).0 ∙ sym (append-nil (way_to next))) ∙ sym (element-current s v.bits (height_of v) v.root next []))

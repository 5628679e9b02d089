-- The levels from a place upwards as a stack: a step of the lists is a step of the stack.
use mathlib.Core.Path.{◌≡◌, refl, ap, ◌∙◌}
use mathlib.Core.Bool.{Bool, true, false, cond}
use mathlib.Core.List.{List, [], ◌∷◌, ◌++◌}
use Prim.Native.Nat.{ℕ, zero, suc, ◌+◌, ◌≤◌, ◌<◌}
use native.Mathlib.Nat.{lt_irrefl}
use native.Mathlib.Omega.{arith}
use lib.ListN.{length}
use Rattle.meaning.specs.Limits.{places}
use Rattle.meaning.specs.Counting.{rows}
use Rattle.meaning.specs.Lent.{Level, no_level}
use Rattle.level.specs.declared.Levels.{Levels}
use Rattle.level.specs.Level.{current_at, pushed, popped, dug, index_after, stepped_at, ended_at}
use Rattle.levels.specs.Levels.{Out, out, renewed, advanced_by, dug_down}
use Rattle.levels.proofs.StackLaws.{has-level}
use Rattle.walk_laws.specs.Stack.{Moved, moves, current, begun, digging, emptied, renewing, advancing}
use Rattle.walk_laws.specs.Took.{LevelsFit}
use Rattle.walk_laws.proofs.Places.{level_in, put, put-here, put_other, put-sized, pushed-put, dug-put, popped-put, stepped_level, stepped-put, step-sized}

-- the m levels from place k
unfoldable pub stack_in : (m : ℕ) → Levels → (k : ℕ) → List Level
stack_in zero w k = []
stack_in (suc m) w k = level_in w k ∷ stack_in m w (k + 1)

pub stack-length : (m : ℕ) (w : Levels) (k : ℕ) → length (stack_in m w k) ≡ m
unfolding stack_in
stack-length zero w k = refl
stack-length (suc m) w k = ap suc (stack-length m w (k + 1))

pub stack_same : (m : ℕ) (v w : Levels) (k : ℕ) → ((i : ℕ) → k ≤ i → i < k + m → level_in v i ≡ level_in w i) → stack_in m v k ≡ stack_in m w k
unfolding stack_in
stack_same zero v w k h = refl
stack_same (suc m) v w k h = rw (stack_same m v w (k + 1) (λ i l g. h i (omega arith) (omega arith))) (ap (λ (l : Level). l ∷ stack_in m w (k + 1)) (h k (omega arith) (omega arith)))

pub stack-split : (a c : ℕ) (w : Levels) (k : ℕ) → stack_in (a + c) w k ≡ stack_in a w k ++ stack_in c w (k + a)
unfolding stack_in
stack-split zero c w k =
    let e : 0 + c ≡ c = omega arith in
    let f : k + 0 ≡ k = omega arith in
    rw (e, f)
stack-split (suc a) c w k =
    let e : suc a + c ≡ suc (a + c) = omega arith in
    let f : k + suc a ≡ k + 1 + a = omega arith in
    rw (e, f) (ap (λ (st : List Level). level_in w k ∷ st) (stack-split a c w (k + 1)))

-- the levels by rule
pub stack_rows : (m : ℕ) (f : ℕ → Level) (w : Levels) (k : ℕ) → ((i : ℕ) → f i ≡ level_in w (k + i)) → rows m f ≡ stack_in m w k
unfolding rows stack_in
stack_rows zero f w k h = refl
stack_rows (suc m) f w k h =
    let e : k + 0 ≡ k = omega arith in
    let here : f 0 ≡ level_in w k = h 0 ∙ ap (level_in w) e in
    let there : (i : ℕ) → f (suc i) ≡ level_in w (k + 1 + i) = λ i. let g : k + suc i ≡ k + 1 + i = omega arith in h (suc i) ∙ ap (level_in w) g in
    rw (here, stack_rows m (λ i. f (suc i)) w (k + 1) there)

-- ---- a changed level

pub put-seen : (m : ℕ) (w : Levels) (k : ℕ) (l : Level) → LevelsFit w → k < places → stack_in (suc m) (put w k l) k ≡ l ∷ stack_in m w (k + 1)
unfolding stack_in
put-seen m w k l z h =
    ap (λ (x : Level). x ∷ stack_in m (put w k l) (k + 1)) (put-here w k l z h)
    ∙ ap (λ (st : List Level). l ∷ st) (stack_same m (put w k l) w (k + 1) (λ i a c. put_other w k i l (λ e. lt_irrefl zero (omega arith))))

above_same : (m : ℕ) (w : Levels) (k : ℕ) (l : Level) → stack_in m (put w k l) (k + 1) ≡ stack_in m w (k + 1)
above_same m w k l = stack_same m (put w k l) w (k + 1) (λ i a c. put_other w k i l (λ e. lt_irrefl zero (omega arith)))

-- ---- a step

-- what is seen of an outcome
abbrev seen : ℕ → Out → ℕ → Moved
seen m r k = moves (stack_in m r.levels k) r.on

cond-seen : (m : ℕ) (t : Bool) (a c : Out) (k : ℕ) → seen m (cond t a c) k ≡ cond t (seen m a k) (seen m c k)
cond-seen m true a c k = refl
cond-seen m false a c k = refl

cond_both : (t : Bool) (x y x' y' : Moved) → (t ≡ true → x ≡ y) → x' ≡ y' → cond t x x' ≡ cond t y y'
cond_both true x y x' y' h g = h refl
cond_both false x y x' y' h g = g

module _ (cs us : List ℕ) (b : Bool) where
  pub current-seen : (m : ℕ) (w : Levels) (k : ℕ) → 0 < m → current_at cs w k ≡ current cs (stack_in m w k)
  unfolding current_at current stack_in
  current-seen zero w k l = absurd (lt_irrefl zero l)
  current-seen (suc m) w k l = refl

  dug-seen : (m : ℕ) (w : Levels) (k : ℕ) → 0 < m → LevelsFit w → k < places → stack_in (suc m) (dug cs us b w k) k ≡ digging cs us b 1 (stack_in m w (k + 1))
  unfolding digging
  dug-seen m w k l z h =
      rw (dug-put cs us b w k) (put-seen m w k (begun us b (current_at cs w (k + 1))) z h ∙ ap (λ (x : ℕ). begun us b x ∷ stack_in m w (k + 1)) (current-seen m w (k + 1) l))

  renewed-seen : (m : ℕ) (r : Out) (k : ℕ) → (r.on ≡ true → 0 < m) → LevelsFit r.levels → k < places → seen (suc m) (renewed cs us b r k) k ≡ renewing cs us b 1 (seen m r (k + 1))
  unfolding renewed renewing emptied
  renewed-seen m r k o z h =
      cond-seen (suc m) r.on (out (dug cs us b r.levels k) true) (out (popped r.levels k) false) k
      ∙ cond_both r.on _ _ _ _ (λ e. ap (λ (st : List Level). moves st true) (dug-seen m r.levels k (o e) z h))
      (ap (λ (st : List Level). moves st false) (rw (popped-put r.levels k) (put-seen m r.levels k no_level z h)))

  -- a step of the lists is a step of the stack
  pub step-seen : (m : ℕ) (w : Levels) (k : ℕ) → LevelsFit w → k + m ≤ places → seen m (advanced_by cs us b m w k) k ≡ advancing cs us b (stack_in m w k)
  unfolding advanced_by advancing stack_in ended_at index_after
  step-seen zero w k z h = refl
  step-seen (suc m) w k z h =
      let v = stepped_at b w k in
      let e : stepped_at b w k ≡ put w k (stepped_level b w k) = stepped-put b w k in
      let zv : LevelsFit (stepped_at b w k) = rw e (put-sized w k (stepped_level b w k) z) in
      let above : stack_in m (stepped_at b w k) (k + 1) ≡ stack_in m w (k + 1) = rw e (above_same m w k (stepped_level b w k)) in
      let ih : seen m (advanced_by cs us b m (stepped_at b w k) (k + 1)) (k + 1) ≡ advancing cs us b (stack_in m w (k + 1))
      = step-seen m (stepped_at b w k) (k + 1) zv (omega arith) ∙ ap (advancing cs us b) above in
      cond-seen (suc m) (ended_at us b w k) _ _ k
      ∙ cond_both (ended_at us b w k) _ _ _ _
      (λ t. renewed-seen m (advanced_by cs us b m (stepped_at b w k) (k + 1)) k (has-level cs us b m (stepped_at b w k) _ (k + 1) _ refl) (step-sized cs us b m (stepped_at b w k) (k + 1) zv) (omega arith)
      ∙ ap (renewing cs us b 1) ih)
      (ap (λ (st : List Level). moves st true) (rw e (put-seen m w k (stepped_level b w k) z (omega arith))))

  -- ---- the stack at its first use

  pub digs-seen : (j r : ℕ) (w : Levels) (k : ℕ) → LevelsFit w → k + j + r ≤ places → 0 < r → stack_in (j + r) (dug_down cs us b j w k) k ≡ digging cs us b j (stack_in r w (k + j))
  unfolding dug_down digging
  digs-seen zero r w k z h l =
      let e : 0 + r ≡ r = omega arith in
      let f : k + 0 ≡ k = omega arith in
      rw (e, f)
  digs-seen (suc j) r w k z h l =
      let e : suc j + r ≡ j + suc r = omega arith in
      let f : k + suc j ≡ k + j + 1 = omega arith in
      let zd : LevelsFit (dug cs us b w (k + j)) = rw (dug-put cs us b w (k + j)) (put-sized w (k + j) _ z) in
      rw (e, f) (digs-seen j (suc r) (dug cs us b w (k + j)) k zd (omega arith) (omega arith) ∙ ap (digging cs us b j) (dug-seen r w (k + j) l z (omega arith)))

  pub begun-seen : (w : Levels) (k n : ℕ) → LevelsFit w → k < places → stack_in 1 (pushed us b w k n) k ≡ begun us b n ∷ []
  unfolding stack_in
  begun-seen w k n z h = rw (pushed-put us b w k n) (put-seen 0 w k (begun us b n) z h)

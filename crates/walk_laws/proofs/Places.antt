-- The levels at their places in the two lists: what each function changes, and what it leaves.
use mathlib.Core.Path.{◌≡◌, refl, sym, ap, ◌∙◌}
use mathlib.Core.Logic.{◌≢◌}
use mathlib.Core.Bool.{Bool, true, false, cond}
use mathlib.Core.List.{List}
use Prim.Native.Nat.{ℕ, zero, suc, ◌+◌, ◌≤◌, ◌<◌}
use native.Mathlib.Omega.{arith}
use lib.Dec.{eqb}
use lib.ListN.{get_or, set, length-set}
use lib.Seq.{get_or-set_same, get_or-set_other, set-get_or}
use lib.IntN.{pos}
use Rattle.meaning.specs.Limits.{places}
use Rattle.meaning.specs.Lent.{Level, no_level}
use Rattle.level.specs.declared.Levels.{Levels}
use Rattle.level.specs.Level.{levels, current_at, pushed, popped, dug, index_after, stepped_at, ended_at}
use Rattle.levels.specs.Levels.{Out, renewed, advanced_by, dug_down, initialised, one_taken}
use Rattle.walk_laws.specs.Stack.{begun}
use Rattle.walk_laws.specs.Took.{LevelsFit}

abbrev pub level_in : Levels → (k : ℕ) → Level
level_in w k = record { node = get_or w.nodes k 0; index = get_or w.indices k (pos 0) }

-- i is none of the m places from k
abbrev pub Outside : (k m i : ℕ) → Type 0
Outside k m i = (j : ℕ) → k ≤ j → j < k + m → i ≢ j

-- ---- one level

abbrev pub put : Levels → (k : ℕ) → Level → Levels
put w k l = levels (set w.nodes k l.node) (set w.indices k l.index)

pub put-here : (w : Levels) (k : ℕ) (l : Level) → LevelsFit w → k < places → level_in (put w k l) k ≡ l
put-here w k l z h = rw (get_or-set_same w.nodes k l.node 0 (omega (arith, z.nodes)), get_or-set_same w.indices k l.index (pos 0) (omega (arith, z.indices)))

pub put_other : (w : Levels) (k i : ℕ) (l : Level) → i ≢ k → level_in (put w k l) i ≡ level_in w i
put_other w k i l ne = rw (get_or-set_other w.nodes k i l.node 0 ne, get_or-set_other w.indices k i l.index (pos 0) ne)

pub put-sized : (w : Levels) (k : ℕ) (l : Level) → LevelsFit w → LevelsFit (put w k l)
put-sized w k l z = record { nodes = length-set w.nodes k l.node ∙ z.nodes; indices = length-set w.indices k l.index ∙ z.indices }

pub pushed-put : (us : List ℕ) (b : Bool) (w : Levels) (k n : ℕ) → pushed us b w k n ≡ put w k (begun us b n)
unfolding pushed
pushed-put us b w k n = refl

pub dug-put : (cs us : List ℕ) (b : Bool) (w : Levels) (k : ℕ) → dug cs us b w k ≡ put w k (begun us b (current_at cs w (k + 1)))
unfolding dug
dug-put cs us b w k = pushed-put us b w k _

pub popped-put : (w : Levels) (k : ℕ) → popped w k ≡ put w k no_level
unfolding popped
popped-put w k = refl

abbrev pub stepped_level : (back : Bool) → Levels → (k : ℕ) → Level
stepped_level b w k = record { node = get_or w.nodes k 0; index = index_after b w k }

pub stepped-put : (b : Bool) (w : Levels) (k : ℕ) → stepped_at b w k ≡ put w k (stepped_level b w k)
unfolding stepped_at
stepped-put b w k = ap (λ (ns : List ℕ). levels ns (set w.indices k (index_after b w k))) (sym (set-get_or w.nodes k 0))

-- ---- what a step leaves

-- what holds of both outcomes of a test
either : (P : Levels → Type 0) (t : Bool) (a c : Out) → P a.levels → P c.levels → P (cond t a c).levels
either P true a c p q = p
either P false a c p q = q

-- what every change of a level keeps, a step keeps
record Keeps (P : Levels → Type 0) (k m : ℕ) : Type 0 where
  keeps : (w : Levels) (j : ℕ) (l : Level) → k ≤ j → j < k + m → P w → P (put w j l)

narrower : (P : Levels → Type 0) (k m : ℕ) → Keeps P k (suc m) → Keeps P (k + 1) m
narrower P k m f = record { keeps = λ w j l a c. f.keeps w j l (omega arith) (omega arith) }

module _ (cs us : List ℕ) (b : Bool) (P : Levels → Type 0) where
  step_keeps : (m : ℕ) (w : Levels) (k : ℕ) → Keeps P k m → P w → P (advanced_by cs us b m w k).levels
  unfolding advanced_by renewed
  step_keeps zero w k f p = p
  step_keeps (suc m) w k f p =
      let s : P (stepped_at b w k) = rw (stepped-put b w k) (f.keeps w k _ (omega arith) (omega arith) p) in
      let r : P (advanced_by cs us b m (stepped_at b w k) (k + 1)).levels = step_keeps m (stepped_at b w k) (k + 1) (narrower P k m f) s in
      either P (ended_at us b w k) _ _
      (either P (advanced_by cs us b m (stepped_at b w k) (k + 1)).on _ _
      (rw (dug-put cs us b (advanced_by cs us b m (stepped_at b w k) (k + 1)).levels k) (f.keeps _ k _ (omega arith) (omega arith) r))
      (rw (popped-put (advanced_by cs us b m (stepped_at b w k) (k + 1)).levels k) (f.keeps _ k _ (omega arith) (omega arith) r)))
      s

  digs-keep : (j : ℕ) (w : Levels) (k m : ℕ) → j ≤ m → Keeps P k m → P w → P (dug_down cs us b j w k)
  unfolding dug_down
  digs-keep zero w k m l f p = p
  digs-keep (suc j) w k m l f p =
      digs-keep j (dug cs us b w (k + j)) k m (omega arith) f (rw (dug-put cs us b w (k + j)) (f.keeps w (k + j) _ (omega arith) (omega arith) p))

  initialised-keeps : (taken root h : ℕ) (w : Levels) (k : ℕ) → Keeps P k (suc h) → P w → P (initialised cs us b taken root h w k)
  unfolding initialised
  initialised-keeps taken root h w k f p = by (eqb taken 0)
    where
      by : (t : Bool) → P (cond t (dug_down cs us b h (pushed us b w (k + h) root) k) w)
      by true = digs-keep h (pushed us b w (k + h) root) k (suc h) (omega arith) f (rw (pushed-put us b w (k + h) root) (f.keeps w (k + h) _ (omega arith) (omega arith) p))
      by false = p

-- the lengths, and the levels outside
sized-kept : (k m : ℕ) → Keeps LevelsFit k m
sized-kept k m = record { keeps = λ w j l a c z. put-sized w j l z }

level-kept : (k m i : ℕ) (v : Level) → Outside k m i → Keeps (λ w. level_in w i ≡ v) k m
level-kept k m i v o = record { keeps = λ w j l a c e. put_other w j i l (o j a c) ∙ e }

module _ (cs us : List ℕ) (b : Bool) where
  pub step-sized : (m : ℕ) (w : Levels) (k : ℕ) → LevelsFit w → LevelsFit (advanced_by cs us b m w k).levels
  step-sized m w k z = step_keeps cs us b LevelsFit m w k (sized-kept k m) z

  step-outside : (m : ℕ) (w : Levels) (k i : ℕ) → Outside k m i → level_in (advanced_by cs us b m w k).levels i ≡ level_in w i
  step-outside m w k i o = step_keeps cs us b (λ v. level_in v i ≡ level_in w i) m w k (level-kept k m i (level_in w i) o) refl

  pub initialised-sized : (taken root h : ℕ) (w : Levels) (k : ℕ) → LevelsFit w → LevelsFit (initialised cs us b taken root h w k)
  initialised-sized taken root h w k z = initialised-keeps cs us b LevelsFit taken root h w k (sized-kept k (suc h)) z

  initialised-outside : (taken root h : ℕ) (w : Levels) (k i : ℕ) → Outside k (suc h) i → level_in (initialised cs us b taken root h w k) i ≡ level_in w i
  initialised-outside taken root h w k i o = initialised-keeps cs us b (λ v. level_in v i ≡ level_in w i) taken root h w k (level-kept k (suc h) i (level_in w i) o) refl

  pub taken-sized : (t root h : ℕ) (w : Levels) (k : ℕ) → LevelsFit w → LevelsFit (one_taken cs us b t root h w k).levels
  unfolding one_taken
  taken-sized t root h w k z = step-sized (suc h) (initialised cs us b t root h w k) k (initialised-sized t root h w k z)

  pub taken-outside : (t root h : ℕ) (w : Levels) (k i : ℕ) → Outside k (suc h) i → level_in (one_taken cs us b t root h w k).levels i ≡ level_in w i
  unfolding one_taken
  taken-outside t root h w k i o = step-outside (suc h) (initialised cs us b t root h w k) k i o ∙ initialised-outside t root h w k i o

-- For each function, that what its callees ensure makes up what it ensures.
use mathlib.Core.Path.{◌≡◌, refl, sym, ap, ◌∙◌}
use mathlib.Core.Logic.{◌≢◌}
use mathlib.Core.Bool.{Bool, true, false}
use mathlib.Core.List.{List}
use Prim.Native.Nat.{ℕ, zero, suc, ◌+◌, ◌-◌, ◌≤◌, ◌<◌}
use native.Mathlib.Nat.{lt_irrefl}
use native.Mathlib.Omega.{arith}
use lib.Dec.{ltb}
use borrow.Author.Tests.{eq-eqb, ne_eqb, lt-ltb, le-ltb}
use Rattle.level.specs.declared.Levels.{Levels}
use Rattle.level.specs.Level.{current_at, pushed, popped, dug, stepped_at, ended_at}
use Rattle.levels.specs.Levels.{Out, out, renewed, advanced_by, dug_down, popped_down, renewed_down, initialised, took, one_taken}

-- after the step of level k
module _ (cs us : List ℕ) (b : Bool) (w : Levels) (k : ℕ) (w₁ : Levels) (r : Bool) (er : r ≡ ended_at us b w k) (ew : w₁ ≡ stepped_at b w k) where
  pub goes_on : (m : ℕ) → r ≡ false → out w₁ true ≡ advanced_by cs us b (suc m) w k
  unfolding advanced_by
  goes_on m e = rw (← er, e, ← ew)

  gives-way : (m : ℕ) → r ≡ true → advanced_by cs us b (suc m) w k ≡ renewed cs us b (advanced_by cs us b m w₁ (k + 1)) k
  unfolding advanced_by
  gives-way m e = rw (← er, e, ← ew)

  pub begins-anew : (m : ℕ) (w₂ w₃ : Levels) (r₂ : Bool) → r ≡ true → out w₂ r₂ ≡ advanced_by cs us b m w₁ (k + 1) → r₂ ≡ true
      → w₃ ≡ dug cs us b w₂ k → out w₃ true ≡ advanced_by cs us b (suc m) w k
  unfolding advanced_by renewed
  begins-anew m w₂ w₃ r₂ e p f d = rw (← er, e, ← ew, ← p, f, d)

  pub all-ended : (m : ℕ) (w₂ w₃ : Levels) (r₂ : Bool) → r ≡ true → out w₂ r₂ ≡ advanced_by cs us b m w₁ (k + 1) → r₂ ≡ false
      → w₃ ≡ popped w₂ k → out w₃ false ≡ advanced_by cs us b (suc m) w k
  unfolding advanced_by renewed
  all-ended m w₂ w₃ r₂ e p f d = rw (← er, e, ← ew, ← p, f, d)

-- a step that goes on has a level
pub has-level : (cs us : List ℕ) (b : Bool) (m : ℕ) (w w₂ : Levels) (k : ℕ) (r : Bool) → out w₂ r ≡ advanced_by cs us b m w k → r ≡ true → 0 < m
unfolding advanced_by
has-level cs us b zero w w₂ k r p f =
    let q : true ≡ false = sym f ∙ ap (λ (o : Out). o.on) p in
    let z : ◌≡◌ {A = ℕ} 0 1 = cc in
    absurd (omega arith)
has-level cs us b (suc m) w w₂ k r p f = omega arith

-- the steps upwards begin
pub starts : (cs us : List ℕ) (b : Bool) (w : Levels) (k m : ℕ) → renewed_down cs us b 0 (advanced_by cs us b (m - 0) w (k + 0)) k ≡ advanced_by cs us b m w k
unfolding renewed_down
starts cs us b w k m =
    let p : m - 0 ≡ m = omega arith in
    let q : k + 0 ≡ k = omega arith in
    rw (p, q)

-- n of the m levels have finished, and u is what is to be done in all
module _ (cs us : List ℕ) (b : Bool) (w : Levels) (k n m : ℕ) (u : Out) (h : renewed_down cs us b n (advanced_by cs us b (m - n) w (k + n)) k ≡ u) where
  by_next : (q : ℕ) (o : Out) → m - n ≡ suc q → o ≡ advanced_by cs us b (suc q) w (k + n) → renewed_down cs us b n o k ≡ u
  by_next q o e p = rw (p, ← e) h

  climbs : (w₁ : Levels) (r : Bool) (i q j : ℕ) → i ≡ suc n → m - n ≡ suc q → j ≡ k + n + 1 → r ≡ ended_at us b w (k + n) → w₁ ≡ stepped_at b w (k + n) → r ≡ true
      → renewed_down cs us b i (advanced_by cs us b q w₁ j) k ≡ u
  unfolding renewed_down
  climbs w₁ r i q j ei eq ej er ew e = rw (ei, ej) (by_next q _ eq (sym (gives-way cs us b w (k + n) w₁ r er ew q e)))

  pub steps_on : (w₁ : Levels) (r : Bool) → n < m → r ≡ ended_at us b w (k + n) → w₁ ≡ stepped_at b w (k + n) → r ≡ true
      → renewed_down cs us b (n + 1) (advanced_by cs us b (m - (n + 1)) w₁ (k + (n + 1))) k ≡ u
  steps_on w₁ r l = climbs w₁ r (n + 1) (m - (n + 1)) (k + (n + 1)) (omega arith) (omega arith) (omega arith)

  pub stops : (w₁ : Levels) (r : Bool) → n < m → r ≡ ended_at us b w (k + n) → w₁ ≡ stepped_at b w (k + n) → r ≡ false
      → renewed_down cs us b n (out w₁ (ltb n m)) k ≡ u
  stops w₁ r l er ew e = rw (lt-ltb n m l) (by_next (m - (n + 1)) _ (omega arith) (goes_on cs us b w (k + n) w₁ r er ew _ e))

  pub at-the-end : n ≤ m → m ≤ n → renewed_down cs us b m (out w (ltb m m)) k ≡ u
  unfolding advanced_by
  at-the-end l g =
      let z : m - n ≡ 0 = omega arith in
      let e : m ≡ n = omega arith in
      rw (le-ltb m m (omega arith), e) (rw z at h)

-- what is left to do below a level that goes on, and where none does
digs-below : (cs us : List ℕ) (b : Bool) (n : ℕ) (w : Levels) (k : ℕ) → renewed_down cs us b n (out w true) k ≡ out (dug_down cs us b n w k) true
unfolding renewed_down dug_down renewed
digs-below cs us b zero w k = refl
digs-below cs us b (suc n) w k = digs-below cs us b n (dug cs us b w (k + n)) k

pops-below : (cs us : List ℕ) (b : Bool) (n : ℕ) (w : Levels) (k : ℕ) → renewed_down cs us b n (out w false) k ≡ out (popped_down n w k) false
unfolding renewed_down popped_down renewed
pops-below cs us b zero w k = refl
pops-below cs us b (suc n) w k = pops-below cs us b n (popped w (k + n)) k

pub dug-below : (cs us : List ℕ) (b : Bool) (n m : ℕ) (w v : Levels) (k : ℕ) (u : Out) → n < m → renewed_down cs us b n (out w (ltb n m)) k ≡ u
    → v ≡ dug_down cs us b n w k → out v true ≡ u
dug-below cs us b n m w v k u l h e = rw e (sym (digs-below cs us b n w k) ∙ (rw (lt-ltb n m l) at h))

pub popped-below : (cs us : List ℕ) (b : Bool) (n m : ℕ) (w v : Levels) (k : ℕ) (u : Out) → m ≤ n → renewed_down cs us b n (out w (ltb n m)) k ≡ u
    → v ≡ popped_down n w k → out v false ≡ u
popped-below cs us b n m w v k u l h e = rw e (sym (pops-below cs us b n w k) ∙ (rw (le-ltb n m l) at h))

-- one turn of the digging
pub digs-on : (cs us : List ℕ) (b : Bool) (w v u : Levels) (k j : ℕ) → 0 < j → v ≡ dug cs us b w (k + (j - 1)) → dug_down cs us b j w k ≡ u → dug_down cs us b (j - 1) v k ≡ u
unfolding dug_down
digs-on cs us b w v u k zero l e f = absurd (lt_irrefl zero l)
digs-on cs us b w v u k (suc j) l e f = let s : suc j - 1 ≡ j = omega arith in rw (e, s) f

pub dug-all : (cs us : List ℕ) (b : Bool) (w u : Levels) (k j : ℕ) → j ≤ 0 → dug_down cs us b j w k ≡ u → w ≡ u
unfolding dug_down
dug-all cs us b w u k zero l e = e
dug-all cs us b w u k (suc j) l e = absurd (lt_irrefl zero (omega arith))

-- one turn of the popping
pub pops-on : (w v u : Levels) (k j : ℕ) → 0 < j → v ≡ popped w (k + (j - 1)) → popped_down j w k ≡ u → popped_down (j - 1) v k ≡ u
unfolding popped_down
pops-on w v u k zero l e f = absurd (lt_irrefl zero l)
pops-on w v u k (suc j) l e f = let s : suc j - 1 ≡ j = omega arith in rw (e, s) f

pub popped-all : (w u : Levels) (k j : ℕ) → j ≤ 0 → popped_down j w k ≡ u → w ≡ u
unfolding popped_down
popped-all w u k zero l e = e
popped-all w u k (suc j) l e = absurd (lt_irrefl zero (omega arith))

pub initialises : (cs us : List ℕ) (b : Bool) (taken root h g : ℕ) (w v u : Levels) (k : ℕ) → taken ≡ 0 → h ≡ g → v ≡ pushed us b w (k + h) root
    → u ≡ dug_down cs us b h v k → u ≡ initialised cs us b taken root g w k
unfolding initialised
initialises cs us b taken root h g w v u k t e p q = rw (eq-eqb taken 0 t, q, p, e)

pub stands : (cs us : List ℕ) (b : Bool) (taken root h : ℕ) (w : Levels) (k : ℕ) → taken ≢ 0 → w ≡ initialised cs us b taken root h w k
unfolding initialised
stands cs us b taken root h w k t = rw (ne_eqb taken 0 t)

pub takes : (cs us : List ℕ) (b : Bool) (taken root h : ℕ) (w v u : Levels) (k x : ℕ) → v ≡ initialised cs us b taken root h w k
    → x ≡ current_at cs v k → u ≡ (advanced_by cs us b (suc h) v k).levels → took u x ≡ one_taken cs us b taken root h w k
unfolding one_taken
takes cs us b taken root h w v u k x p q r = rw (r, q, p)

-- the levels alone, at the height that the code found
pub levels-at : (cs us : List ℕ) (b : Bool) (w v : Levels) (k h g : ℕ) (t : Bool) → h ≡ g → out v t ≡ advanced_by cs us b (suc h) w k → v ≡ (advanced_by cs us b (suc g) w k).levels
levels-at cs us b w v k h g t e p = ap (λ (o : Out). o.levels) p ∙ ap (λ (n : ℕ). (advanced_by cs us b (suc n) w k).levels) e

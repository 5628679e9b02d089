-- What the code does to a stack, of which the first level stands at place k.
use Rattle.std.specs.Prelude.{Bool, true, false, cond, List, ℕ, zero, suc, ◌+◌, ◌≤◌, eqb}
use Rattle.meaning.specs.Limits.{walk_levels, places}
use Rattle.shape.specs.Legal.{Legal}
use Rattle.level.specs.declared.Levels.{Levels}
use Rattle.level.specs.Level.{current_at, pushed, popped, dug, stepped_at, ended_at}

-- a stack of a version with these numbers has room from place k
pub record HasStack (bits length k : ℕ) : Type 0 where
  pub legal : Legal bits length
  pub room : k + walk_levels ≤ places

-- the levels after a step, and whether any is left
pub record Out : Type 0 where
  pub levels : Levels
  pub on : Bool

abbrev pub out : Levels → Bool → Out
out w t = record { levels = w; on = t }

unfoldable pub renewed : (cells used : List ℕ) → (back : Bool) → Out → (k : ℕ) → Out
renewed cs us b r k = cond r.on (out (dug cs us b r.levels k) true) (out (popped r.levels k) false)

-- one step of the m levels from k: a level that has finished gives way to the step of those above it
unfoldable pub advanced_by : (cells used : List ℕ) → (back : Bool) → (m : ℕ) → Levels → (k : ℕ) → Out
advanced_by cs us b zero w k = out w false
advanced_by cs us b (suc m) w k =
    cond (ended_at us b w k) (renewed cs us b (advanced_by cs us b m (stepped_at b w k) (k + 1)) k) (out (stepped_at b w k) true)

-- h levels are dug below place k + h, down to k
unfoldable pub dug_down : (cells used : List ℕ) → (back : Bool) → (h : ℕ) → Levels → (k : ℕ) → Levels
dug_down cs us b zero w k = w
dug_down cs us b (suc h) w k = dug_down cs us b h (dug cs us b w (k + h)) k

-- h levels are popped below place k + h, down to k
unfoldable pub popped_down : (h : ℕ) → Levels → (k : ℕ) → Levels
popped_down zero w k = w
popped_down (suc h) w k = popped_down h (popped w (k + h)) k

-- h levels that have finished, below place k + h, follow what became of those above them, down to k
unfoldable pub renewed_down : (cells used : List ℕ) → (back : Bool) → (h : ℕ) → Out → (k : ℕ) → Out
renewed_down cs us b zero r k = r
renewed_down cs us b (suc h) r k = renewed_down cs us b h (renewed cs us b r (k + h)) k

-- before anything is taken the stack is not there yet
unfoldable pub initialised : (cells used : List ℕ) → (back : Bool) → (taken root h : ℕ) → Levels → (k : ℕ) → Levels
initialised cs us b taken root h w k = cond (eqb taken 0) (dug_down cs us b h (pushed us b w (k + h) root) k) w

pub record Taken : Type 0 where
  pub levels : Levels
  pub element : ℕ

abbrev pub took : Levels → ℕ → Taken
took w x = record { levels = w; element = x }

-- the element that comes next, and the levels afterwards
unfoldable pub one_taken : (cells used : List ℕ) → (back : Bool) → (taken root h : ℕ) → Levels → (k : ℕ) → Taken
one_taken cs us b taken root h w k =
    let there = initialised cs us b taken root h w k in
    took (advanced_by cs us b (suc h) there k).levels (current_at cs there k)

use mathlib.Core.Path.{◌≡◌}
use mathlib.Core.List.{List}
use Prim.Native.Nat.{ℕ, ◌+◌, ◌-◌}
use Rattle.levels.specs.Levels.{advanced_by, renewed_down}
use Rattle.levels.proofs.step_up.Given as goal

abbrev pub invariant-loop-n : goal.invariant-loop-n
invariant-loop-n l =
    (cells : List ℕ) → renewed_down cells l.used l.back l.n (advanced_by cells l.used l.back (l.m - l.n) l.levels (l.k + l.n)) l.k ≡ advanced_by cells l.used l.back l.m l.initial.levels l.k

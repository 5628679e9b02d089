use mathlib.Core.Path.{◌≡◌}
use mathlib.Core.List.{List}
use Prim.Native.Nat.{ℕ, ◌≤◌, ◌-◌}
use lib.ListN.{length, take}
use Rattle.lines.specs.Lines.{Keeps}
use Rattle.lines.specs.Reading.{Reads, Bounded, CanRead}
use Rattle.lines.proofs.read_lines.Given as goal

abbrev pub invariant-loop-at : goal.invariant-loop-at
invariant-loop-at l = (l.at ≤ length l.piece) × CanRead l.piece l.ended.marks.now l.ended.requests.now × (l.ended.marks.ghost_name ≡ l.initial.ended.marks.ghost_name) × (l.ended.requests.ghost_name ≡ l.initial.ended.requests.ghost_name) × Bounded l.at l.ended.lines l.ended.frames × ((line : List ℕ) → Keeps l.initial.begun.digits l.initial.begun.len line → Reads line (take l.at l.piece) l.begun.digits l.begun.len l.ended.marks.now l.ended.requests.now l.ended.lines l.ended.frames)

abbrev pub decreases-loop-at : goal.decreases-loop-at
decreases-loop-at l = length l.piece - l.at

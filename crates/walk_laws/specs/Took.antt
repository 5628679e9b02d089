-- What one element taken makes of the walk records, in the words of the meaning.
use Rattle.std.specs.Prelude.{◌≡◌, ◌≢◌, List, ℕ, ◌+◌, length, Some}
use Rattle.meaning.specs.Limits.{all_numbers, places}
use Rattle.meaning.specs.Lent.{Nodes, VersionRecord, WalkSlices, WalkRecord, closed_record, walk_record}
use Rattle.meaning.specs.Trees.{contents}
use Rattle.meaning.specs.Walks.{forward_stack, backward_stack}
use Rattle.meaning.specs.WellFormed.{Open}
use Rattle.meaning.specs.Table.{taking}
use Rattle.meaning.specs.Stands.{walk_of}
use Rattle.level.specs.declared.Levels.{Levels}
use Rattle.walk.specs.Walk.{levels_of, Step}

-- ---- the lent lengths

pub record LevelsFit (w : Levels) : Type 0 where
  pub nodes : length w.nodes ≡ places
  pub indices : length w.indices ≡ places

pub record SlicesFit (ws : WalkSlices) : Type 0 where
  pub numbers : length ws.numbers ≡ all_numbers
  pub levels : LevelsFit (levels_of ws)

-- ---- one element taken

abbrev pub counted : WalkRecord → (front back : ℕ) → WalkRecord
counted w front back = record { version = w.version; front = front; back = back; forward = w.forward; backward = w.backward }

abbrev pub front_taken : Nodes → WalkRecord → WalkRecord
front_taken s w =
    let u = counted w (w.front + 1) w.back in
    record { version = w.version; front = w.front + 1; back = w.back; forward = forward_stack s u; backward = w.backward }

abbrev pub back_taken : Nodes → WalkRecord → WalkRecord
back_taken s w =
    let u = counted w w.front (w.back + 1) in
    record { version = w.version; front = w.front; back = w.back + 1; forward = w.forward; backward = backward_stack s u }

-- walk n answers an item, and is left with the rest and this record
pub record Took (s : Nodes) (ws : WalkSlices) (n item : ℕ) (rest : List ℕ) (w : WalkRecord) (step : Step) : Type 0 where
  pub answer : step.answer ≡ Some item
  pub record_is : walk_record step.slices n ≡ w
  pub legal : Open s (walk_record step.slices n)
  pub walk : walk_of s (walk_record step.slices n) ≡ taking rest
  pub others : (m : ℕ) → m ≢ n → walk_record step.slices m ≡ walk_record ws m
  pub sizes : SlicesFit step.slices

-- ---- opening and closing

-- walk n has the whole of a version left
pub record Opened (s : Nodes) (v : VersionRecord) (ws : WalkSlices) (n : ℕ) (after : WalkSlices) : Type 0 where
  pub legal : Open s (walk_record after n)
  pub walk : walk_of s (walk_record after n) ≡ taking (contents s v)
  pub others : (m : ℕ) → m ≢ n → walk_record after m ≡ walk_record ws m
  pub sizes : SlicesFit after

pub record Closed (ws : WalkSlices) (n : ℕ) (after : WalkSlices) : Type 0 where
  pub record_is : walk_record after n ≡ closed_record
  pub others : (m : ℕ) → m ≢ n → walk_record after m ≡ walk_record ws m
  pub sizes : SlicesFit after

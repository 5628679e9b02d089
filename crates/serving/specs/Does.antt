-- What an operation does to a running state that passes its checks is what it does to the plain table.
use Rattle.std.specs.Prelude.{◌≡◌, ◌≢◌, List, ℕ, ◌≤◌, set}
use Rattle.meaning.specs.Table.{Version, Party, party_at}
use Rattle.meaning.specs.Frames.{Frame}
use Rattle.meaning.specs.Operations.{Op, release, close_walk, giver, taker}
use Rattle.meaning.specs.Costs.{cost}
use Rattle.meaning.specs.Checks.{source_of, left_of}
use Rattle.meaning.specs.Effects.{effect}
use Rattle.frames.specs.Run.{Run, seen_in, supply_in}
use Rattle.frames.specs.Serve.{done, fresh_in}
use Rattle.serving.specs.States.{Runs, table_in}

-- the slots and walks of the parties that a frame names
abbrev pub giver_in : Run → Frame → Party
giver_in r f = party_at (table_in r) (giver f)

abbrev pub taker_in : Run → Frame → Party
taker_in r f = party_at (table_in r) (taker f)

-- the source version and what is left of the walk, as the plain table has them
abbrev pub version_for : Run → Frame → Version
version_for r f = source_of (giver_in r f) f

abbrev pub left_for : Run → Frame → List ℕ
left_for r f = left_of (giver_in r f) f

abbrev pub effect_on : Op → Run → Frame → Party × ℕ
effect_on o r f = effect o (supply_in r) f (version_for r f) (left_for r f) (taker_in r f)

pub record Does (o : Op) (r : Run) (f : Frame) : Type 0 where
  pub runs : Runs (done o r f).run
  pub table : table_in (done o r f).run ≡ set (table_in r) (taker f) (effect_on o r f).0
  pub value : (done o r f).value ≡ (effect_on o r f).1
  -- the fall in free nodes, which rise with a release or a close alone
  pub fresh : fresh_in r (done o r f).run ≡ (cost o (seen_in r f).bits (seen_in r f).length).fresh
  pub falls : o ≢ release → o ≢ close_walk → (done o r f).run.store.free ≤ r.store.free

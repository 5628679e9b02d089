-- The parts of the code's state as the run that they hold.
use Rattle.std.specs.Prelude.{List, ℕ}
use Rattle.records.specs.Records.{records_of}
use Rattle.records.specs.declared.Version.{Version}
use Rattle.store.specs.Lent.{held}
use Rattle.store.specs.declared.Store.{Store}
use Rattle.walk.specs.Walk.{walks_of}
use Rattle.walk.specs.declared.Walks.{Walks}
use Rattle.frames.specs.Run.{Run}
use Rattle.runs.specs.Runs.{run_of}

abbrev pub state_of : Store → (cells order : List ℕ) → List Version → Walks → Run
state_of s cells order vs ws = run_of (held s cells order) (records_of vs) (walks_of ws)

-- A running state as the lent state that it is, and the plain table that it stands for.
use Rattle.meaning.specs.Lent.{Lent}
use Rattle.meaning.specs.Table.{Table}
use Rattle.meaning.specs.Stands.{table_of}
use Rattle.ledger.specs.Kept.{store_in}
use Rattle.upkeep.specs.Running.{state_of, Running}
use Rattle.frames.specs.Run.{Run}

abbrev pub lent_in : Run → Lent
lent_in r = state_of r.store r.versions r.walks

-- what a batch carries from a lent state on
abbrev pub run_in : Lent → Run
run_in s = record { store = store_in s; versions = s.versions; walks = s.walks }

abbrev pub Runs : Run → Type 0
Runs r = Running r.store r.versions r.walks

abbrev pub table_in : Run → Table
table_in r = table_of (lent_in r)

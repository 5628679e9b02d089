-- The records of the code as those of the meaning.
use Rattle.std.specs.Prelude.{List, map, ℕ}
use Rattle.meaning.specs.Lent.{VersionRecord}
use Rattle.records.specs.declared.Version.{Version}

abbrev pub live_version : (root bits length : ℕ) → Version
live_version n b m = record { live = 1; root = n; bits = b; length = m }

abbrev pub lengthened : Version → (length : ℕ) → Version
lengthened v m = record { live = v.live; root = v.root; bits = v.bits; length = m }

abbrev pub record_of : Version → VersionRecord
record_of v = record { live = v.live; root = v.root; bits = v.bits; length = v.length }

-- all of a table's
abbrev pub records_of : List Version → List VersionRecord
records_of vs = map record_of vs

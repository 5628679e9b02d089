-- The version table as a slice of a host's and as a value: 64 records, copied whole or not at all.
use Rattle.std.specs.Prelude.{ℕ, Bool, true, cond, ◌&&◌, List, eqb, length, replicate}
use Rattle.meaning.specs.Limits.{version_count}
use Rattle.records.specs.declared.Version.{Version}

-- the record that stands for one that is not there
abbrev pub blank : Version
blank = record { live = 0; root = 0; bits = 0; length = 0 }

abbrev pub blanks : List Version
blanks = replicate version_count blank

-- whether a slice of that many records is copied, where it is to be
abbrev pub copies : (wanted : Bool) → (count : ℕ) → Bool
copies wanted n = wanted && eqb n version_count

-- how many records are copied then: all or none
abbrev pub copied : (wanted : Bool) → (count : ℕ) → ℕ
copied wanted n = cond (copies wanted n) version_count 0

-- the table of a slice: of one that has another length, 64 blank records
abbrev pub table_of : List Version → List Version
table_of xs = cond (copies true (length xs)) xs blanks

-- the slice after a table is stored in it: one that has another length stays as it is
abbrev pub stored : (wanted : Bool) → (table : List Version) → List Version → List Version
stored wanted t xs = cond (copies wanted (length xs)) t xs

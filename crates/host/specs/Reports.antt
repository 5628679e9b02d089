-- What the exported calls report, and what a batch promises of a table that was copied out of so many records.
use Rattle.std.specs.Prelude.{◌≡◌, ◌≢◌, List, ℕ, eqb, length}
use Rattle.meaning.specs.Limits.{version_count, done_number}
use Rattle.meaning.specs.Lent.{Lent}
use Rattle.records.specs.declared.Version.{Version}
use Rattle.lending.specs.Lending.{refusal_of}
use Rattle.batch.specs.Batched.{Batches}
use Rattle.host.specs.declared.Done.{Done}

-- the table is stored if the call is done
abbrev pub reported_with : (number frames : ℕ) → List Version → Done
reported_with n k vs = record { report = record { number = n; frames = k }; stores = eqb n done_number; versions = vs }

-- a batch: records of another number than 64 are no well-formed state's, and nothing is written
pub record BatchesOf (count : ℕ) (s after : Lent) (requests room room_after : List ℕ) (r : Done) : Type 0 where
  pub whole : count ≡ version_count → Batches s after requests room room_after r.report.number r.report.frames
  pub other : count ≢ version_count
      → (r.report.number ≡ refusal_of (length requests) (length room)) × (r.report.frames ≡ 0) × (after ≡ s) × (room_after ≡ room)
  pub stores : r.stores ≡ eqb r.report.number done_number

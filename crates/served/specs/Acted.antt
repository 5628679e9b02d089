-- What a call makes of the store and of the one version record that it may change, and what it answers.
use Rattle.std.specs.Prelude.{ℕ, ◌%◌, Ok, Err}
use Rattle.meaning.specs.Lent.{VersionRecord}
use Rattle.meaning.specs.Frames.{Answer}
use Rattle.records.specs.Records.{record_of}
use Rattle.store.specs.Store.{Store}
use Rattle.requests.specs.Requests.{answer_of}
use Rattle.vector.specs.Calls.{Called, number_of}
use Rattle.vector.specs.Calls as vector
use Rattle.served.specs.declared.Served.{Served}

pub record Acted : Type 0 where
  pub store : Store
  pub version : VersionRecord
  pub answer : Answer

-- an answer of the code, and the store beside it
abbrev pub acted_of : Store → Served → Acted
acted_of s r = record { store = s; version = record_of r.version; answer = answer_of r.answer }

-- ---- a call of the vector

abbrev pub copied_in : vector.Answer → ℕ
copied_in (Ok e) = e.copied
copied_in (Err r) = 0

abbrev pub version_after : vector.Answer → (old : VersionRecord) → VersionRecord
version_after (Ok e) old = record_of e.version
version_after (Err r) old = old

unfoldable pub edited : (old : VersionRecord) → Called → Acted
edited old c =
    record {
      store = c.store;
      version = version_after c.answer old;
      answer = record { number = number_of c.answer; fresh = copied_in c.answer % 256; value = 0 };
    }

-- The answer of a frame for each answer of a call: the number of document 01, fresh and value, beside the free nodes and the version record.
use Rattle.std.specs.declared.cmp.Ordering.{Ordering}
use Rattle.std.specs.Prelude.{ℕ, ◌%◌, Option, Some, None, Ok, Err}
use Rattle.meaning.specs.Limits.{done_number, nothing_there_number}
use Rattle.meaning.specs.Effects.{signed}
use Rattle.records.specs.declared.Version.{Version}
use Rattle.compare.specs.Compare.{sign_of}
use Rattle.requests.specs.Requests.{answer_with}
use Rattle.vector.specs.declared.Edit.{Edit}
use Rattle.vector.specs.Calls.{refusal_number}
use Rattle.vector.specs.Calls as vector
use Rattle.served.specs.declared.Served.{Served}

abbrev pub served_with : (number fresh value free : ℕ) → Version → Served
served_with n k x f v = record { answer = answer_with n k x; free = f; version = v }

-- fresh and value are 0, and the record stays
abbrev pub refused_with : (number free : ℕ) → (old : Version) → Served
refused_with n f old = served_with n 0 0 f old

abbrev pub answered_with : (value free : ℕ) → Version → Served
answered_with x f v = served_with done_number 0 x f v

-- the fall in free nodes is what was copied
abbrev pub served_done : Edit → (free : ℕ) → Served
served_done e f = served_with done_number (e.copied % 256) 0 f e.version

abbrev pub edited_with : vector.Answer → (free : ℕ) → (old : Version) → Served
edited_with (Ok e) f old = served_done e f
edited_with (Err r) f old = refused_with (refusal_number r) f old

abbrev pub got_with : Option ℕ → (free : ℕ) → (old : Version) → Served
got_with (Some x) f old = answered_with x f old
got_with None f old = refused_with nothing_there_number f old

abbrev pub ordered_with : Ordering → (free : ℕ) → (old : Version) → Served
ordered_with o f old = answered_with (signed (sign_of o)) f old

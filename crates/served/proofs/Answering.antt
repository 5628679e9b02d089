-- Each answer of a call as a frame's: the assembly of what the code tells of it.
use Rattle.std.specs.Prelude.{Ok, Err}
use mathlib.Core.Path.{◌≡◌, refl, ap, ◌∙◌}
use Prim.Native.Nat.{ℕ}
use Rattle.records.specs.Records.{record_of}
use Rattle.records.specs.declared.Version.{Version}
use Rattle.store.specs.Store.{Store}
use Rattle.vector.specs.Calls.{Called, called_of}
use Rattle.vector.specs.Calls as vector
use Rattle.vector.specs.declared.Refused.TheVariants.{BadBits, NothingThere, Full, NoNodes}
use Rattle.served.specs.declared.Served.{Served}
use Rattle.served.specs.Served.{edited_with}
use Rattle.served.specs.Acted.{acted_of, edited}

-- ---- a call of the vector, and what is served of it

of-called : (s : Store) (f : ℕ) (e : vector.Answer) (old : Version) → acted_of s (edited_with e f old) ≡ edited (record_of old) (called_of s e)
unfolding edited
of-called s f (Ok e) old = refl
of-called s f (Err BadBits) old = refl
of-called s f (Err NothingThere) old = refl
of-called s f (Err Full) old = refl
of-called s f (Err NoNodes) old = refl

pub edited-acts : (s : Store) (f : ℕ) (e : vector.Answer) (old : Version) (r : Served) (call : Called) → r ≡ edited_with e f old → called_of s e ≡ call
    → acted_of s r ≡ edited (record_of old) call
edited-acts s f e old r call h q = rw h (of-called s f e old ∙ ap (edited (record_of old)) q)

-- What the code makes of each operation is the model's.
use mathlib.Core.Path.{◌≡◌, ap}
use mathlib.Core.Logic.{◌≢◌}
use mathlib.Core.Bool.{true, false, ◌||◌}
use Prim.Native.Nat.{ℕ}
use lib.Dec.{eqb}
use borrow.Author.Tests.{eq-eqb, ne_eqb}
use Rattle.meaning.specs.Limits.{new_code, clone_code, set_code, push_back_code, hand_over_code}
use Rattle.meaning.specs.Lent.{VersionRecord, empty_record}
use Rattle.meaning.specs.Frames.{Frame}
use Rattle.records.specs.Records.{record_of}
use Rattle.records.specs.declared.Version.{Version}
use Rattle.store.specs.Store.{Store}
use Rattle.sweep.specs.Sweep as sweep
use Rattle.paths.specs.Edits.{Edit, share_edit}
use Rattle.vector.specs.Calls.{called_of, new_call, set_call, push_call, drop_call}
use Rattle.vector.specs.Ready.{edit_of}
use Rattle.vector.specs.Calls as vector
use Rattle.served.specs.Served.{answered_with, edited_with}
use Rattle.served.specs.Acted.{Acted, acted_of}
use Rattle.served.specs.declared.Served.{Served}
use Rattle.served.proofs.Answering.{edited-acts}
use Rattle.edits.specs.Edits.{valued, shared_act, released_act, path_act, edit_act}

-- ---- a call of the vector

module _ (s s' : Store) (f : Frame) (v : VersionRecord) (free : ℕ) (e : vector.Answer) (old : Version) (r : Served) (told : r ≡ edited_with e free old) where
  pub new-acts : f.operation ≡ new_code → called_of s' e ≡ new_call s f.index → acted_of s' r ≡ edit_act s f v (record_of old)
  unfolding edit_act
  new-acts t q = rw (eq-eqb f.operation new_code t) (edited-acts s' free e old r _ told q)

  pub set-acts : f.operation ≡ set_code → called_of s' e ≡ set_call s v f.index f.value → acted_of s' r ≡ path_act s f v (record_of old)
  unfolding path_act
  set-acts t q = rw (eq-eqb f.operation set_code t) (edited-acts s' free e old r _ told q)

  pub push-acts : f.operation ≢ set_code → f.operation ≡ push_back_code → called_of s' e ≡ push_call s v f.value → acted_of s' r ≡ path_act s f v (record_of old)
  unfolding path_act
  push-acts n t q = rw (ne_eqb f.operation set_code n, eq-eqb f.operation push_back_code t) (edited-acts s' free e old r _ told q)

  pub drop-acts : f.operation ≢ set_code → f.operation ≢ push_back_code → called_of s' e ≡ drop_call s v → acted_of s' r ≡ path_act s f v (record_of old)
  unfolding path_act
  drop-acts n m q = rw (ne_eqb f.operation set_code n, ne_eqb f.operation push_back_code m) (edited-acts s' free e old r _ told q)

-- ---- a link more, a link less

pub shares : (s s' : Store) (v : VersionRecord) (w : Version) (r : Served) → edit_of s' (record_of w) ≡ share_edit s v → r ≡ answered_with 0 s'.free w → acted_of s' r ≡ shared_act s v
unfolding shared_act
shares s s' v w r p h = rw h (ap (λ (e : Edit). record { store = e.store; version = e.version; answer = valued 0 }) p)

pub releases : (s s' : Store) (v : VersionRecord) (w : Version) (r : Served) → s' ≡ sweep.release s v.root → record_of w ≡ empty_record → r ≡ answered_with 0 s'.free w
    → acted_of s' r ≡ released_act s v
unfolding released_act
releases s s' v w r p q h = rw (h, p, q)

-- ---- which operation

module _ (s : Store) (f : Frame) (v old : VersionRecord) (a : Acted) (n : f.operation ≢ new_code) where
  pub edit-shares : eqb f.operation clone_code || eqb f.operation hand_over_code ≡ true → a ≡ shared_act s v → a ≡ edit_act s f v old
  unfolding edit_act
  edit-shares t p = rw (ne_eqb f.operation new_code n, t) p

  pub edit-paths : eqb f.operation clone_code || eqb f.operation hand_over_code ≡ false → a ≡ path_act s f v old → a ≡ edit_act s f v old
  unfolding edit_act
  edit-paths t p = rw (ne_eqb f.operation new_code n, t) p

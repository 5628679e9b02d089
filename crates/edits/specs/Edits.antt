-- What the operations that edit make of the store and of the one version record that they change, in the order in which the code asks for them.
use Rattle.std.specs.Prelude.{cond, ◌||◌, ℕ, eqb}
use Rattle.meaning.specs.Limits.{new_code, clone_code, set_code, push_back_code, hand_over_code, done_number}
use Rattle.meaning.specs.Lent.{VersionRecord, empty_record}
use Rattle.meaning.specs.Frames.{Frame, Answer}
use Rattle.shape.specs.Legal.{Legal}
use Rattle.store.specs.Store.{Store}
use Rattle.sweep.specs.Ready.{Releasable}
use Rattle.sweep.specs.Sweep as sweep
use Rattle.paths.specs.Edits.{share_edit}
use Rattle.vector.specs.Calls.{new_call, set_call, push_call, drop_call}
use Rattle.vector.specs.Ready.{Linkable, Editable, SetWay, PushWay, DropWay}
use Rattle.served.specs.Acted.{Acted, edited}

-- every call can be made on a version
pub record Able (s : Store) (v : VersionRecord) : Type 0 where
  pub legal : Legal v.bits v.length
  pub link : Linkable s.counts v.root
  pub release : Releasable s v.root
  pub set : (index : ℕ) → Editable s v (SetWay s v index)
  pub push : Editable s v (PushWay s v)
  pub drop : Editable s v (DropWay s v)

-- done, with no fresh node
abbrev pub valued : (value : ℕ) → Answer
valued x = record { number = done_number; fresh = 0; value = x }

unfoldable pub shared_act : Store → VersionRecord → Acted
shared_act s v = record { store = (share_edit s v).store; version = (share_edit s v).version; answer = valued 0 }

unfoldable pub released_act : Store → VersionRecord → Acted
released_act s v = record { store = sweep.release s v.root; version = empty_record; answer = valued 0 }

unfoldable pub path_act : Store → Frame → (source old : VersionRecord) → Acted
path_act s f v old =
    cond (eqb f.operation set_code) (edited old (set_call s v f.index f.value))
    (cond (eqb f.operation push_back_code) (edited old (push_call s v f.value))
    (edited old (drop_call s v)))

unfoldable pub edit_act : Store → Frame → (source old : VersionRecord) → Acted
edit_act s f v old =
    cond (eqb f.operation new_code) (edited old (new_call s f.index))
    (cond (eqb f.operation clone_code || eqb f.operation hand_over_code) (shared_act s v)
    (path_act s f v old))

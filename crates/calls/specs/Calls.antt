-- What a frame that passes the first six checks makes of the store, of the walk records and of the one version record that it may change, in the order in which the code asks for its operation.
use Rattle.std.specs.Prelude.{◌≡◌, Bool, true, cond, ◌||◌, ℕ, ◌≤◌, eqb}
use Rattle.meaning.specs.Limits.{max_nodes, new_code, clone_code, release_code, set_code, push_back_code, drop_last_code, open_walk_code, next_code, next_back_code, close_walk_code, hand_over_code, compare_code}
use Rattle.meaning.specs.Lent.{VersionRecord, WalkSlices}
use Rattle.meaning.specs.Frames.{Frame}
use Rattle.shape.specs.Legal.{Legal}
use Rattle.records.specs.declared.Version.{Version}
use Rattle.store.specs.Store.{Store}
use Rattle.vector.specs.Ready.{Steady}
use Rattle.requests.specs.Requests.{answer_of}
use Rattle.served.specs.Acted.{Acted}
use Rattle.edits.specs.Edits.{Able, released_act, edit_act}
use Rattle.calls.specs.Reads.{sourced, read_with}
use Rattle.calls.specs.Walks.{WalkActed, OnWalk, walk_act}
use Rattle.calls.specs.Walks as walks

abbrev pub with_walks : Acted → WalkSlices → WalkActed
with_walks a ws = walks.with_walks a ws

-- what the operations that leave the walks alone ask of a state
pub record Sources (s : Store) (f : Frame) (v w : VersionRecord) : Type 0 where
  pub few : s.free ≤ max_nodes
  pub steady : Steady s
  pub source : sourced f.operation ≡ true → Able s v
  pub other : f.operation ≡ compare_code → Legal w.bits w.length

-- a record of the meaning as one of the code
abbrev pub code_record : VersionRecord → Version
code_record v = record { live = v.live; root = v.root; bits = v.bits; length = v.length }

abbrev pub is_edit : (operation : ℕ) → Bool
is_edit n = eqb n new_code || eqb n clone_code || eqb n set_code || eqb n push_back_code || eqb n drop_last_code || eqb n hand_over_code

abbrev pub is_walk : (operation : ℕ) → Bool
is_walk n = eqb n next_code || eqb n next_back_code || eqb n open_walk_code || eqb n close_walk_code

pub record Serviceable (s : Store) (ws : WalkSlices) (f : Frame) (v w : VersionRecord) : Type 0 where
  pub sources : Sources s f v w
  pub walks : is_walk f.operation ≡ true → OnWalk s ws f v

-- nothing changes but the answer
unfoldable pub read_act : Store → Frame → (source other old : VersionRecord) → Acted
read_act s f v w old =
    let r = read_with s.nodes.cells s.free f (code_record v) (code_record w) (code_record old) in
    walks.acted s old (answer_of r.answer)

unfoldable pub store_act : Store → Frame → (source other old : VersionRecord) → Acted
store_act s f v w old =
    cond (is_edit f.operation) (edit_act s f v old)
    (cond (eqb f.operation release_code) (released_act s v)
    (read_act s f v w old))

unfoldable pub act : Store → WalkSlices → Frame → (source other old : VersionRecord) → WalkActed
act s ws f v w old = cond (is_walk f.operation) (walk_act s ws f v old) (with_walks (store_act s f v w old) ws)

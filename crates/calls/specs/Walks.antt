-- What the operations on walks make of the store and of the walk records.
use Rattle.std.specs.Prelude.{◌≡◌, ◌≢◌, cond, [], ◌∷◌, ℕ, ◌+◌, ◌*◌, ◌%◌, eqb, Option, Some, None}
use Rattle.meaning.specs.Limits.{parties, party_walks, open_walk_code, next_back_code, close_walk_code, nothing_there_number}
use Rattle.meaning.specs.Lent.{VersionRecord, WalkSlices}
use Rattle.meaning.specs.Frames.{Frame, Answer}
use Rattle.meaning.specs.Serve.{refused}
use Rattle.records.specs.declared.Version.{Version}
use Rattle.store.specs.Store.{Store, raised}
use Rattle.sweep.specs.Ready.{Releasable}
use Rattle.sweep.specs.Sweep as sweep
use Rattle.vector.specs.Ready.{Linkable}
use Rattle.walk.specs.Walk.{version_of_walk, Walkable, Step, taken_by}
use Rattle.walk.specs.Walk as walk
use Rattle.served.specs.Served.{answered_with, got_with}
use Rattle.served.specs.Acted.{Acted}
use Rattle.served.specs.declared.Served.{Served}
use Rattle.edits.specs.Edits.{valued}

-- the place of a party's walk among all; what is not there has some place too
abbrev pub place_of : (party walk : ℕ) → ℕ
place_of p n = party_walks * (p % parties) + n % party_walks

abbrev pub used_place : Frame → ℕ
used_place f = place_of f.party f.slot

abbrev pub opened_place : Frame → ℕ
opened_place f = place_of f.party f.destination

-- ---- each operation

pub record Opens (s : Store) (ws : WalkSlices) (n : ℕ) (v : VersionRecord) (old : Version) (after : Store) (walks_after : WalkSlices) (r : Served) : Type 0 where
  pub linked : after ≡ raised s (v.root ∷ [])
  pub recorded : walks_after ≡ walk.opened ws n v
  pub answer : r ≡ answered_with 0 s.free old

pub record Closes (s : Store) (ws : WalkSlices) (n : ℕ) (old : Version) (after : Store) (walks_after : WalkSlices) (r : Served) : Type 0 where
  pub store : after ≡ sweep.release s (version_of_walk ws.numbers n).root
  pub walks : walks_after ≡ walk.closed ws n
  pub answer : r ≡ answered_with 0 r.free old

pub record Steps (t : Step) (free : ℕ) (old : Version) (walks_after : WalkSlices) (r : Served) : Type 0 where
  pub walks : walks_after ≡ t.slices
  pub answer : r ≡ got_with t.answer free old

-- ---- all four

-- what they ask of a state
pub record OnWalk (s : Store) (ws : WalkSlices) (f : Frame) (v : VersionRecord) : Type 0 where
  pub opening : f.operation ≡ open_walk_code → Linkable s.counts v.root
  pub closing : f.operation ≡ close_walk_code → Releasable s (version_of_walk ws.numbers (used_place f)).root
  pub taking : f.operation ≢ open_walk_code → f.operation ≢ close_walk_code → Walkable ws.numbers (used_place f)

pub record WalkActed : Type 0 where
  pub acted : Acted
  pub walks : WalkSlices

abbrev pub with_walks : Acted → WalkSlices → WalkActed
with_walks a ws = record { acted = a; walks = ws }

unfoldable pub answer_of : Option ℕ → Answer
answer_of (Some x) = valued x
answer_of None = refused nothing_there_number

abbrev pub acted : Store → VersionRecord → Answer → Acted
acted s v a = record { store = s; version = v; answer = a }

unfoldable pub walk_act : Store → WalkSlices → Frame → (source old : VersionRecord) → WalkActed
walk_act s ws f v old =
    let t = taken_by s.nodes.cells s.nodes.used (eqb f.operation next_back_code) ws (used_place f) in
    cond (eqb f.operation open_walk_code) (with_walks (acted (raised s (v.root ∷ [])) old (valued 0)) (walk.opened ws (opened_place f) v))
    (cond (eqb f.operation close_walk_code)
    (with_walks (acted (sweep.release s (version_of_walk ws.numbers (used_place f)).root) old (valued 0)) (walk.closed ws (used_place f)))
    (with_walks (acted s old (answer_of t.answer)) t.slices))

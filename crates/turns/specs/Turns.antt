-- One frame on the records that it names.
use Rattle.std.specs.Prelude.{◌≡◌, Bool, false, cond, ◌&&◌, List, ℕ, ◌+◌, ◌*◌, ◌%◌, ltb, eqb}
use Rattle.meaning.specs.Limits.{parties, party_slots, party_walks, release_code, done_number}
use Rattle.meaning.specs.Lent.{VersionRecord, WalkSlices}
use Rattle.meaning.specs.Frames.{Frame}
use Rattle.meaning.specs.Operations.{op_of, giver, taker}
use Rattle.meaning.specs.Checks.{Standing, entry_checks, first_of}
use Rattle.meaning.specs.Serve.{refused}
use Rattle.store.specs.Store.{Store}
use Rattle.walk.specs.Walk.{number_at}
use Rattle.frames.specs.Run.{walk_place}
use Rattle.refusals.specs.Uses.{standing}
use Rattle.calls.specs.Walks.{WalkActed, acted}
use Rattle.calls.specs.Calls.{Serviceable, with_walks, act}

-- the place of a party's slot among all; what is not there has some place too
abbrev pub place_of : (party slot : ℕ) → ℕ
place_of p n = party_slots * (p % parties) + n % party_slots

-- which of the two places a frame may change
abbrev pub changed_in : Frame → (source target : ℕ) → ℕ
changed_in f s t = cond (eqb f.operation release_code) s t

-- a walk that is not there is closed
abbrev pub is_open_at : (numbers : List ℕ) → (party walk : ℕ) → Bool
is_open_at ns p n = cond (ltb p parties && ltb n party_walks) (eqb (number_at ns (walk_place p n) 0) 1) false

unfoldable pub standing_in : WalkSlices → Frame → (source target : VersionRecord) → Standing
standing_in ws f v w =
    standing (eqb v.live 1) (eqb w.live 1) (is_open_at ws.numbers (giver f) f.slot) (is_open_at ws.numbers (taker f) f.destination)

-- the first of the checks 1 to 6 that applies
abbrev pub entry_number : WalkSlices → Frame → (source target : VersionRecord) → ℕ
entry_number ws f v w = first_of (entry_checks (op_of f) f (standing_in ws f v w))

abbrev pub Turnable : Store → WalkSlices → Frame → (source target : VersionRecord) → Type 0
Turnable s ws f v w = entry_number ws f v w ≡ done_number → Serviceable s ws f v w

unfoldable pub turn : Store → WalkSlices → Frame → (source target old : VersionRecord) → WalkActed
turn s ws f v w old =
    let n = entry_number ws f v w in
    cond (eqb n done_number) (act s ws f v w old) (with_walks (acted s old (refused n)) ws)

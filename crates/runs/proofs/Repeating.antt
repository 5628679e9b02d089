-- Frames answered in a row are steps of the model.
use Rattle.std.specs.Prelude.{Some, None}
use mathlib.Core.Path.{◌≡◌, refl, ap, ◌∙◌}
use mathlib.Core.Logic.{◌⊎◌, inl, inr}
use mathlib.Core.Bool.{Bool, true, false, cond, ◌&&◌, ◌||◌}
use mathlib.Core.List.{List}
use Prim.Native.Nat.{ℕ, zero, suc, ◌+◌, ◌*◌, ◌≤◌, ◌<◌}
use native.Mathlib.Nat.{lt_irrefl}
use native.Mathlib.Omega.{arith}
use lib.Dec.{ltb, eqb}
use lib.ListN.{set}
use lib.Seq.{get_or-set_other}
use borrow.Author.Tests.{lt-ltb, le-ltb, eq-eqb, eqb-true, ltb-true}
use Rattle.meaning.specs.Limits.{last_party, last_slot, last_walk, parties, party_slots, party_walks, walk_numbers, get_code, next_code, next_back_code, done_number}
use Rattle.meaning.specs.Counting.{bit}
use Rattle.meaning.specs.Lent.{VersionRecord, WalkSlices, WalkRecord, walk_record}
use Rattle.meaning.specs.Trees.{height_of}
use Rattle.meaning.specs.Frames.{Frame, Answer, encode}
use Rattle.meaning.specs.Operations.{get, next, next_back, operations, op_of, anyone, uses, owner_or, giver}
use Rattle.meaning.specs.Checks.{no_fault, faults, any_field, ◌if◌, entry_checks, first_of}
use Rattle.meaning.proofs.Booleans.{both_true}
use Rattle.records.specs.Records.{record_of}
use Rattle.records.specs.declared.Version.{Version}
use Rattle.lookup.specs.Lookup.{element_in, got}
use Rattle.store.specs.Store.{Store}
use Rattle.levels.specs.Levels.{Taken}
use Rattle.walk.specs.Walk as walk
use Rattle.walk.specs.Walk.{number_at, is_ended, taken_of, taken_by}
use Rattle.requests.specs.Requests.{put, frame_in, answer_place}
use Rattle.frames.specs.Run.{Run, walk_place, version_in, walk_in, seen_in, supply_in}
use Rattle.frames.specs.Serve.{verdict, serve}
use Rattle.edits.specs.Edits.{valued}
use Rattle.calls.specs.Walks.{answer_of}
use Rattle.repeats.specs.InARow.{is_get, after_gets, is_step, Walked, after_steps}
use Rattle.serving.specs.States.{Runs}
use Rattle.serving.proofs.Passing.{entry-passes}
use Rattle.serving.proofs.Seeing.{walk_here}
use Rattle.answering.proofs.Calling.{walk-place-here, stays}
use Rattle.answering.proofs.Reading.{get-turns}
use Rattle.answering.proofs.Walking.{next-turns, next-back-turns}
use Rattle.runs.specs.Runs.{run_of, Progress, progress, step, run_from}
use Rattle.runs.proofs.Stepping.{step-runs}

-- ---- one get

module _ (r : Run) (p n d i x : ℕ) where
  abbrev get_frame : Frame
  get_frame = record { party = p; operation = get_code; slot = n; destination = d; index = i; value = x }

  get-enters : p < parties → n < party_slots → (version_in r p n).live ≡ 1 → first_of (entry_checks get get_frame (seen_in r get_frame).standing) ≡ done_number
  unfolding entry_checks ◌if◌ first_of uses anyone any_field faults no_fault seen_in giver owner_or op_of operations
  get-enters lp ln live = rw (le-ltb last_party p (omega arith), le-ltb last_slot n (omega arith), eq-eqb _ 1 live)

  pub get-serves : p < parties → n < party_slots → (version_in r p n).live ≡ 1 → i < (version_in r p n).length
      → let v = version_in r p n in serve r get_frame ≡ (r, valued (element_in r.store.nodes.cells v.bits (height_of v) v.root i))
  unfolding serve verdict op_of operations giver owner_or uses anyone got
  get-serves lp ln live li =
      rw (entry-passes get (supply_in r) get_frame (seen_in r get_frame) (get-enters lp ln live)) (get-turns r get_frame ∙ rw (lt-ltb i (version_in r p n).length li, stays r get_frame))

-- ---- one step of a walk

module _ (r : Run) (p n d i x : ℕ) where
  abbrev step_frame : (operation : ℕ) → Frame
  step_frame o = record { party = p; operation = o; slot = n; destination = d; index = i; value = x }

  abbrev place : ℕ
  place = walk_place p n

  abbrev Served : (operation : ℕ) (back : Bool) → Type 0
  Served o back =
      let t = taken_by r.store.nodes.cells r.store.nodes.used back r.walks place in
      serve r (step_frame o) ≡ (run_of r.store r.versions t.slices, answer_of t.answer)

  module _ (lp : p < parties) (ln : n < party_walks) (alive : (walk_in r p n).version.live ≡ 1) where
    next-enters : first_of (entry_checks next (step_frame next_code) (seen_in r (step_frame next_code)).standing) ≡ done_number
    unfolding entry_checks ◌if◌ first_of uses anyone any_field faults no_fault seen_in giver owner_or op_of operations
    next-enters = rw (le-ltb last_party p (omega arith), le-ltb last_walk n (omega arith), eq-eqb _ 1 alive)

    next-back-enters : first_of (entry_checks next_back (step_frame next_back_code) (seen_in r (step_frame next_back_code)).standing) ≡ done_number
    unfolding entry_checks ◌if◌ first_of uses anyone any_field faults no_fault seen_in giver owner_or op_of operations
    next-back-enters = rw (le-ltb last_party p (omega arith), le-ltb last_walk n (omega arith), eq-eqb _ 1 alive)

    pub next-serves : Served next_code false
    unfolding serve verdict op_of operations giver owner_or uses anyone
    next-serves =
        rw (entry-passes next (supply_in r) (step_frame next_code) (seen_in r (step_frame next_code)) next-enters)
        (next-turns r (step_frame next_code) (walk-place-here p n lp ln) (walk_here r p n lp ln) ∙ rw (walk-place-here p n lp ln, stays r (step_frame next_code)))

    pub next-back-serves : Served next_back_code true
    unfolding serve verdict op_of operations giver owner_or uses anyone
    next-back-serves =
        rw (entry-passes next_back (supply_in r) (step_frame next_back_code) (seen_in r (step_frame next_back_code)) next-back-enters)
        (next-back-turns r (step_frame next_back_code) (walk-place-here p n lp ln) (walk_here r p n lp ln) ∙ rw (walk-place-here p n lp ln, stays r (step_frame next_back_code)))

-- from either end
abbrev pub Way : (operation : ℕ) (back : Bool) → Type 0
Way o back = ((o ≡ next_code) × (back ≡ false)) ⊎ ((o ≡ next_back_code) × (back ≡ true))

step-serves : (r : Run) (p n d i x : ℕ) → p < parties → n < party_walks → (walk_in r p n).version.live ≡ 1 → (o : ℕ) (back : Bool) → Way o back → Served r p n d i x o back
step-serves r p n d i x lp ln alive o back (inl (e, h)) = rw (e, h) (next-serves r p n d i x lp ln alive)
step-serves r p n d i x lp ln alive o back (inr (e, h)) = rw (e, h) (next-back-serves r p n d i x lp ln alive)

pub open_in : (r : Run) (p n : ℕ) → p < parties → n < party_walks → number_at r.walks.numbers (walk_place p n) 0 ≡ 1 → (walk_in r p n).version.live ≡ 1
unfolding walk_record
open_in r p n lp ln e = ap (λ (w : WalkRecord). w.version.live) (walk_here r p n lp ln) ∙ e

-- a step leaves a walk open
open_stays : (cells used : List ℕ) (back : Bool) (ws : WalkSlices) (n : ℕ) → number_at (taken_by cells used back ws n).slices.numbers n 0 ≡ number_at ws.numbers n 0
unfolding taken_by
open_stays cells used back ws n = pick (is_ended ws.numbers n)
  where
    counted : List ℕ
    counted = set ws.numbers (walk_numbers * n + (4 + bit back)) (number_at ws.numbers n (4 + bit back) + 1)

    t : Taken
    t = taken_of cells used back ws n

    pick : (b : Bool) → number_at (cond b (walk.stepped ws None) (walk.stepped (walk.slices counted t.levels.nodes t.levels.indices) (Some t.element))).slices.numbers n 0 ≡ number_at ws.numbers n 0
    pick true = refl
    pick false = get_or-set_other ws.numbers _ _ _ 0 (λ q. lt_irrefl 0 (omega arith))

-- ---- what the tests of a frame tell

pub either : (a b : Bool) → a || b ≡ true → (a ≡ true) ⊎ (b ≡ true)
either true b e = inl refl
either false b e = inr e

get-told : (p n l : ℕ) (f : Frame) → is_get p n l f ≡ true → (f.party ≡ p) × (f.operation ≡ get_code) × (f.slot ≡ n) × (f.index < l)
get-told p n l f t =
    let x = both_true (eqb f.party p && eqb f.operation get_code && eqb f.slot n) (ltb f.index l) t in
    let y = both_true (eqb f.party p && eqb f.operation get_code) (eqb f.slot n) x.0 in
    let z = both_true (eqb f.party p) (eqb f.operation get_code) y.0 in
    (eqb-true _ _ z.0, eqb-true _ _ z.1, eqb-true _ _ y.1, ltb-true _ _ x.1)

step-told : (p o n : ℕ) (f : Frame) → is_step p o n f ≡ true → (f.party ≡ p) × (f.operation ≡ o) × (f.slot ≡ n)
step-told p o n f t =
    let x = both_true (eqb f.party p && eqb f.operation o) (eqb f.slot n) t in
    let y = both_true (eqb f.party p) (eqb f.operation o) x.0 in
    (eqb-true _ _ y.0, eqb-true _ _ y.1, eqb-true _ _ x.1)

-- ---- frames in a row

-- a frame of which three fields are known
framed : (f : Frame) (p o n : ℕ) → f.party ≡ p → f.operation ≡ o → f.slot ≡ n
    → f ≡ record { party = p; operation = o; slot = n; destination = f.destination; index = f.index; value = f.value }
framed f p o n a b c =
    ap (λ (x : ℕ). record { party = x; operation = f.operation; slot = f.slot; destination = f.destination; index = f.index; value = f.value }) a
    ∙ (ap (λ (x : ℕ). record { party = p; operation = x; slot = f.slot; destination = f.destination; index = f.index; value = f.value }) b
    ∙ ap (λ (x : ℕ). record { party = p; operation = o; slot = x; destination = f.destination; index = f.index; value = f.value }) c)

module _ (requests : List ℕ) where
  -- the last of so many frames
  pub run-last : (m : ℕ) (p : Progress) (k : ℕ) → run_from requests (suc m) p k ≡ step requests (run_from requests m p k) (k + m)
  unfolding run_from
  run-last zero p k = let here : k + 0 ≡ k = omega arith in rw here
  run-last (suc m) p k = let there : (k + 1) + m ≡ k + suc m = omega arith in run-last m (step requests p k) (k + 1) ∙ rw there

  pub run-splits : (m n : ℕ) (p : Progress) (k : ℕ) → run_from requests (m + n) p k ≡ run_from requests n (run_from requests m p k) (k + m)
  unfolding run_from
  run-splits zero n p k = let all : 0 + n ≡ n = omega arith in let here : k + 0 ≡ k = omega arith in rw (all, here)
  run-splits (suc m) n p k =
      let more : suc m + n ≡ suc (m + n) = omega arith in
      let there : (k + 1) + m ≡ k + suc m = omega arith in
      rw more (run-splits m n (step requests p k) (k + 1) ∙ rw there)

  pub run-runs : (m : ℕ) (p : Progress) (k : ℕ) → Runs p.run → Runs (run_from requests m p k).run
  unfolding run_from
  run-runs zero p k r = r
  run-runs (suc m) p k r = run-runs m (step requests p k) (k + 1) (step-runs requests p k r)

  -- ---- gets

  module _ (r : Run) (p n : ℕ) (v : Version) (lp : p < parties) (ln : n < party_slots) (here : version_in r p n ≡ record_of v) (live : v.live ≡ 1) where
    abbrev item : (index : ℕ) → ℕ
    item i = element_in r.store.nodes.cells v.bits (height_of (record_of v)) v.root i

    get-steps : (k : ℕ) (room : List ℕ) → is_get p n v.length (frame_in requests k) ≡ true
        → step requests (progress r room) k ≡ progress r (put room (answer_place k) (encode (valued (item (frame_in requests k).index))))
    unfolding step
    get-steps k room t =
        let f : Frame = frame_in requests k in
        let told = get-told p n v.length f t in
        let within : f.index < (version_in r p n).length = rw here told.3 in
        let alive : (version_in r p n).live ≡ 1 = ap (λ (w : VersionRecord). w.live) here ∙ live in
        let found : serve r f ≡ (r, valued (item f.index)) =
        ap (serve r) (framed f p get_code n told.0 told.1 told.2)
        ∙ (get-serves r p n f.destination f.index f.value lp ln alive within
        ∙ ap (λ (w : VersionRecord). (r, valued (element_in r.store.nodes.cells w.bits (height_of w) w.root f.index))) here) in
        ap (λ (y : Run × Answer). progress y.0 (put room (answer_place k) (encode y.1))) found

    pub gets_run : (m k : ℕ) (room : List ℕ) → ((i : ℕ) → k ≤ i → i < k + m → is_get p n v.length (frame_in requests i) ≡ true)
        → run_from requests m (progress r room) k ≡ progress r (after_gets r.store.nodes.cells v requests room k m)
    unfolding after_gets run_from
    gets_run zero k room all = refl
    gets_run (suc m) k room all =
        run-last m (progress r room) k
        ∙ (ap (λ (q : Progress). step requests q (k + m)) (gets_run m k room (λ i a b. all i a (omega arith))) ∙ get-steps (k + m) _ (all (k + m) (omega arith) (omega arith)))

  -- ---- steps

  module _ (s : Store) (vs : List VersionRecord) (p o n : ℕ) (back : Bool) (lp : p < parties) (ln : n < party_walks) (way : Way o back) where
    step-steps : (ws : WalkSlices) (room : List ℕ) (k : ℕ) → number_at ws.numbers (walk_place p n) 0 ≡ 1 → is_step p o n (frame_in requests k) ≡ true
        → let t = taken_by s.nodes.cells s.nodes.used back ws (walk_place p n) in
        step requests (progress (run_of s vs ws) room) k ≡ progress (run_of s vs t.slices) (put room (answer_place k) (encode (answer_of t.answer)))
    unfolding step
    step-steps ws room k alive t =
        let f : Frame = frame_in requests k in
        let told = step-told p o n f t in
        ap (λ (y : Run × Answer). progress y.0 (put room (answer_place k) (encode y.1)))
        (ap (serve (run_of s vs ws)) (framed f p o n told.0 told.1 told.2)
        ∙ step-serves (run_of s vs ws) p n f.destination f.index f.value lp ln (open_in (run_of s vs ws) p n lp ln alive) o back way)

    module _ (k : ℕ) (w : Walked) (alive : number_at w.walks.numbers (walk_place p n) 0 ≡ 1) where
      abbrev after : (m : ℕ) → Walked
      after m = after_steps s.nodes.cells s.nodes.used back (walk_place p n) w k m

      open_after : (m : ℕ) → number_at (after m).walks.numbers (walk_place p n) 0 ≡ 1
      unfolding after_steps
      open_after zero = alive
      open_after (suc m) = open_stays s.nodes.cells s.nodes.used back (after m).walks (walk_place p n) ∙ open_after m

      pub steps-run : (m : ℕ) → ((i : ℕ) → k ≤ i → i < k + m → is_step p o n (frame_in requests i) ≡ true)
          → run_from requests m (progress (run_of s vs w.walks) w.room) k ≡ progress (run_of s vs (after m).walks) (after m).room
      unfolding after_steps run_from
      steps-run zero all = refl
      steps-run (suc m) all =
          run-last m (progress (run_of s vs w.walks) w.room) k
          ∙ (ap (λ (q : Progress). step requests q (k + m)) (steps-run m (λ i a b. all i a (omega arith)))
          ∙ step-steps (after m).walks (after m).room (k + m) (open_after m) (all (k + m) (omega arith) (omega arith)))

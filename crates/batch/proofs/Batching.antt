-- Each end of a batch is the one that is promised.
use mathlib.Core.Path.{◌≡◌, refl, sym, ap, ◌∙◌}
use mathlib.Core.Logic.{◌≢◌, ◌↔◌}
use mathlib.Core.Bool.{Bool, true, false, cond, not}
use mathlib.Core.List.{List, ◌++◌}
use Prim.Native.Nat.{ℕ, suc, ◌*◌, ◌/◌, ◌%◌, ◌≤◌, ◌<◌}
use lib.ListN.{length, drop}
use borrow.Author.Tests.{eq-eqb, ne_eqb, lt-ltb, le-ltb}
use Rattle.meaning.specs.Limits.{frame_size, answer_size, done_number}
use Rattle.meaning.specs.Counting.{divides}
use Rattle.meaning.specs.Lent.{VersionRecord, WalkSlices, Lent, free_nodes}
use Rattle.meaning.specs.WellFormed.{WellFormed}
use Rattle.meaning.specs.Stands.{table_of}
use Rattle.meaning.specs.Frames.{Frame}
use Rattle.meaning.specs.Checks.{◌if◌, first_of}
use Rattle.meaning.specs.Batch.{batch_checks, answer_bytes, outcome, batch}
use Rattle.upkeep.proofs.Doors.{well-formed-runs}
use Rattle.store.specs.Store.{Store}
use Rattle.audit.specs.Audited.{Judged}
use Rattle.frames.specs.Run.{Run}
use Rattle.serving.specs.States.{lent_in, run_in}
use Rattle.serving.specs.Served.{serve_all}
use Rattle.serving.specs.Lending.{after_all, replies, free_at}
use Rattle.serving.proofs.Demands.{demand2}
use Rattle.runs.specs.Runs.{run_of, Progress, progress, run_from, CanRun}
use Rattle.runs.proofs.All.{run-all}
use Rattle.batch.specs.Batched.{all_frames, state_after, Batches}

-- ---- one proposition, one boolean

pub one-decision : (P : Type 0) (a b : Bool) → ((a ≡ true) ↔ P) → ((b ≡ true) ↔ P) → a ≡ b
one-decision P true true p q = refl
one-decision P false false p q = refl
one-decision P true false p q = sym (q.1 (p.0 refl))
one-decision P false true p q = p.1 (q.0 refl)

module _ (s : Lent) (requests room : List ℕ) where
  abbrev frames : List Frame
  frames = all_frames requests

  -- ---- refused

  refused : (n : ℕ) → ((well : Bool) → ((well ≡ true) ↔ WellFormed s) → first_of (batch_checks well requests room) ≡ suc n) → Batches s s requests room room (suc n) 0
  unfolding batch outcome state_after
  refused n h = record { plain = λ well d. rw (h well d); formed = λ w. w; state = refl }

  pub ragged : length requests % frame_size ≢ 0 → Batches s s requests room room 13 0
  unfolding batch_checks ◌if◌ first_of divides
  ragged h = refused 12 (λ well d. rw (ne_eqb (length requests % frame_size) 0 h))

  module _ (whole : length requests % frame_size ≡ 0) where
    pub no_room : length room < answer_size * (length requests / frame_size) → Batches s s requests room room 12 0
    unfolding batch_checks ◌if◌ first_of divides
    no_room h = refused 11 (λ well d. rw (eq-eqb (length requests % frame_size) 0 whole, lt-ltb (length room) (answer_size * (length requests / frame_size)) h))

    module _ (fits : answer_size * (length requests / frame_size) ≤ length room) (ok : Bool) (free : ℕ) (judged : Judged s ok free) where
      pub ill-formed : not ok ≡ true → Batches s s requests room room 11 0
      unfolding batch_checks ◌if◌ first_of divides
      ill-formed h = refused 10 (λ well d.
          let same : not well ≡ true = ap not (one-decision (WellFormed s) well ok d judged.ok) ∙ h in
          rw (eq-eqb (length requests % frame_size) 0 whole, le-ltb (length room) (answer_size * (length requests / frame_size)) fits, same))

      -- ---- served

      module _ (passed : not ok ≡ false) where
        ok-is : ok ≡ true
        ok-is = pick ok passed
          where
            pick : (b : Bool) → not b ≡ false → b ≡ true
            pick true h = refl
            pick false h = sym h

        well-formed : WellFormed s
        well-formed = judged.ok.0 ok-is

        free-is : free ≡ free_nodes s.nodes
        free-is = judged.free ∙ ap (λ (b : Bool). cond b (free_nodes s.nodes) 0) ok-is

        -- the state with the number of free nodes that the audit found
        abbrev begun : Run
        begun = run_of (record { nodes = s.nodes; counts = s.counts; order = s.order; free = free }) s.versions s.walks

        begun-is : begun ≡ run_in s
        begun-is = ap (λ (n : ℕ). run_of (record { nodes = s.nodes; counts = s.counts; order = s.order; free = n }) s.versions s.walks) free-is

        pub can-run : frame_size * (length requests / frame_size) ≤ length requests → CanRun begun requests room (length requests / frame_size)
        can-run l = record { runs = rw free-is (well-formed-runs s well-formed); asked = l; fits = fits }

        no-check : first_of (batch_checks true requests room) ≡ done_number
        unfolding batch_checks ◌if◌ first_of divides
        no-check = rw (eq-eqb (length requests % frame_size) 0 whole, le-ltb (length room) (answer_size * (length requests / frame_size)) fits)

        pub served-as : batch true requests room (free_at s frames) (table_of s)
            ≡ record { number = done_number; frames = length requests / frame_size; room = answer_bytes (replies s frames) ++ drop (answer_size * (length requests / frame_size)) room; table = table_of (after_all s frames) }
        unfolding outcome
        served-as = demand2.batches s requests room well-formed ∙ rw no-check

        pub served : (r : Run) (room_after : List ℕ) → progress r room_after ≡ run_from requests (length requests / frame_size) (progress begun room) 0
            → Batches s (lent_in r) requests room room_after done_number (length requests / frame_size)
        unfolding state_after
        served r room_after e =
            let all : progress r room_after ≡ progress (serve_all (run_in s) frames).0 (answer_bytes (replies s frames) ++ drop (answer_size * (length requests / frame_size)) room) =
            e ∙ (ap (λ (x : Run). run_from requests (length requests / frame_size) (progress x room) 0) begun-is ∙ run-all requests room (length requests / frame_size) (run_in s)) in
            let state : lent_in r ≡ after_all s frames = ap (λ (p : Progress). lent_in p.run) all in
            let bytes : room_after ≡ answer_bytes (replies s frames) ++ drop (answer_size * (length requests / frame_size)) room = ap (λ (p : Progress). p.room) all in
            record {
              plain = λ well d. rw (one-decision (WellFormed s) well ok d judged.ok ∙ ok-is, served-as, state, bytes);
              formed = λ w. rw state (demand2.all s frames w).formed;
              state = state;
            }

-- ---- what is reported

pub moved : (s a b : Lent) (requests room room_after : List ℕ) (n k : ℕ) → a ≡ b → Batches s a requests room room_after n k → Batches s b requests room room_after n k
moved s a b requests room room_after n k e h = rw (← e) h

-- ---- walk records copied out and back

module _ (s : Store) (vs : List VersionRecord) (requests room : List ℕ) (n : ℕ) (copied lent : WalkSlices) (e : copied ≡ lent) where
  pub loads : CanRun (run_of s vs lent) requests room n → CanRun (run_of s vs copied) requests room n
  loads c = rw e c

  pub stores : (after : Store) (ws : List VersionRecord) (room_after : List ℕ) (left stored : WalkSlices) → stored ≡ left
      → progress (run_of after ws left) room_after ≡ run_from requests n (progress (run_of s vs copied) room) 0
      → progress (run_of after ws stored) room_after ≡ run_from requests n (progress (run_of s vs lent) room) 0
  stores after ws room_after left stored p q = rw (p, ← e) q

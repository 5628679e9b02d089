-- A turn of the loop is a step of the model, and the state runs on.
use mathlib.Core.Path.{◌≡◌, refl, sym, ap, ◌∙◌}
use mathlib.Core.Bool.{Bool, true, false, cond, ◌&&◌}
use mathlib.Core.List.{List, [], ◌∷◌}
use Prim.Native.Nat.{ℕ, zero, suc, ◌+◌, ◌-◌, ◌*◌, ◌≤◌, ◌<◌}
use native.Mathlib.Decide.{dec_lt}
use native.Mathlib.Omega.{arith}
use lib.Dec.{ltb, eqb}
use lib.ListN.{length, get_or, set, get_or-map}
use borrow.Author.Tests.{lt-ltb, le-ltb}
use Rattle.meaning.specs.Limits.{parties, party_slots, version_count, release_code}
use Rattle.meaning.specs.Lent.{VersionRecord, empty_record, WalkSlices}
use Rattle.meaning.specs.Frames.{Frame, Answer, encode}
use Rattle.meaning.specs.Operations.{giver, taker}
use Rattle.records.specs.Records.{record_of, records_of}
use Rattle.records.specs.declared.Version.{Version}
use Rattle.store.specs.Store.{Store, node_count}
use Rattle.requests.specs.Requests.{answer_of, put, frame_in, answer_place}
use Rattle.frames.specs.Run.{Run, version_in, source_in, target_in}
use Rattle.frames.specs.Serve.{serve}
use Rattle.served.specs.Acted.{acted_of}
use Rattle.served.specs.declared.Served.{Served}
use Rattle.calls.specs.Walks.{WalkActed}
use Rattle.calls.specs.Calls.{with_walks}
use Rattle.turns.specs.Turns.{place_of, changed_in, Turnable, turn}
use Rattle.serving.specs.States.{Runs}
use Rattle.serving.proofs.Serving.{frame-serves}
use Rattle.answering.specs.Turned.{old_in, turned}
use Rattle.answering.proofs.Ready.{turn-able}
use Rattle.answering.proofs.Calling.{place_here}
use Rattle.answering.proofs.Answering.{turn-serves}
use Rattle.runs.specs.Runs.{Placed, source_from, target_from, run_of, Progress, progress, step, run_from, Going}

-- ---- the table

abbrev zeros : Version
zeros = record { live = 0; root = 0; bits = 0; length = 0 }

record-at : (table : List Version) (i : ℕ) → record_of (get_or table i zeros) ≡ get_or (records_of table) i empty_record
record-at table i = sym (get_or-map record_of table i zeros)

pub record-there : (table : List Version) (i j : ℕ) → i ≡ j → record_of (get_or table i zeros) ≡ get_or (records_of table) j empty_record
record-there table i j e = record-at table i ∙ ap (λ (n : ℕ). get_or (records_of table) n empty_record) e

records-set : (table : List Version) (i : ℕ) (v : Version) → records_of (set table i v) ≡ set (records_of table) i (record_of v)
records-set [] i v = refl
records-set (x ∷ table) zero v = refl
records-set (x ∷ table) (suc i) v = ap (λ (vs : List VersionRecord). record_of x ∷ vs) (records-set table i v)

-- ---- places

either-below : (b : Bool) (m n k : ℕ) → m < k → n < k → cond b m n < k
either-below true m n k l h = l
either-below false m n k l h = h

pub placed : (f : Frame) (g t source target changed : ℕ) → g ≡ giver f → t ≡ taker f → source ≡ place_of g f.slot → target ≡ place_of t f.destination
    → changed ≡ changed_in f source target → source < version_count → target < version_count → Placed f source target changed
placed f g t source target changed eg et es ed ec ls lt =
    let source_is : source ≡ place_of (giver f) f.slot = es ∙ ap (λ (p : ℕ). place_of p f.slot) eg in
    let target_is : target ≡ place_of (taker f) f.destination = ed ∙ ap (λ (p : ℕ). place_of p f.destination) et in
    record {
      source_is = source_is;
      target_is = target_is;
      changed_is = ec ∙ (ap (λ (n : ℕ). changed_in f n target) source_is ∙ ap (λ (n : ℕ). changed_in f (place_of (giver f) f.slot) n) target_is);
      source_below = ls;
      target_below = lt;
      changed_below = rw ec (either-below (eqb f.operation release_code) source target version_count ls lt);
    }

-- what is read at the place of a slot is the model's
read_at : (r : Run) (table : List Version) (p n i : ℕ) → r.versions ≡ records_of table → i ≡ place_of p n
    → cond (ltb p parties && ltb n party_slots) (record_of (get_or table i zeros)) empty_record ≡ version_in r p n
unfolding version_in
read_at r table p n i v e = pick (dec_lt p parties) (dec_lt n party_slots)
  where
    pick : Dec (p < parties) → Dec (n < party_slots)
        → cond (ltb p parties && ltb n party_slots) (record_of (get_or table i zeros)) empty_record ≡ cond (ltb p parties && ltb n party_slots) (get_or r.versions (party_slots * p + n) empty_record) empty_record
    pick (yes a) (yes b) =
        rw (lt-ltb p parties a, lt-ltb n party_slots b, v) (record-at table i ∙ ap (λ (j : ℕ). get_or (records_of table) j empty_record) (e ∙ place_here p n a b))
    pick (yes a) (no b) = rw (lt-ltb p parties a, le-ltb n party_slots (omega arith))
    pick (no a) d = rw (le-ltb p parties (omega arith))

-- ---- the slots of a frame, there or not

pub picked : (p q n : ℕ) (there : Bool) (v x : VersionRecord) → there ≡ ltb q parties && ltb n party_slots → q ≡ p → v ≡ cond there x empty_record
    → v ≡ cond (ltb p parties && ltb n party_slots) x empty_record
picked p q n there v x e h t = t ∙ ap (λ (b : Bool). cond b x empty_record) (e ∙ ap (λ (m : ℕ). ltb m parties && ltb n party_slots) h)

module _ (s : Store) (ws : WalkSlices) (f : Frame) (v x w y : VersionRecord) (e : v ≡ x) (h : w ≡ y) where
  pub turnable-for : Turnable s ws f x y → Turnable s ws f v w
  turnable-for t = rw (e, h) t

  pub turn-for : (old : VersionRecord) (a : WalkActed) → a ≡ turn s ws f v w old → a ≡ turn s ws f x y old
  turn-for old a t = t ∙ rw (e, h)

-- ---- one turn

module _ (s : Store) (table : List Version) (ws : WalkSlices) (f : Frame) (source target changed : ℕ) (at : Placed f source target changed) where
  abbrev now : Run
  now = run_of s (records_of table) ws

  source-read : source_from f (record_of (get_or table source zeros)) ≡ source_in now f
  source-read = read_at now table (giver f) f.slot source refl at.source_is

  target-read : target_from f (record_of (get_or table target zeros)) ≡ target_in now f
  target-read = read_at now table (taker f) f.destination target refl at.target_is

  old-read : record_of (get_or table changed zeros) ≡ old_in now f
  old-read = record-there table changed _ at.changed_is

  pub can-turn : Runs now → Turnable s ws f (source_from f (record_of (get_or table source zeros))) (target_from f (record_of (get_or table target zeros)))
  can-turn k = rw (source-read, target-read) (turn-able now f k)

  module _ (after : Store) (walks_after : WalkSlices) (r : Served)
      (acts : with_walks (acted_of after r) walks_after
      ≡ turn s ws f (source_from f (record_of (get_or table source zeros))) (target_from f (record_of (get_or table target zeros))) (record_of (get_or table changed zeros))) where
    abbrev answer : Answer
    answer = answer_of r.answer

    pub served : Runs now → (run_of after (records_of (set table changed r.version)) walks_after, answer) ≡ serve now f
    served k =
        let same : with_walks (acted_of after r) walks_after ≡ turn s ws f (source_in now f) (target_in now f) (old_in now f) = acts ∙ rw (source-read, target-read, old-read) in
        sym (turn-serves now f k ∙ (ap (turned now f) (sym same) ∙ rw (records-set table changed r.version, at.changed_is)))

pub serve-steps : (requests room room_after : List ℕ) (k : ℕ) (f : Frame) (r after : Run) (a : Answer) → (after, a) ≡ serve r f → f ≡ frame_in requests k
    → room_after ≡ put room (answer_place k) (encode a) → progress after room_after ≡ step requests (progress r room) k
unfolding step
serve-steps requests room room_after k f r after a e ef h =
    ap (progress after) h
    ∙ (ap (λ (x : Run × Answer). progress x.0 (put room (answer_place k) (encode x.1))) e
    ∙ ap (λ (g : Frame). progress (serve r g).0 (put room (answer_place k) (encode (serve r g).1))) ef)

-- ---- the loop

pub step-runs : (requests : List ℕ) (p : Progress) (k : ℕ) → Runs p.run → Runs (step requests p k).run
unfolding step
step-runs requests p k runs = (frame-serves p.run (frame_in requests k) runs).runs

module _ (requests : List ℕ) (count : ℕ) (start : Progress) where
  pub begins : Runs start.run → Going requests count start start 0
  begins k = let all : count - 0 ≡ count = omega arith in record { far = omega arith; runs = k; size = refl; fits = refl; goes = rw all }

  run_step : (p : Progress) (k : ℕ) → k < count → run_from requests (count - k) p k ≡ run_from requests (count - (k + 1)) (step requests p k) (k + 1)
  unfolding run_from
  run_step p k l = let left : count - k ≡ suc (count - (k + 1)) = omega arith in rw left

  pub goes_on : (p q : Progress) (k : ℕ) → Going requests count start p k → k < count → q ≡ step requests p k → node_count q.run.store ≡ node_count p.run.store
      → length q.room ≡ length p.room → Going requests count start q (k + 1)
  goes_on p q k g l e n m = record {
    far = omega arith;
    runs = rw e (step-runs requests p k g.runs);
    size = n ∙ g.size;
    fits = m ∙ g.fits;
    goes = ap (λ (x : Progress). run_from requests (count - (k + 1)) x (k + 1)) e ∙ (sym (run_step p k l) ∙ g.goes);
  }

  pub ends : (p : Progress) (k : ℕ) → Going requests count start p k → count ≤ k → p ≡ run_from requests count start 0
  unfolding run_from
  ends p k g l = let none : count - k ≡ 0 = omega arith in ap (λ (m : ℕ). run_from requests m p k) (sym none) ∙ g.goes

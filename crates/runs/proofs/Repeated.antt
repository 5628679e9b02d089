-- What answering frames in a row asks of a running state, and what it makes of it.
use mathlib.Core.Path.{◌≡◌, refl, sym, ap, ◌∙◌}
use mathlib.Core.Logic.{◌⊎◌, inl, inr}
use mathlib.Core.Bool.{Bool, true, false, cond, ◌&&◌, ◌||◌, false≢true}
use mathlib.Core.List.{List}
use Prim.Native.Nat.{ℕ, ◌+◌, ◌-◌, ◌≤◌, ◌<◌}
use native.Mathlib.Omega.{arith}
use lib.Dec.{ltb, eqb}
use lib.ListN.{length, get_or}
use borrow.Author.Tests.{eqb-true}
use Rattle.meaning.specs.Limits.{parties, party_slots, party_walks, get_code, next_code, next_back_code}
use Rattle.meaning.specs.Lent.{VersionRecord, empty_record, WalkSlices, walk_record}
use Rattle.meaning.specs.Frames.{Frame}
use Rattle.meaning.specs.Operations.{unknown, operations, op_of, anyone, uses, owner_or, giver}
use Rattle.meaning.proofs.Booleans.{both_true, both_below}
use Rattle.records.specs.Records.{record_of}
use Rattle.records.specs.declared.Version.{Version}
use Rattle.shape.specs.Legal.{Legal}
use Rattle.store.specs.Store.{Store, node_count}
use Rattle.walk.specs.Walk.{number_at, Walkable}
use Rattle.frames.specs.Run.{Run, slot_place, walk_place, version_in}
use Rattle.turns.specs.Turns.{place_of, is_open_at}
use Rattle.repeats.specs.InARow.{Roomy, after_gets, Gets, Walked, walked, after_steps, Steps}
use Rattle.serving.specs.States.{Runs}
use Rattle.serving.proofs.Seeing.{version-here, walk_here, version-legal, walk-legal, live-is, open_is}
use Rattle.answering.proofs.Calling.{place_here}
use Rattle.runs.specs.Runs.{run_of, Progress, progress, run_from, Repeatable, Repeats, Going}
use Rattle.runs.proofs.Repeating.{either, Way, open_in, run-splits, run-runs, gets_run, steps-run}

-- ---- places that are there

-- an opened walk is there
open_told : (numbers : List ℕ) (p n : ℕ) → is_open_at numbers p n ≡ true → (p < parties) × (n < party_walks) × (number_at numbers (walk_place p n) 0 ≡ 1)
open_told numbers p n e = pick (ltb p parties && ltb n party_walks) refl e
  where
    pick : (b : Bool) → ltb p parties && ltb n party_walks ≡ b → cond b (eqb (number_at numbers (walk_place p n) 0) 1) false ≡ true → (p < parties) × (n < party_walks) × (number_at numbers (walk_place p n) 0 ≡ 1)
    pick true h q = let x = both_below p n parties party_walks h in (x.0, x.1, eqb-true _ _ q)
    pick false h q = absurd (false≢true q)

giver-gets : (f : Frame) → f.operation ≡ get_code → giver f ≡ f.party
unfolding giver op_of operations uses anyone owner_or
giver-gets f e = ap (λ (n : ℕ). owner_or (uses (get_or operations n unknown)).index f.index f.party) e

-- what stands at the place of a get's source is the version in its slot
source_is : (r : Run) (f : Frame) (v : VersionRecord) → f.operation ≡ get_code → f.party < parties → f.slot < party_slots → v ≡ get_or r.versions (place_of (giver f) f.slot) empty_record
    → version_in r f.party f.slot ≡ v
source_is r f v o lp ln e =
    let place : place_of (giver f) f.slot ≡ slot_place f.party f.slot = ap (λ (p : ℕ). place_of p f.slot) (giver-gets f o) ∙ place_here f.party f.slot lp ln in
    version-here r f.party f.slot lp ln ∙ (ap (λ (n : ℕ). get_or r.versions n empty_record) (sym place) ∙ sym e)

-- ---- what it asks

module _ (r : Run) (k : Runs r) where
  version-runs : (p n : ℕ) → (version_in r p n).live ≡ 1 → Legal (version_in r p n).bits (version_in r p n).length
  version-runs p n e = let l = live-is r.store.nodes (version-legal r p n k) e in record { bits = l.bits; length = l.length }

  walk-runs : (p n : ℕ) → is_open_at r.walks.numbers p n ≡ true → Walkable r.walks.numbers (walk_place p n)
  unfolding walk_record
  walk-runs p n e =
      let (lp, ln, opened) = open_told r.walks.numbers p n e in
      let o = rw (walk_here r p n lp ln) at (open_is r.store.nodes (walk-legal r p n k) (open_in r p n lp ln opened)) in
      record { walk = omega arith; legal = record { bits = o.version.bits; length = o.version.length }; taken = o.taken }

  pub repeatable : (f : Frame) (v : VersionRecord) (requests room : List ℕ) (i count : ℕ) → Roomy requests room i count → v ≡ get_or r.versions (place_of (giver f) f.slot) empty_record
      → Repeatable r.walks f v requests room i count
  repeatable f v requests room i count roomy e = record {
    roomy = roomy;
    legal = λ o there live. legal o there live;
    walkable = λ o opened. walk-runs f.party f.slot opened;
  }
    where
      legal : f.operation ≡ get_code → ltb f.party parties && ltb f.slot party_slots ≡ true → v.live ≡ 1 → Legal v.bits v.length
      legal o there live =
          let (lp, ln) = both_below f.party f.slot parties party_slots there in
          let same : version_in r f.party f.slot ≡ v = source_is r f v o lp ln e in
          rw same at (version-runs f.party f.slot (ap (λ (w : VersionRecord). w.live) same ∙ live))

-- ---- what it makes of it

stands : (requests room : List ℕ) (k : ℕ) (r : Run) → progress r room ≡ run_from requests (k - k) (progress r room) k
unfolding run_from
stands requests room k r = let none : k - k ≡ 0 = omega arith in rw none

module _ (ws : WalkSlices) (f : Frame) (v : Version) (requests room : List ℕ) (k count : ℕ) (asked : Repeatable ws f (record_of v) requests room k count) where
  pub repeats-none : (cells used : List ℕ) → Repeats cells used ws ws f (record_of v) requests room room k count k
  repeats-none cells used = record { from = omega arith; to = asked.roomy.far; serves = λ s vs ec eu ev. stands requests room k (run_of s vs ws) }

  -- ---- gets

  module _ (there : Bool) (et : there ≡ ltb f.party parties && ltb f.slot party_slots) (t : eqb f.operation get_code && there && eqb v.live 1 ≡ true) where
    gets-told : (f.operation ≡ get_code) × (ltb f.party parties && ltb f.slot party_slots ≡ true) × (v.live ≡ 1)
    gets-told =
        let x = both_true (eqb f.operation get_code && there) (eqb v.live 1) t in
        let y = both_true (eqb f.operation get_code) there x.0 in
        (eqb-true _ _ y.0, sym et ∙ y.1, eqb-true _ _ x.1)

    pub gets-asked : Legal v.bits v.length
    gets-asked = asked.legal gets-told.0 gets-told.1 gets-told.2

    pub repeats-gets : (cells used room_after : List ℕ) (end : ℕ) → Gets cells f.party f.slot v requests room room_after k count end
        → Repeats cells used ws ws f (record_of v) requests room room_after k count end
    repeats-gets cells used room_after end g = record { from = g.row.from; to = g.row.to; serves = λ s vs ec eu ev. serves s vs ec ev }
      where
        serves : (s : Store) (vs : List VersionRecord) → s.nodes.cells ≡ cells → get_or vs (place_of (giver f) f.slot) empty_record ≡ record_of v
            → progress (run_of s vs ws) room_after ≡ run_from requests (end - k) (progress (run_of s vs ws) room) k
        serves s vs ec ev =
            let (lp, ln) = both_below f.party f.slot parties party_slots gets-told.1 in
            let here : version_in (run_of s vs ws) f.party f.slot ≡ record_of v = source_is (run_of s vs ws) f (record_of v) gets-told.0 lp ln (sym ev) in
            let far : k + (end - k) ≡ end = omega (arith, g.row.from) in
            let ran = gets_run requests (run_of s vs ws) f.party f.slot v lp ln here gets-told.2 (end - k) k room (λ i a b. g.row.all i a (omega arith)) in
            ap (progress (run_of s vs ws)) (g.answers ∙ ap (λ (cs : List ℕ). after_gets cs v requests room k (end - k)) (sym ec)) ∙ sym ran

  -- ---- steps

  module _ (opened : Bool) (eo : opened ≡ is_open_at ws.numbers f.party f.slot) (t : (eqb f.operation next_code || eqb f.operation next_back_code) && opened ≡ true) where
    steps-told : ((f.operation ≡ next_code) ⊎ (f.operation ≡ next_back_code)) × (is_open_at ws.numbers f.party f.slot ≡ true)
    steps-told =
        let x = both_true (eqb f.operation next_code || eqb f.operation next_back_code) opened t in
        (which (either (eqb f.operation next_code) (eqb f.operation next_back_code) x.0), sym eo ∙ x.1)
      where
        which : (eqb f.operation next_code ≡ true) ⊎ (eqb f.operation next_back_code ≡ true) → (f.operation ≡ next_code) ⊎ (f.operation ≡ next_back_code)
        which (inl e) = inl (eqb-true _ _ e)
        which (inr e) = inr (eqb-true _ _ e)

    pub steps-asked : (n : ℕ) → n ≡ walk_place f.party f.slot → Walkable ws.numbers n
    steps-asked n e = rw e (asked.walkable steps-told.0 steps-told.1)

    way : (f.operation ≡ next_code) ⊎ (f.operation ≡ next_back_code) → Way f.operation (eqb f.operation next_back_code)
    way (inl e) = inl (e, ap (λ (n : ℕ). eqb n next_back_code) e)
    way (inr e) = inr (e, ap (λ (n : ℕ). eqb n next_back_code) e)

    pub repeats-steps : (cells used : List ℕ) (n : ℕ) (ws_after : WalkSlices) (room_after : List ℕ) (end : ℕ) → n ≡ walk_place f.party f.slot
        → Steps cells used f.party f.operation f.slot (eqb f.operation next_back_code) n (walked ws room) (walked ws_after room_after) requests k count end
        → Repeats cells used ws ws_after f (record_of v) requests room room_after k count end
    repeats-steps cells used n ws_after room_after end e g = record { from = g.row.from; to = g.row.to; serves = λ s vs ec eu ev. serves s vs ec eu }
      where
        serves : (s : Store) (vs : List VersionRecord) → s.nodes.cells ≡ cells → s.nodes.used ≡ used
            → progress (run_of s vs ws_after) room_after ≡ run_from requests (end - k) (progress (run_of s vs ws) room) k
        serves s vs ec eu =
            let (lp, ln, opened) = open_told ws.numbers f.party f.slot steps-told.1 in
            let far : k + (end - k) ≡ end = omega (arith, g.row.from) in
            let ran = steps-run requests s vs f.party f.operation f.slot (eqb f.operation next_back_code) lp ln (way steps-told.0) k (walked ws room) opened (end - k) (λ i a b. g.row.all i a (omega arith)) in
            let stepped : walked ws_after room_after ≡ after_steps s.nodes.cells s.nodes.used (eqb f.operation next_back_code) (walk_place f.party f.slot) (walked ws room) k (end - k) =
            rw (ec, eu, ← e) g.steps in
            ap (λ (w : Walked). progress (run_of s vs w.walks) w.room) stepped ∙ sym ran

-- ---- the loop

pub goes-far : (requests : List ℕ) (count : ℕ) (start p q : Progress) (k end : ℕ) → Going requests count start p k → k ≤ end → end ≤ count → q ≡ run_from requests (end - k) p k
    → node_count q.run.store ≡ node_count p.run.store → length q.room ≡ length p.room → Going requests count start q end
goes-far requests count start p q k end g l m e n h =
    let sum : (end - k) + (count - end) ≡ count - k = omega arith in
    let far : k + (end - k) ≡ end = omega arith in
    let splits = run-splits requests (end - k) (count - end) p k in
    record {
      far = m;
      runs = rw e (run-runs requests (end - k) p k g.runs);
      size = n ∙ g.size;
      fits = h ∙ g.fits;
      goes = rw e (sym (rw (sum, far) at splits) ∙ g.goes);
    }

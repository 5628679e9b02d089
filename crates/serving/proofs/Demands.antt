-- Demand 2.
use mathlib.Core.Path.{◌≡◌, refl, sym, ap, ◌∙◌}
use mathlib.Core.Logic.{◌≢◌, ◌↔◌}
use mathlib.Core.Bool.{true, not}
use mathlib.Core.List.{List, [], ◌∷◌}
use Prim.Native.Nat.{ℕ, zero, suc, ◌-◌, ◌/◌}
use native.Mathlib.Decide.{ℕ_discrete}
use native.Mathlib.Omega.{arith}
use lib.ListN.{length, take, drop}
use borrow.Author.Tests.{not-true, eqb-false, ne_eqb}
use Rattle.meaning.specs.Limits.{frame_size, free_kind}
use Rattle.meaning.specs.Lent.{kind_of, Lent, free_nodes}
use Rattle.meaning.specs.Links.{roots, Reached}
use Rattle.meaning.specs.WellFormed.{WellFormed}
use Rattle.meaning.specs.Table.{party_at}
use Rattle.meaning.specs.Stands.{table_of}
use Rattle.meaning.specs.Frames.{Frame, decode}
use Rattle.meaning.specs.Operations.{op_of, giver, taker}
use Rattle.meaning.specs.Supply.{all_free, no_limit}
use Rattle.meaning.specs.Checks.{checks, first_of, seen_by}
use Rattle.meaning.specs.Serve.{Call, run}
use Rattle.meaning.specs.Batch.{batch_checks, calls_in, outcome, batch}
use Rattle.meaning.proofs.Answers as answers
use Rattle.ledger.proofs.Reaching.{free-nodes, free-rest}
use Rattle.upkeep.proofs.Doors.{well-formed-runs, running-formed}
use Rattle.frames.specs.Run.{Run}
use Rattle.frames.specs.Serve.{fresh_in, serve}
use Rattle.serving.specs.States.{lent_in, run_in, Runs}
use Rattle.serving.specs.Served.{serve_all, calls_from}
use Rattle.serving.specs.Lending.{after, answer, after_all, supply_of, calls, frames_in, free_at}
use Rattle.serving.specs.Demand2.{Answered, ShortExactly, AllAnswered, BatchAnswered, in_use, FreeAreRest, Demand2}
use Rattle.serving.proofs.Agreeing.{verdict-agrees}
use Rattle.serving.proofs.Serving.{frame-serves, all-serve}
use Rattle.serving.proofs.Refusing.{serve-number, serve-fresh}
use Rattle.serving.proofs.Shortage.{short-exactly}

pub runs-formed : (r : Run) → Runs r → WellFormed (lent_in r)
runs-formed r k = running-formed r.store r.versions r.walks k

-- the number of free nodes that is carried is the number of free nodes
pub free-carried : (r : Run) → Runs r → free_nodes r.store.nodes ≡ r.store.free
free-carried r k = free-nodes k.kept

-- so nothing is lost between two frames
pub run-again : (r : Run) → Runs r → run_in (lent_in r) ≡ r
run-again r k =
    ap (λ (n : ℕ). record { store = record { nodes = r.store.nodes; counts = r.store.counts; order = r.store.order; free = n }; versions = r.versions; walks = r.walks })
    (free-carried r k)

-- ---- free nodes

in_use_lem : (s : Lent) (n : ℕ) → (in_use s n ≡ true) ↔ (kind_of s.nodes n ≢ free_kind)
in_use_lem s n = (λ e. eqb-false _ free_kind (not-true _ e), λ f. ap not (ne_eqb _ free_kind f))

free-rests : (s : Lent) → WellFormed s → FreeAreRest s
free-rests s w = record {
  unreached = λ n. (λ e h. (w.reached n).1 h e, λ h. pick n h (ℕ_discrete (kind_of s.nodes n) free_kind));
  reached = told;
  rest = free-rest (well-formed-runs s w).kept (in_use s) told;
}
  where
    pick : (n : ℕ) → (Reached s.nodes (roots s) n → ⊥) → Dec (kind_of s.nodes n ≡ free_kind) → kind_of s.nodes n ≡ free_kind
    pick n h (yes e) = e
    pick n h (no f) = absurd (h ((w.reached n).0 f))

    told : (n : ℕ) → (in_use s n ≡ true) ↔ Reached s.nodes (roots s) n
    told n = (λ e. (w.reached n).0 ((in_use_lem s n).0 e), λ h. (in_use_lem s n).1 ((w.reached n).1 h))

-- ---- one frame

pub frame-answered : (s : Lent) (f : Frame) → WellFormed s → Answered s f
unfolding fresh_in
frame-answered s f w =
    let k : Runs (run_in s) = well-formed-runs s w in
    let one = frame-serves (run_in s) f k in
    let free : free_nodes (after s f).nodes ≡ (serve (run_in s) f).0.store.free = free-carried (serve (run_in s) f).0 one.runs in
    let fresh : (answer s f).fresh ≡ free_nodes s.nodes - (serve (run_in s) f).0.store.free = serve-fresh (run_in s) f in
    record {
      formed = runs-formed (serve (run_in s) f).0 one.runs;
      plain = one.plain;
      fresh = fresh ∙ ap (λ (n : ℕ). free_nodes s.nodes - n) (sym free);
      falls = λ a b. let less = one.falls a b in omega arith;
    }

pub frame-short : (s : Lent) (f : Frame) → WellFormed s → ShortExactly s f
unfolding seen_by
frame-short s f w =
    let k : Runs (run_in s) = well-formed-runs s w in
    let number : (answer s f).number ≡ first_of (checks (op_of f) (supply_of s) f (seen_by f (party_at (table_of s) (giver f)) (party_at (table_of s) (taker f)))) =
    serve-number (run_in s) f ∙ verdict-agrees (run_in s) f k in
    rw (number, answers.serve-number no_limit f (table_of s)) (short-exactly (op_of f) f (seen_by f (party_at (table_of s) (giver f)) (party_at (table_of s) (taker f))) (free_nodes s.nodes))

-- ---- frames in order

calls_are : (r : Run) (fs : List Frame) → Runs r → calls (lent_in r) fs ≡ calls_from r fs
unfolding calls calls_from
calls_are r [] k = refl
calls_are r (f ∷ fs) k =
    let one = frame-serves r f k in
    rw (run-again r k, free-carried r k) (ap (λ (cs : List Call). record { supply = all_free r.store.free; frame = f } ∷ cs) (calls_are (serve r f).0 fs one.runs))

pub all-answered : (s : Lent) (fs : List Frame) → WellFormed s → AllAnswered s fs
all-answered s fs w =
    let k : Runs (run_in s) = well-formed-runs s w in
    let all = all-serve (run_in s) fs k in
    record {
      formed = runs-formed (serve_all (run_in s) fs).0 all.runs;
      plain = ap (λ (cs : List Call). run cs (table_of s)) (calls_are (run_in s) fs k) ∙ all.plain;
    }

-- ---- a batch

calls-in : (s : Lent) (k : ℕ) (requests : List ℕ) → calls_in k requests (free_at s (frames_in k requests)) ≡ calls s (frames_in k requests)
unfolding calls_in frames_in free_at calls
calls-in s zero bs = refl
calls-in s (suc k) bs =
    let f : Frame = decode (take frame_size bs) in
    ap (λ (cs : List Call). record { supply = supply_of s; frame = f } ∷ cs) (calls-in (after s f) k (drop frame_size bs))

pub batch-answered : (s : Lent) (requests room : List ℕ) → WellFormed s → BatchAnswered s requests room
unfolding batch
batch-answered s requests room w =
    let k : ℕ = length requests / frame_size in
    let fs : List Frame = frames_in k requests in
    ap (outcome (first_of (batch_checks true requests room)) k room (table_of s)) (ap (λ (cs : List Call). run cs (table_of s)) (calls-in s k requests) ∙ (all-answered s fs w).plain)

-- DEMAND 2
pub demand2 : Demand2
demand2 = record {
  one = frame-answered;
  short = frame-short;
  all = all-answered;
  batches = batch-answered;
  free = λ s fs w. free-rests (after_all s fs) (all-answered s fs w).formed;
}

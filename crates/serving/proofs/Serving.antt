-- A frame, and any number of frames: the state runs on, and the answers and the table are the plain table's.
use mathlib.Core.Path.{◌≡◌, refl, sym, ap, ◌∙◌}
use mathlib.Core.Logic.{◌≢◌}
use mathlib.Core.List.{List, [], ◌∷◌}
use Prim.Native.Nat.{ℕ, zero, suc, ◌<◌}
use native.Mathlib.Nat.{lt_irrefl}
use native.Mathlib.Omega.{arith}
use lib.ListN.{set}
use Rattle.meaning.specs.Limits.{done_number, parties}
use Rattle.meaning.specs.Frames.{Frame, Answer}
use Rattle.meaning.specs.Operations.{Op, new, clone, release, len, get, set_at, push_back, drop_last, open_walk, next, next_back, close_walk, hand_over, free_nodes, first, last, compare, unknown, anyone, uses, owner_or, op_of, taker}
use Rattle.meaning.specs.Costs.{cost}
use Rattle.meaning.specs.Checks.{checks, first_of, seen_by}
use Rattle.meaning.specs.Serve.{refused, run}
use Rattle.meaning.specs.Serve as plain
use Rattle.meaning.proofs.Answers.{refused-same}
use Rattle.frames.specs.Run.{Run, seen_in, supply_in}
use Rattle.frames.specs.Serve.{done, verdict, fresh_in, respond, serve}
use Rattle.serving.specs.States.{Runs, table_in}
use Rattle.serving.specs.Passed.{Passed}
use Rattle.serving.specs.Does.{giver_in, taker_in, effect_on, Does}
use Rattle.serving.specs.Served.{Serves, serve_all, calls_from, ServesAll}
use Rattle.serving.proofs.Agreeing.{seen-agrees, verdict-agrees}
use Rattle.serving.proofs.Passing.{passed, taker-below, own-party}
use Rattle.serving.proofs.Filling.{new-does, clone-does, hand-over-does, set_does, push-does, drop-does}
use Rattle.serving.proofs.Releasing.{release-does}
use Rattle.serving.proofs.Walking.{open-does, next-does, next-back-does, close-does}
use Rattle.serving.proofs.Reading.{len-does, get-does, first_does, last-does, compare-does, free-nodes-does, unknown-does}

-- ---- a frame that passes its checks

does : (r : Run) (f : Frame) → Runs r → Passed (op_of f) (supply_in r) f (seen_in r f) → Does (op_of f) r f
unfolding uses anyone owner_or
does r f k p = by (op_of f) refl p
  where
    below : taker f < parties
    below = taker-below f (seen_in r f).standing p.entered

    by : (o : Op) → op_of f ≡ o → Passed o (supply_in r) f (seen_in r f) → Does o r f
    by new e q = new-does r f k below q
    by clone e q = clone-does r f k below q
    by release e q = release-does r f k below (own-party f release e refl) q
    by len e q = len-does r f k q
    by get e q = get-does r f k q
    by set_at e q = set_does r f k below q
    by push_back e q = push-does r f k below q
    by drop_last e q = drop-does r f k below q
    by open_walk e q = open-does r f k below q
    by next e q = next-does r f k below (own-party f next e refl) q
    by next_back e q = next-back-does r f k below (own-party f next_back e refl) q
    by close_walk e q = close-does r f k below (own-party f close_walk e refl) q
    by hand_over e q = hand-over-does r f k below q
    by free_nodes e q = free-nodes-does r f k
    by first e q = first_does r f k q
    by last e q = last-does r f k q
    by compare e q = compare-does r f k q
    by unknown e q = unknown-does r f k

-- ---- done or refused

abbrev answered : (fresh value : ℕ) → Answer
answered fresh value = record { number = done_number; fresh = fresh; value = value }

serve-done : (r : Run) (f : Frame) → verdict r f ≡ done_number → serve r f ≡ ((done (op_of f) r f).run, answered (fresh_in r (done (op_of f) r f).run) (done (op_of f) r f).value)
unfolding serve respond
serve-done r f e = rw e

plain_done : (r : Run) (f : Frame) → first_of (checks (op_of f) (supply_in r) f (seen_by f (giver_in r f) (taker_in r f))) ≡ done_number
    → plain.serve (supply_in r) f (table_in r) ≡ (set (table_in r) (taker f) (effect_on (op_of f) r f).0, answered (cost (op_of f) (seen_by f (giver_in r f) (taker_in r f)).bits (seen_by f (giver_in r f) (taker_in r f)).length).fresh (effect_on (op_of f) r f).1)
unfolding plain.serve plain.step plain.respond
plain_done r f e = rw e

respond-refuses : (n : ℕ) (r : Run) (f : Frame) → n ≢ done_number → respond n r (done (op_of f) r f) ≡ (r, refused n)
unfolding respond
respond-refuses zero r f h = absurd (h refl)
respond-refuses (suc n) r f h = refl

-- a refused frame changes nothing, and its answer is the number alone
pub serve-refused : (r : Run) (f : Frame) → verdict r f ≢ done_number → serve r f ≡ (r, refused (verdict r f))
unfolding serve
serve-refused r f h = respond-refuses (verdict r f) r f h

pub frame-serves : (r : Run) (f : Frame) → Runs r → Serves r f
unfolding verdict
frame-serves r f k = pick (verdict r f) refl
  where
    agrees : verdict r f ≡ first_of (checks (op_of f) (supply_in r) f (seen_by f (giver_in r f) (taker_in r f)))
    agrees = verdict-agrees r f k

    pick : (n : ℕ) → verdict r f ≡ n → Serves r f
    pick zero e =
        let d = does r f k (passed (op_of f) (supply_in r) f (seen_in r f) e) in
        record {
          runs = rw (serve-done r f e) d.runs;
          plain = plain_done r f (sym agrees ∙ e) ∙ rw (serve-done r f e, d.table, d.value, d.fresh, seen-agrees r f k);
          falls = λ a b. rw (serve-done r f e) (d.falls a b);
        }
    pick (suc n) e =
        let some : verdict r f ≢ done_number = λ z. lt_irrefl zero (omega arith) in
        record {
          runs = rw (serve-refused r f some) k;
          plain =
              rw (serve-refused r f some)
              (refused-same (supply_in r) f (table_in r) (λ z. some (agrees ∙ z)) ∙ ap (λ (m : ℕ). (table_in r, refused m)) (sym agrees));
          falls = λ a b. rw (serve-refused r f some) (omega arith);
        }

-- ---- frames in order

pub all-serve : (r : Run) (fs : List Frame) → Runs r → ServesAll r fs
unfolding serve_all calls_from run
all-serve r [] k = record { runs = k; plain = refl }
all-serve r (f ∷ fs) k =
    let one = frame-serves r f k in
    let more = all-serve (serve r f).0 fs one.runs in
    record {
      runs = more.runs;
      plain = rw (one.plain, more.plain);
    }

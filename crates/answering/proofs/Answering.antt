-- A turn of the code is what the model serves.
use mathlib.Core.Path.{◌≡◌, refl, sym, ap, ◌∙◌}
use mathlib.Core.Logic.{◌≢◌}
use Prim.Native.Nat.{ℕ, zero, suc, ◌≤◌}
use native.Mathlib.Nat.{lt_irrefl}
use native.Mathlib.Decide.{ℕ_discrete}
use native.Mathlib.Omega.{arith}
use borrow.Author.Tests.{ltb-false, eq-eqb, ne_eqb}
use Rattle.meaning.specs.Limits.{done_number, last_operation}
use Rattle.meaning.specs.Frames.{Frame}
use Rattle.meaning.specs.Operations.{new, clone, release, set_at, push_back, drop_last, open_walk, next, next_back, close_walk, hand_over, operations, anyone, host_alone, uses, owner_or, op_of, giver, taker}
use Rattle.meaning.specs.Checks.{entry_checks, first_of}
use Rattle.meaning.specs.Serve.{refused}
use Rattle.frames.specs.Run.{Run, source_in, target_in, seen_in, supply_in}
use Rattle.frames.specs.Serve.{done, verdict, respond, serve}
use Rattle.edits.specs.Edits.{path_act, edit_act}
use Rattle.calls.specs.Reads.{read_with}
use Rattle.calls.specs.Walks.{walk_act}
use Rattle.calls.specs.Calls.{read_act, store_act, act}
use Rattle.turns.specs.Turns.{entry_number, turn}
use Rattle.serving.specs.States.{Runs}
use Rattle.serving.specs.Passed.{Entered, later_checks}
use Rattle.serving.proofs.Passing.{entered, giver-below, taker-below, entry-passes, entry-refuses}
use Rattle.serving.proofs.Sources.{source-within, filled_within, walked-within, opened-within}
use Rattle.serving.proofs.Seeing.{walk_here}
use Rattle.serving.proofs.Serving.{serve-refused}
use Rattle.answering.specs.Turned.{old_in, turned}
use Rattle.answering.proofs.Ready.{standing-seen}
use Rattle.answering.proofs.Calling.{place_here, walk-place-here, stays}
use Rattle.answering.proofs.Editing.{new-turns, clone-turns, hand-over-turns, set-turns, push-turns, drop-turns, release-turns}
use Rattle.answering.proofs.Reading.{len-turns, get-turns, first-turns, last-turns, compare-turns, free-nodes-turns}
use Rattle.answering.proofs.Walking.{open-turns, next-turns, next-back-turns, close-turns}

-- ---- a frame that passes the first six checks

module _ (r : Run) (k : Runs r) (party slot destination index value : ℕ) where
  -- of each operation by its number
  abbrev frame : (operation : ℕ) → Frame
  frame n = record { party = party; operation = n; slot = slot; destination = destination; index = index; value = value }

  abbrev Turns : Frame → Type 0
  Turns f =
      Entered (op_of f) f (seen_in r f).standing
      → respond (first_of (later_checks (op_of f) (supply_in r) f (seen_in r f))) r (done (op_of f) r f) ≡ turned r f (act r.store r.walks f (source_in r f) (target_in r f) (old_in r f))

  by_number : (n : ℕ) → n ≤ last_operation → Turns (frame n)
  unfolding op_of operations uses anyone host_alone owner_or giver taker act store_act edit_act path_act walk_act read_act read_with
  by_number zero l p = new-turns r (frame 0) k (taker-below (frame 0) _ p) (place_here _ _ (taker-below (frame 0) _ p) (filled_within new r (frame 0) k p refl)) p
  by_number (suc zero) l p = clone-turns r (frame 1) k (taker-below (frame 1) _ p) (place_here _ _ (taker-below (frame 1) _ p) (filled_within clone r (frame 1) k p refl))
  by_number (suc (suc zero)) l p = release-turns r (frame 2) k (taker-below (frame 2) _ p) (place_here _ _ (giver-below (frame 2) _ p) (source-within release r (frame 2) k p refl)) refl p
  by_number (suc (suc (suc zero))) l p = len-turns r (frame 3)
  by_number (suc (suc (suc (suc zero)))) l p = get-turns r (frame 4)
  by_number (suc (suc (suc (suc (suc zero))))) l p = set-turns r (frame 5) k (taker-below (frame 5) _ p) (place_here _ _ (taker-below (frame 5) _ p) (filled_within set_at r (frame 5) k p refl)) p
  by_number (suc (suc (suc (suc (suc (suc zero)))))) l p = push-turns r (frame 6) k (taker-below (frame 6) _ p) (place_here _ _ (taker-below (frame 6) _ p) (filled_within push_back r (frame 6) k p refl)) p
  by_number (suc (suc (suc (suc (suc (suc (suc zero))))))) l p = drop-turns r (frame 7) k (taker-below (frame 7) _ p) (place_here _ _ (taker-below (frame 7) _ p) (filled_within drop_last r (frame 7) k p refl)) p
  by_number (suc (suc (suc (suc (suc (suc (suc (suc zero)))))))) l p = open-turns r (frame 8) (walk-place-here _ _ (taker-below (frame 8) _ p) (opened-within open_walk r (frame 8) k p refl))
  by_number (suc (suc (suc (suc (suc (suc (suc (suc (suc zero))))))))) l p = next-turns r (frame 9) (walk-place-here _ _ (giver-below (frame 9) _ p) (walked-within next r (frame 9) k p refl)) (walk_here r _ _ (giver-below (frame 9) _ p) (walked-within next r (frame 9) k p refl))
  by_number (suc (suc (suc (suc (suc (suc (suc (suc (suc (suc zero)))))))))) l p = next-back-turns r (frame 10) (walk-place-here _ _ (giver-below (frame 10) _ p) (walked-within next_back r (frame 10) k p refl)) (walk_here r _ _ (giver-below (frame 10) _ p) (walked-within next_back r (frame 10) k p refl))
  by_number (suc (suc (suc (suc (suc (suc (suc (suc (suc (suc (suc zero))))))))))) l p = close-turns r (frame 11) (walk-place-here _ _ (giver-below (frame 11) _ p) (walked-within close_walk r (frame 11) k p refl)) (walk_here r _ _ (giver-below (frame 11) _ p) (walked-within close_walk r (frame 11) k p refl)) k (taker-below (frame 11) _ p) refl p
  by_number (suc (suc (suc (suc (suc (suc (suc (suc (suc (suc (suc (suc zero)))))))))))) l p = hand-over-turns r (frame 12) k (taker-below (frame 12) _ p) (place_here _ _ (taker-below (frame 12) _ p) (filled_within hand_over r (frame 12) k p refl))
  by_number (suc (suc (suc (suc (suc (suc (suc (suc (suc (suc (suc (suc (suc zero))))))))))))) l p = free-nodes-turns r (frame 13)
  by_number (suc (suc (suc (suc (suc (suc (suc (suc (suc (suc (suc (suc (suc (suc zero)))))))))))))) l p = first-turns r (frame 14)
  by_number (suc (suc (suc (suc (suc (suc (suc (suc (suc (suc (suc (suc (suc (suc (suc zero))))))))))))))) l p = last-turns r (frame 15)
  by_number (suc (suc (suc (suc (suc (suc (suc (suc (suc (suc (suc (suc (suc (suc (suc (suc zero)))))))))))))))) l p = compare-turns r (frame 16)
  by_number (suc (suc (suc (suc (suc (suc (suc (suc (suc (suc (suc (suc (suc (suc (suc (suc (suc n))))))))))))))))) l p = absurd (lt_irrefl zero (omega arith))

entered-turns : (r : Run) (f : Frame) → Runs r → Entered (op_of f) f (seen_in r f).standing
    → respond (first_of (later_checks (op_of f) (supply_in r) f (seen_in r f))) r (done (op_of f) r f) ≡ turned r f (act r.store r.walks f (source_in r f) (target_in r f) (old_in r f))
entered-turns r f k p = by_number r k f.party f.slot f.destination f.index f.value f.operation (ltb-false last_operation f.operation p.operation) p

-- ---- any frame

module _ (r : Run) (f : Frame) (k : Runs r) where
  entry_seen : entry_number r.walks f (source_in r f) (target_in r f) ≡ first_of (entry_checks (op_of f) f (seen_in r f).standing)
  entry_seen = ap (λ x. first_of (entry_checks (op_of f) f x)) (standing-seen r f)

  abbrev entry : ℕ
  entry = first_of (entry_checks (op_of f) f (seen_in r f).standing)

  passing : entry ≡ done_number → serve r f ≡ turned r f (turn r.store r.walks f (source_in r f) (target_in r f) (old_in r f))
  unfolding serve verdict turn
  passing e =
      rw (entry-passes (op_of f) (supply_in r) f (seen_in r f) e, entry_seen, eq-eqb entry done_number e)
      (entered-turns r f k (entered (op_of f) f (seen_in r f).standing e))

  refusing : entry ≢ done_number → serve r f ≡ turned r f (turn r.store r.walks f (source_in r f) (target_in r f) (old_in r f))
  unfolding verdict turn
  refusing n =
      let number : verdict r f ≡ entry = entry-refuses (op_of f) (supply_in r) f (seen_in r f) n in
      serve-refused r f (λ e. n (sym number ∙ e)) ∙ rw (entry_seen, ne_eqb entry done_number n, stays r f) (ap (λ (m : ℕ). (r, refused m)) number)

  -- what the model serves
  pub turn-serves : serve r f ≡ turned r f (turn r.store r.walks f (source_in r f) (target_in r f) (old_in r f))
  turn-serves = pick (ℕ_discrete entry done_number)
    where
      pick : Dec (entry ≡ done_number) → serve r f ≡ turned r f (turn r.store r.walks f (source_in r f) (target_in r f) (old_in r f))
      pick (yes e) = passing e
      pick (no n) = refusing n

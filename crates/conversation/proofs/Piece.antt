-- What the work on a piece promises, from what reading, running and printing do.
use mathlib.Core.Path.{◌≡◌, refl, sym, ap, ◌∙◌}
use mathlib.Core.Bool.{Bool, true, false, cond}
use mathlib.Core.List.{List, [], ◌∷◌, ◌++◌}
use Prim.Native.Nat.{ℕ, zero, suc, ◌*◌, ◌≤◌}
use native.Mathlib.Omega.{arith}
use lib.Dec.{eqb}
use lib.ListN.{length, take, drop, length-append, length-take}
use lib.Seq.{take_at}
use Rattle.meaning.specs.Limits.{frame_size, answer_size}
use Rattle.meaning.specs.Frames.{decode}
use Rattle.meaning.specs.Batch.{answer_bytes}
use Rattle.meaning.specs.Program.{Line, write}
use Rattle.requests.proofs.Bytes.{encode-length}
use Rattle.store.specs.Store.{node_count}
use Rattle.frames.specs.Run.{Run}
use Rattle.frames.specs.Serve.{serve}
use Rattle.serving.specs.States.{Runs}
use Rattle.serving.specs.Served.{serve_all}
use Rattle.serving.specs.Lending.{frames_in}
use Rattle.serving.proofs.Serving.{all-serve}
use Rattle.runs.specs.Runs.{Progress, progress, run_from, CanRun}
use Rattle.runs.proofs.All.{run-all}
use Rattle.lines.specs.Lines.{too_long, frame_mark, whole_lines, frames_marked}
use Rattle.lines.specs.Reading.{Reads, CanRead, Bounded, ReadsPiece}
use Rattle.lines.specs.Printing.{printed, CanPrint, Prints}
use Rattle.lines.proofs.Marks.{printed-front}
use Rattle.conversation.specs.Conversing.{talk_on}
use Rattle.conversation.specs.Talks.{piece_size, CanTalk, Answered, Talks}
use Rattle.conversation.proofs.Marked.{marked-state, marked-text}

-- no more frames than marks
counted-most : (marks : List ℕ) → frames_marked marks ≤ length marks
unfolding frames_marked
counted-most [] = omega arith
counted-most (m ∷ ms) = by (eqb m frame_mark) (counted-most ms)
  where
    by : (o : Bool) → frames_marked ms ≤ length ms → cond o (suc (frames_marked ms)) (frames_marked ms) ≤ suc (length ms)
    by true p = omega arith
    by false p = omega arith

answers-length : (r : Run) (k : ℕ) (bs : List ℕ) → length (answer_bytes (serve_all r (frames_in k bs)).1) ≡ answer_size * k
unfolding serve_all frames_in answer_bytes
answers-length r zero bs = refl
answers-length r (suc k) bs =
    let a = serve r (decode (take frame_size bs)) in
    rw length-append (omega (arith, encode-length a.1, answers-length a.0 k (drop frame_size bs)))

-- ---- what reading, running and printing ask

module _ (before : Run) (piece out : List ℕ) (can : CanTalk before piece out) where
  pub can-read : (marks requests : List ℕ) → length marks ≡ piece_size → length requests ≡ frame_size * piece_size → CanRead piece marks requests
  can-read marks requests m q = record { mark_room = omega (arith, can.short); request_room = omega (arith, can.short) }

  pub can-run : (requests answers : List ℕ) (count : ℕ) → length requests ≡ frame_size * piece_size → length answers ≡ answer_size * piece_size → count ≤ piece_size → CanRun before requests answers count
  can-run requests answers count q a l = record { runs = can.runs; asked = omega arith; fits = omega arith }

  pub can-print : (lines frames : ℕ) → Bounded (length piece) lines frames → (marks answers : List ℕ) → length answers ≡ answer_size * piece_size
      → CanPrint (take lines marks) answers out
  can-print lines frames most marks answers a =
      record {
        answered = omega (arith, can.short, most.many_lines, counted-most (take lines marks), length-take lines marks);
        room = omega (arith, can.room, most.many_lines, length-take lines marks);
      }

-- ---- what they do

module _ (before after : Run) (marks requests answers answers' : List ℕ) (lines frames : ℕ) (ran : progress after answers' ≡ run_from requests frames (progress before answers) 0) where
  abbrev served : Run
  served = (serve_all before (frames_in frames requests)).0

  abbrev told : List ℕ
  told = answer_bytes (serve_all before (frames_in frames requests)).1

  all-ran : progress after answers' ≡ progress served (told ++ drop (answer_size * frames) answers)
  all-ran = ran ∙ run-all requests answers frames before

  after-served : after ≡ served
  after-served = ap (λ (p : Progress). p.run) all-ran

  answers-told : take (answer_size * frames) answers' ≡ told
  answers-told =
      ap (λ (p : Progress). take (answer_size * frames) p.room) all-ran ∙ take_at told (drop (answer_size * frames) answers) (answer_size * frames) (answers-length before frames requests)

  pub after-runs : Runs before → Runs after
  after-runs k = rw after-served (all-serve before (frames_in frames requests) k).runs

  module _ (line piece bytes : List ℕ) (len written : ℕ) (out : List ℕ) (r : Reads line piece bytes len marks requests lines frames) (p : Prints (take lines marks) answers' written out) where
    abbrev line_marks : List ℕ
    line_marks = take lines marks

    same-state : after ≡ (talk_on before (whole_lines line piece)).0
    same-state =
        after-served
        ∙ (ap (λ (k : ℕ). (serve_all before (frames_in k requests)).0) r.counted
        ∙ (sym (marked-state before line_marks requests) ∙ ap (λ (ls : List Line). (talk_on before ls).0) r.marked))

    front-told : printed line_marks answers' ≡ printed line_marks told
    front-told = sym (printed-front line_marks answers') ∙ ap (printed line_marks) (ap (λ (k : ℕ). take (answer_size * k) answers') (sym r.counted) ∙ answers-told)

    same_text : take written out ≡ write (talk_on before (whole_lines line piece)).1
    same_text =
        p.text
        ∙ (front-told
        ∙ (ap (λ (k : ℕ). printed line_marks (answer_bytes (serve_all before (frames_in k requests)).1)) r.counted
        ∙ (sym (marked-text before line_marks requests) ∙ ap (λ (ls : List Line). write (talk_on before ls).1) r.marked)))

    answered : Answered before line piece after bytes len written out
    answered = record { keeps = r.keeps; state = same-state; text = same_text }

  pub talks : (piece bytes : List ℕ) (len : ℕ) (bytes' : List ℕ) (len' written : ℕ) (out out' : List ℕ) → len' ≤ too_long → CanTalk before piece out
      → ReadsPiece piece bytes len bytes' len' marks requests lines frames → Prints (take lines marks) answers' written out'
      → node_count after.store ≡ node_count before.store → length out' ≡ length out → Talks before piece bytes len after bytes' len' written out'
  talks piece bytes len bytes' len' written out out' kept can reads p n z =
      record {
        runs = after-runs can.runs;
        size = n;
        kept = kept;
        inside = omega (arith, p.size, can.room, reads.bounded.many_lines, length-take lines marks);
        talked = λ line k. answered line piece bytes' len' written out' (reads.reads line k) p;
      }

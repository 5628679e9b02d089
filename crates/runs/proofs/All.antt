-- All frames in order: the state that the model serves them to, and every byte of the answer room.
use mathlib.Core.Path.{◌≡◌, refl, sym, ◌∙◌}
use mathlib.Core.List.{List, [], ◌++◌, append_assoc}
use Prim.Native.Nat.{ℕ, zero, suc, ◌+◌, ◌*◌}
use native.Mathlib.Omega.{arith}
use lib.ListN.{length, drop, length-append}
use lib.Seq.{take_at, drop_at, drop-drop}
use Rattle.meaning.specs.Limits.{frame_size, answer_size}
use Rattle.meaning.specs.Frames.{Frame, encode}
use Rattle.meaning.specs.Batch.{answer_bytes}
use Rattle.requests.specs.Requests.{put, frame_in}
use Rattle.requests.proofs.Bytes.{encode-length}
use Rattle.frames.specs.Run.{Run}
use Rattle.frames.specs.Serve.{serve}
use Rattle.serving.specs.Served.{serve_all}
use Rattle.serving.specs.Lending.{frames_in}
use Rattle.runs.specs.Runs.{progress, step, run_from}

-- bytes put right behind what is done
put-behind : (done rest bytes : List ℕ) (at : ℕ) → length done ≡ at → put (done ++ rest) at bytes ≡ (done ++ bytes) ++ drop (length bytes) rest
unfolding put
put-behind done rest bytes at e =
    rw (take_at done rest at e, ← (drop-drop (length bytes) at (done ++ rest)), drop_at done rest at e, append_assoc)

run-behind : (requests : List ℕ) (n : ℕ) (r : Run) (done rest : List ℕ) (k : ℕ) → length done ≡ answer_size * k
    → run_from requests n (progress r (done ++ rest)) k
    ≡ progress (serve_all r (frames_in n (drop (frame_size * k) requests))).0 (done ++ (answer_bytes (serve_all r (frames_in n (drop (frame_size * k) requests))).1 ++ drop (answer_size * n) rest))
unfolding run_from step frames_in serve_all answer_bytes
run-behind requests zero r done rest k e = refl
run-behind requests (suc n) r done rest k e =
    let f : Frame = frame_in requests k in
    let a : List ℕ = encode (serve r f).1 in
    let long : length a ≡ answer_size = encode-length (serve r f).1 in
    let behind : length (done ++ a) ≡ answer_size * (k + 1) = rw length-append (omega (arith, long)) in
    let one : frame_size * (k + 1) ≡ frame_size * k + frame_size = omega arith in
    let next : drop (frame_size * (k + 1)) requests ≡ drop frame_size (drop (frame_size * k) requests) = rw one (sym (drop-drop frame_size (frame_size * k) requests)) in
    let all : answer_size * suc n ≡ length a + answer_size * n = omega (arith, long) in
    let over : drop (answer_size * n) (drop (length a) rest) ≡ drop (answer_size * suc n) rest = rw all (drop-drop (answer_size * n) (length a) rest) in
    rw (put-behind done rest a (answer_size * k) e) (run-behind requests n (serve r f).0 (done ++ a) (drop (length a) rest) (k + 1) behind ∙ rw (next, over, append_assoc, append_assoc))

pub run-all : (requests room : List ℕ) (n : ℕ) (r : Run)
    → run_from requests n (progress r room) 0 ≡ progress (serve_all r (frames_in n requests)).0 (answer_bytes (serve_all r (frames_in n requests)).1 ++ drop (answer_size * n) room)
run-all requests room n r = run-behind requests n r [] room 0 refl

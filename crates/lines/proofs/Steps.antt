-- What each step of reading a piece promises, from what the steps below it do.
use mathlib.Core.Path.{◌≡◌, refl}
use mathlib.Core.Logic.{◌≢◌}
use mathlib.Core.Bool.{Bool, true, false, ◌&&◌}
use mathlib.Core.List.{List, [], ◌∷◌, ◌++◌}
use Prim.Native.Nat.{ℕ, suc, ◌+◌, ◌≤◌, ◌<◌}
use native.Mathlib.Numerals.{add-one}
use native.Mathlib.Omega.{arith}
use lib.Dec.{eqb}
use lib.ListN.{length, get_or, take, drop, length-drop}
use lib.Seq.{take_all, take-suc, take-add, length-take-le, get_or-drop}
use Rattle.meaning.specs.Counting.{bit}
use Rattle.meaning.specs.Program.{line_feed, all_digits}
use Rattle.hexadecimal.specs.Text.{line_size}
use Rattle.lines.specs.Lines.{whole_lines, left_over, Keeps, marked_lines, frames_marked}
use Rattle.lines.specs.Reading.{HasRoom, EndsLine, FrameAt, Reads, Bounded, CanReadOn, ReadsOn, ReadsPiece}
use Rattle.lines.proofs.Turns.{byte-read, feed-read, frame-read}

-- ---- a frame that stands whole

module _ (piece : List ℕ) (at : ℕ) (h : FrameAt piece at) where
  abbrev digits : List ℕ
  digits = take line_size (drop at piece)

  digits-length : length digits ≡ line_size
  digits-length = length-take-le line_size (drop at piece) (simp length-drop (omega (arith, h.inside)))

  whole_is : take (at + line_size + 1) piece ≡ take at piece ++ (digits ++ (line_feed ∷ []))
  whole_is =
      let e : at + line_size + 1 ≡ at + suc line_size = omega arith in
      let l : line_size < length (drop at piece) = simp length-drop (omega (arith, h.inside)) in
      rw (e, take-add at (suc line_size) piece, take-suc (drop at piece) line_size 0 l, get_or-drop at piece line_size 0, h.ended)

-- ---- steps

bit-most : (o : Bool) → bit o ≤ 1
bit-most true = omega arith
bit-most false = omega arith

module _ (piece : List ℕ) (at : ℕ) (marks requests : List ℕ) (lines frames : ℕ) (on : CanReadOn piece at marks requests lines frames) where
  pub has_room : HasRoom marks requests lines frames
  has_room = record { mark = omega (arith, on.more, on.can.mark_room, on.bounded.many_lines); bytes = omega (arith, on.more, on.can.request_room, on.bounded.many_lines, on.bounded.many_frames) }

  next-is : take (at + 1) piece ≡ take at piece ++ (get_or piece at 0 ∷ [])
  next-is = rw (add-one, take-suc piece at 0 on.more)

  pub byte-on : (bytes : List ℕ) (len : ℕ) (bytes' : List ℕ) (len' : ℕ) → get_or piece at 0 ≢ line_feed
      → ((line : List ℕ) → Keeps bytes len line → Keeps bytes' len' (line ++ (get_or piece at 0 ∷ [])))
      → ReadsOn piece bytes at len marks requests lines frames bytes' (at + 1) len' marks requests lines frames
  byte-on bytes len bytes' len' f k =
      record {
        further = omega arith;
        inside = omega (arith, on.more);
        can = on.can;
        bounded = record { many_lines = omega (arith, on.bounded.many_lines); many_frames = on.bounded.many_frames };
        reads = λ line r. rw next-is (byte-read line (take at piece) bytes len marks requests lines frames r (get_or piece at 0) bytes' len' f (k _ r.keeps));
      }

  pub feed-on : (bytes : List ℕ) (len : ℕ) (marks' requests' : List ℕ) (frames' : ℕ) → get_or piece at 0 ≡ line_feed → EndsLine (eqb len line_size && all_digits bytes) bytes marks requests lines frames marks' requests' frames'
      → ReadsOn piece bytes at len marks requests lines frames bytes (at + 1) 0 marks' requests' (lines + 1) frames'
  feed-on bytes len marks' requests' frames' f h =
      record {
        further = omega arith;
        inside = omega (arith, on.more);
        can = record { mark_room = omega (arith, on.can.mark_room, h.marks_kept); request_room = omega (arith, on.can.request_room, h.requests_kept) };
        bounded =
            record {
              many_lines = omega (arith, on.bounded.many_lines);
              many_frames = omega (arith, on.bounded.many_frames, h.counted, bit-most (eqb len line_size && all_digits bytes));
            };
        reads = λ line r. rw (next-is, f) (feed-read line (take at piece) bytes len marks requests lines frames r marks' requests' frames' has_room h);
      }

  pub frame_on : (bytes : List ℕ) (len : ℕ) (marks' requests' : List ℕ) (frames' : ℕ) → len ≡ 0 → (h : FrameAt piece at) → EndsLine true (digits piece at h) marks requests lines frames marks' requests' frames'
      → ReadsOn piece bytes at len marks requests lines frames bytes (at + line_size + 1) 0 marks' requests' (lines + 1) frames'
  frame_on bytes len marks' requests' frames' z h e =
      record {
        further = omega arith;
        inside = omega (arith, h.inside);
        can = record { mark_room = omega (arith, on.can.mark_room, e.marks_kept); request_room = omega (arith, on.can.request_room, e.requests_kept) };
        bounded = record { many_lines = omega (arith, on.bounded.many_lines); many_frames = omega (arith, on.bounded.many_frames, e.counted) };
        reads = λ line r. rw (whole_is piece at h)
            (frame-read line (take at piece) bytes len marks requests lines frames r marks' requests' frames' has_room (digits piece at h) z (digits-length piece at h) h.digits e);
      }

-- ---- a piece

pub read-start : (piece bytes : List ℕ) (len : ℕ) (marks requests line : List ℕ) → Keeps bytes len line → Reads line (take 0 piece) bytes len marks requests 0 0
unfolding whole_lines left_over marked_lines frames_marked
read-start piece bytes len marks requests line k = record { keeps = k; marked = refl; counted = refl }

pub read-ends : (piece bytes : List ℕ) (len : ℕ) (bytes' : List ℕ) (at len' : ℕ) (marks requests : List ℕ) (lines frames : ℕ) → at ≤ length piece → length piece ≤ at → Bounded at lines frames
    → ((line : List ℕ) → Keeps bytes len line → Reads line (take at piece) bytes' len' marks requests lines frames) → ReadsPiece piece bytes len bytes' len' marks requests lines frames
read-ends piece bytes len bytes' at len' marks requests lines frames l g most reads =
    record {
      bounded = record { many_lines = omega (arith, most.many_lines); many_frames = most.many_frames };
      reads = λ line k. let r : Reads line (take at piece) bytes' len' marks requests lines frames = reads line k in rw (take_all at piece g) at r;
    }

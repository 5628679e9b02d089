-- What is kept of a line, what a line that ends adds, and how far that takes the reading of a piece.
use mathlib.Core.Path.{◌≡◌, refl, sym, ap, ◌∙◌}
use mathlib.Core.Logic.{◌≢◌}
use mathlib.Core.Bool.{Bool, true, false, cond, ◌&&◌}
use mathlib.Core.List.{List, [], ◌∷◌, ◌++◌, append_assoc, append-nil}
use Prim.Native.Nat.{ℕ, ◌+◌, ◌*◌, ◌≤◌, ◌<◌}
use native.Mathlib.Nat.{lt_irrefl}
use native.Mathlib.Numerals.{add-one}
use native.Mathlib.Decide.{ℕ_discrete}
use native.Mathlib.Omega.{arith}
use lib.Dec.{eqb}
use lib.ListN.{length, take, drop, set, length-append, length-set}
use lib.Seq.{take_all, take-suc-set, length-take-le, take_at, drop_at, paste}
use borrow.Author.Tests.{ne_eqb}
use Rattle.meaning.specs.Limits.{frame_size}
use Rattle.meaning.specs.Frames.{decode}
use Rattle.meaning.specs.Program.{Line, frame, other, line_feed, is_digit, all_digits, from_hex, read_line}
use Rattle.hexadecimal.specs.Text.{line_size}
use Rattle.lines.specs.Lines.{too_long, whole_lines, left_over, Keeps, marked_lines, frames_marked}
use Rattle.lines.specs.Reading.{HasRoom, EndsLine, Reads}
use Rattle.lines.proofs.Pieces.{whole_append, left-append}
use Rattle.lines.proofs.Marks.{counted-append, marked_append, marked-same}
use Rattle.hexadecimal.proofs.Digits.{digit-feed, all_cons}
use Rattle.hexadecimal.proofs.Pairs.{read_length}

-- ---- what is kept

pub keep-none : (bytes : List ℕ) → length bytes ≡ line_size → Keeps bytes 0 []
keep-none bytes n = record { room = n; size = refl; front = λ l. refl }

module _ (bytes : List ℕ) (len : ℕ) (line : List ℕ) (b : ℕ) (k : Keeps bytes len line) where
  pub keep-more : len < line_size → Keeps (set bytes len b) (len + 1) (line ++ (b ∷ []))
  keep-more l =
      record {
        room = simp length-set k.room;
        size = simp length-append (omega (arith, k.size));
        front = λ m. rw (add-one, take-suc-set bytes len b (omega (arith, k.room))) (ap (λ xs. xs ++ (b ∷ [])) (k.front (omega (arith, k.size))));
      }

  pub keep-long : line_size ≤ len → Keeps bytes too_long (line ++ (b ∷ []))
  keep-long l =
      record {
        room = k.room;
        size = simp length-append (omega (arith, k.size));
        front = λ m. absurd (lt_irrefl 0 (omega (arith, k.size, simp length-append at m)));
      }

-- a line as it is kept is read as it is
pub read_kept : (bytes : List ℕ) (len : ℕ) (line : List ℕ) → Keeps bytes len line
    → read_line line ≡ cond (eqb len line_size && all_digits bytes) (frame (decode (from_hex bytes))) other
unfolding read_line
read_kept bytes len line k = by (ℕ_discrete (length line) line_size)
  where
    by : Dec (length line ≡ line_size)
        → cond (eqb (length line) line_size && all_digits line) (frame (decode (from_hex line))) other ≡ cond (eqb len line_size && all_digits bytes) (frame (decode (from_hex bytes))) other
    by (yes e) =
        let l : len ≡ line_size = omega (arith, k.size) in
        let s : line ≡ bytes = k.front (omega arith) ∙ take_all len bytes (omega (arith, k.room)) in
        rw (e, l, s)
    by (no d) =
        let l : len ≢ line_size = λ e. d (omega (arith, k.size)) in
        rw (ne_eqb (length line) line_size d, ne_eqb len line_size l)

-- ---- a line that ends

module _ (digits marks requests : List ℕ) (lines frames : ℕ) (room : HasRoom marks requests lines frames) (marks' requests' : List ℕ) (frames' : ℕ) (n : frames ≡ frames_marked (take lines marks)) where
  abbrev before : List ℕ
  before = take lines marks

  marks-next : (m : ℕ) → marks' ≡ set marks lines m → take (lines + 1) marks' ≡ before ++ (m ∷ [])
  marks-next m e = rw (e, add-one, take-suc-set marks lines m room.mark)

  abbrev Marked : Line → Type 0
  Marked l = (marked_lines (take (lines + 1) marks') requests' ≡ marked_lines before requests ++ (l ∷ [])) × (frames' ≡ frames_marked (take (lines + 1) marks'))

  counts-next : (m : ℕ) → marks' ≡ set marks lines m → frames' ≡ frames + frames_marked (m ∷ []) → frames' ≡ frames_marked (take (lines + 1) marks')
  counts-next m e f = f ∙ ap (λ k. k + frames_marked (m ∷ [])) n ∙ sym (ap frames_marked (marks-next m e) ∙ counted-append before (m ∷ []))

  other-marked : EndsLine false digits marks requests lines frames marks' requests' frames' → Marked other
  unfolding marked_lines frames_marked
  other-marked h =
      let e : take (lines + 1) marks' ≡ before ++ (0 ∷ []) = marks-next 0 h.marked in
      (rw (e, h.read) (marked_append before (0 ∷ []) requests), counts-next 0 h.marked h.counted)

  frame-marked : length digits ≡ line_size → EndsLine true digits marks requests lines frames marks' requests' frames' → Marked (frame (decode (from_hex digits)))
  unfolding marked_lines frames_marked
  frame-marked s h =
      let e : take (lines + 1) marks' ≡ before ++ (1 ∷ []) = marks-next 1 h.marked in
      let at : ℕ = frame_size * frames_marked before in
      let bytes : List ℕ = from_hex digits in
      let w : requests' ≡ paste requests at bytes frame_size = h.read ∙ ap (λ k. paste requests (frame_size * k) bytes frame_size) n in
      let z : length (take at requests) ≡ at = length-take-le at requests (omega (arith, room.bytes)) in
      let b : take frame_size bytes ≡ bytes = take_all frame_size bytes (omega (arith, read_length frame_size digits s)) in
      let front : take at requests' ≡ take at requests = rw (w, append_assoc) (take_at (take at requests) _ at z) in
      let later : drop at requests' ≡ bytes ++ drop (at + frame_size) requests = rw (w, append_assoc, b) (drop_at (take at requests) _ at z) in
      let first : take frame_size (drop at requests') ≡ bytes = rw later (take_at bytes _ frame_size (read_length frame_size digits s)) in
      let last : marked_lines (1 ∷ []) (drop at requests') ≡ frame (decode bytes) ∷ [] = ap (λ xs. frame (decode xs) ∷ []) first in
      let same : marked_lines before requests' ≡ marked_lines before requests = marked-same before requests' requests front in
      (rw (e, marked_append before (1 ∷ []) requests', last, same), counts-next 1 h.marked h.counted)

  pub line_marked : (is_frame : Bool) → length digits ≡ line_size → EndsLine is_frame digits marks requests lines frames marks' requests' frames'
      → Marked (cond is_frame (frame (decode (from_hex digits))) other)
  line_marked true s h = frame-marked s h
  line_marked false s h = other-marked h

-- ---- how far a piece is read

-- a line feed or any other byte
feed-whole : (line : List ℕ) → whole_lines line (line_feed ∷ []) ≡ read_line line ∷ []
unfolding whole_lines
feed-whole line = refl

feed-left : (line : List ℕ) → left_over line (line_feed ∷ []) ≡ []
unfolding left_over
feed-left line = refl

module _ (line : List ℕ) (b : ℕ) (e : eqb b line_feed ≡ false) where
  byte-whole : whole_lines line (b ∷ []) ≡ []
  unfolding whole_lines
  byte-whole = rw e

  byte_left : left_over line (b ∷ []) ≡ line ++ (b ∷ [])
  unfolding left_over
  byte_left = rw e

-- digits and a line feed
digits-whole : (line digits : List ℕ) → all_digits digits ≡ true → whole_lines line (digits ++ (line_feed ∷ [])) ≡ read_line (line ++ digits) ∷ []
unfolding all_digits whole_lines
digits-whole line [] e = ap (λ l. read_line l ∷ []) (sym (append-nil line))
digits-whole line (d ∷ ds) e =
    let h : (is_digit d ≡ true) × (all_digits ds ≡ true) = all_cons d ds e in
    rw (digit-feed d h.0) (digits-whole (line ++ (d ∷ [])) ds h.1 ∙ ap (λ l. read_line l ∷ []) (append_assoc line (d ∷ []) ds))

digits-left : (line digits : List ℕ) → all_digits digits ≡ true → left_over line (digits ++ (line_feed ∷ [])) ≡ []
unfolding all_digits left_over
digits-left line [] e = refl
digits-left line (d ∷ ds) e =
    let h : (is_digit d ≡ true) × (all_digits ds ≡ true) = all_cons d ds e in
    rw (digit-feed d h.0) (digits-left (line ++ (d ∷ [])) ds h.1)

module _ (line done bytes : List ℕ) (len : ℕ) (marks requests : List ℕ) (lines frames : ℕ) (r : Reads line done bytes len marks requests lines frames) where
  pub byte-read : (b : ℕ) (bytes' : List ℕ) (len' : ℕ) → b ≢ line_feed → Keeps bytes' len' (left_over line done ++ (b ∷ [])) → Reads line (done ++ (b ∷ [])) bytes' len' marks requests lines frames
  byte-read b bytes' len' f k =
      let e : eqb b line_feed ≡ false = ne_eqb b line_feed f in
      record {
        keeps = rw (left-append line done (b ∷ []), byte_left (left_over line done) b e) k;
        marked = r.marked ∙ sym (whole_append line done (b ∷ []) ∙ rw (byte-whole (left_over line done) b e) (append-nil (whole_lines line done)));
        counted = r.counted;
      }

  module _ (marks' requests' : List ℕ) (frames' : ℕ) (room : HasRoom marks requests lines frames) where
    pub feed-read : EndsLine (eqb len line_size && all_digits bytes) bytes marks requests lines frames marks' requests' frames'
        → Reads line (done ++ (line_feed ∷ [])) bytes 0 marks' requests' (lines + 1) frames'
    feed-read h =
        let m = line_marked bytes marks requests lines frames room marks' requests' frames' r.counted (eqb len line_size && all_digits bytes) r.keeps.room h in
        let l : read_line (left_over line done) ≡ cond (eqb len line_size && all_digits bytes) (frame (decode (from_hex bytes))) other = read_kept bytes len (left_over line done) r.keeps in
        record {
          keeps = rw (left-append line done (line_feed ∷ []), feed-left (left_over line done)) (keep-none bytes r.keeps.room);
          marked = m.0 ∙ sym (rw (whole_append line done (line_feed ∷ []), feed-whole (left_over line done), l, ← r.marked));
          counted = m.1;
        }

    pub frame-read : (digits : List ℕ) → len ≡ 0 → length digits ≡ line_size → all_digits digits ≡ true → EndsLine true digits marks requests lines frames marks' requests' frames'
        → Reads line (done ++ (digits ++ (line_feed ∷ []))) bytes 0 marks' requests' (lines + 1) frames'
    unfolding read_line
    frame-read digits z s a h =
        let m = line_marked digits marks requests lines frames room marks' requests' frames' r.counted true s h in
        let none : left_over line done ≡ [] = nothing (left_over line done) (omega (arith, r.keeps.size)) in
        let l : read_line digits ≡ frame (decode (from_hex digits)) = rw (s, a) in
        let w : whole_lines (left_over line done) (digits ++ (line_feed ∷ [])) ≡ frame (decode (from_hex digits)) ∷ [] = rw none (digits-whole [] digits a ∙ ap (λ x. x ∷ []) l) in
        record {
          keeps = rw (left-append line done (digits ++ (line_feed ∷ [])), digits-left (left_over line done) digits a) (keep-none bytes r.keeps.room);
          marked = m.0 ∙ sym (rw (whole_append line done (digits ++ (line_feed ∷ [])), w, ← r.marked));
          counted = m.1;
        }
      where
        nothing : (xs : List ℕ) → length xs ≡ 0 → xs ≡ []
        nothing [] e = refl
        nothing (x ∷ xs) e = absurd (lt_irrefl 0 (omega arith))

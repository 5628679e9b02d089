-- Two digits a byte: their places, and what a turn of the loops that read and print them does.
use mathlib.Core.Path.{◌≡◌, refl, sym, ap, ap₂, ◌∙◌}
use mathlib.Core.List.{List, [], ◌∷◌}
use Prim.Native.Nat.{ℕ, zero, suc, ◌+◌, ◌*◌, ◌/◌, ◌%◌, ◌≤◌, ◌<◌}
use native.Mathlib.Nat.{lt_irrefl, mul-suc, le_antisymm}
use native.Mathlib.Numerals.{add-one}
use native.Mathlib.Omega.{arith}
use lib.ListN.{length, get_or, set, length-append, get_or-append}
use lib.Seq.{paste, paste-suc, get_or_at}
use Rattle.meaning.specs.Limits.{frame_size, answer_size}
use Rattle.meaning.specs.Program.{line_feed, digit_value, digit_byte, from_hex, to_hex}
use Rattle.hexadecimal.specs.Text.{line_size, printed_size, printed_answer}

twice-suc : (n : ℕ) → 2 * suc n ≡ suc (suc (2 * n))
twice-suc n = let e : 2 * suc n ≡ 2 * n + 2 = mul-suc 2 n in omega arith

-- ---- digits to bytes

pub read_length : (n : ℕ) (text : List ℕ) → length text ≡ 2 * n → length (from_hex text) ≡ n
unfolding from_hex
read_length zero [] e = refl
read_length zero (a ∷ text) e = absurd (lt_irrefl 0 (omega arith))
read_length (suc n) [] e = absurd (lt_irrefl 0 (omega (arith, twice-suc n)))
read_length (suc n) (a ∷ []) e = absurd (lt_irrefl 0 (omega (arith, twice-suc n)))
read_length (suc n) (a ∷ b ∷ text) e = ap suc (read_length n text (omega (arith, twice-suc n)))

read_at : (i : ℕ) (text : List ℕ) → 2 * i + 1 < length text → get_or (from_hex text) i 0 ≡ digit_value (get_or text (2 * i) 0) * 16 + digit_value (get_or text (2 * i + 1) 0)
unfolding from_hex
read_at i [] l = absurd (lt_irrefl 0 (omega arith))
read_at i (a ∷ []) l = absurd (lt_irrefl 0 (omega arith))
read_at zero (a ∷ b ∷ text) l = refl
read_at (suc i) (a ∷ b ∷ text) l =
    let e : 2 * suc i + 1 ≡ suc (suc (2 * i + 1)) = omega (arith, twice-suc i) in
    rw (e, twice-suc i) (read_at i text (omega (arith, twice-suc i)))

module _ (text requests₀ : List ℕ) (at : ℕ) where
  pub put_next : (requests : List ℕ) (i high low : ℕ) → length text ≡ line_size → at + frame_size ≤ length requests₀ → i < frame_size
      → requests ≡ paste requests₀ at (from_hex text) i → high ≡ digit_value (get_or text (2 * i) 0) → low ≡ digit_value (get_or text (2 * i + 1) 0)
      → set requests (at + i) (high * 16 + low) ≡ paste requests₀ at (from_hex text) (i + 1)
  put_next requests i high low e r l p q s =
      let v : high * 16 + low ≡ get_or (from_hex text) i 0 = ap₂ (λ (x y : ℕ). x * 16 + y) q s ∙ sym (read_at i text (omega arith)) in
      let n : length (from_hex text) ≡ frame_size = read_length frame_size text e in
      rw (p, v, add-one) (paste-suc requests₀ at (from_hex text) i 0 (omega arith) (omega arith))

-- ---- bytes to digits

shown-length : (bytes : List ℕ) → length (to_hex bytes) ≡ 2 * length bytes
unfolding to_hex
shown-length [] = refl
shown-length (b ∷ bytes) = omega (arith, shown-length bytes, twice-suc (length bytes))

shown-high : (i : ℕ) (bytes : List ℕ) → i < length bytes → get_or (to_hex bytes) (2 * i) 0 ≡ digit_byte (get_or bytes i 0 / 16)
unfolding to_hex
shown-high i [] l = absurd (lt_irrefl 0 (omega arith))
shown-high zero (b ∷ bytes) l = refl
shown-high (suc i) (b ∷ bytes) l = rw twice-suc (shown-high i bytes (omega arith))

shown-low : (i : ℕ) (bytes : List ℕ) → i < length bytes → get_or (to_hex bytes) (suc (2 * i)) 0 ≡ digit_byte (get_or bytes i 0 % 16)
unfolding to_hex
shown-low i [] l = absurd (lt_irrefl 0 (omega arith))
shown-low zero (b ∷ bytes) l = refl
shown-low (suc i) (b ∷ bytes) l = rw twice-suc (shown-low i bytes (omega arith))

pub row-length : (answer : List ℕ) → length answer ≡ answer_size → length (printed_answer answer) ≡ printed_size
unfolding printed_answer
row-length answer e = simp length-append (omega (arith, shown-length answer))

module _ (answer out₀ : List ℕ) (at : ℕ) (e : length answer ≡ answer_size) (r : at + printed_size ≤ length out₀) where
  abbrev row : List ℕ
  row = printed_answer answer

  row-digit : (k : ℕ) → k < 2 * answer_size → get_or row k 0 ≡ get_or (to_hex answer) k 0
  unfolding printed_answer
  row-digit k l = get_or-append (to_hex answer) (line_feed ∷ []) 0 k (omega (arith, shown-length answer))

  row-end : get_or row (2 * answer_size) 0 ≡ line_feed
  unfolding printed_answer
  row-end = get_or_at (to_hex answer) line_feed [] 0 (2 * answer_size) (omega (arith, shown-length answer))

  pub show-next : (out : List ℕ) (i high low : ℕ) → i < answer_size → out ≡ paste out₀ at row (2 * i)
      → high ≡ digit_byte (get_or answer i 0 / 16) → low ≡ digit_byte (get_or answer i 0 % 16)
      → set (set out (at + 2 * i) high) (at + 2 * i + 1) low ≡ paste out₀ at row (2 * (i + 1))
  show-next out i high low l p q s =
      let h : high ≡ get_or row (2 * i) 0 = q ∙ sym (row-digit (2 * i) (omega arith) ∙ shown-high i answer (omega arith)) in
      let w : low ≡ get_or row (suc (2 * i)) 0 = s ∙ sym (row-digit (suc (2 * i)) (omega arith) ∙ shown-low i answer (omega arith)) in
      let j : at + 2 * i + 1 ≡ at + suc (2 * i) = omega arith in
      rw (p, h, w, j, add-one, twice-suc i, paste-suc out₀ at row (2 * i) 0 (omega arith) (omega (arith, row-length answer e)))
      (paste-suc out₀ at row (suc (2 * i)) 0 (omega arith) (omega (arith, row-length answer e)))

  pub show-end : (out : List ℕ) (i : ℕ) → answer_size ≤ i → i ≤ answer_size → out ≡ paste out₀ at row (2 * i) → set out (at + 2 * answer_size) line_feed ≡ paste out₀ at row printed_size
  show-end out i l g p =
      let k : i ≡ answer_size = le_antisymm g l in
      let p' : out ≡ paste out₀ at row (2 * answer_size) = rw k at p in
      rw (p', ← row-end) (paste-suc out₀ at row (2 * answer_size) 0 (omega arith) (omega (arith, row-length answer e)))

-- Laws of raised counts, and of what is needed to raise them.
use mathlib.Core.Path.{◌≡◌, refl, sym, ap, ◌∙◌}
use mathlib.Core.List.{List, [], ◌∷◌, ◌++◌}
use Prim.Native.Nat.{ℕ, suc, ◌+◌, ◌-◌, ◌^◌, ◌≤◌, ◌<◌, min}
use native.Mathlib.Numerals.{add-one}
use native.Mathlib.Omega.{arith}
use native.Mathlib.Nat.{lt_of_not-le}
use native.Mathlib.Decide.{ℕ_discrete, dec_lt}
use lib.Dec.{eqb}
use lib.ListN.{length, take, drop, get_or, set, length-set, length-take, length-drop, drop_of_length-le}
use lib.Seq.{slice, take_all, drop-cons, lt-length-set, length-take-le, get_or-take, get_or-drop, get_or-set_same, get_or-set_other, set_out}
use Rattle.meaning.specs.Limits.{word_width}
use Rattle.meaning.specs.Counting.{bit, occurrences}
use Rattle.meaning.proofs.Sums.{bit-same, bit-other}
use Rattle.store.specs.Store.{raise, raises}
use Rattle.store.specs.Ready.{Room, AllBelow}
use Rattle.store.specs.Answers.{others}

-- ---- below

pub below_at : (n : ℕ) (a : List ℕ) (t i : ℕ) → AllBelow n (take t a) → i < t → t ≤ length a → get_or a i 0 < n
unfolding AllBelow
below_at n a t i h l ok =
    let k : i < length (take t a) = rw (length-take-le t a) l in
    rw (← get_or-take t a i 0) (h i k)

pub below-fewer : (n : ℕ) (a : List ℕ) (t u : ℕ) → t ≤ u → u ≤ length a → AllBelow n (take u a) → AllBelow n (take t a)
unfolding AllBelow
below-fewer n a t u l ok h i k =
    let j : i < t = rw (length-take-le t a (omega arith)) at k in
    rw (get_or-take t a i 0) (below_at n a u i h (omega arith) ok)

pub below-part : (n : ℕ) (ms : List ℕ) (i t : ℕ) → AllBelow n ms → AllBelow n (take t (drop i ms))
unfolding AllBelow
below-part n ms i t h j l =
    let k : j < min t (length ms - i) = simp (length-take, length-drop) at l in
    rw (get_or-take t (drop i ms) j 0 (omega arith), get_or-drop i ms j 0) (h (i + j) (omega arith))

-- ---- room

pub room_at : (k : ℕ) (cs : List ℕ) (n : ℕ) → Room k cs → get_or cs n 0 + k < 2 ^ word_width
unfolding Room
room_at k cs n h = h n

pub room-less : (j k : ℕ) (cs : List ℕ) → j ≤ k → Room k cs → Room j cs
unfolding Room
room-less j k cs l h i = omega (arith, h i)

pub room-raise : (j k : ℕ) (cs : List ℕ) (n : ℕ) → j + 1 ≤ k → Room k cs → Room j (raise cs n)
unfolding Room raise
room-raise j k cs n l h i =
    elim (dec_lt n (length cs)) [
      | yes b ↦ elim (ℕ_discrete i n) [
        | yes e ↦ rw (e, get_or-set_same cs n (get_or cs n 0 + 1) 0) (omega (arith, h n))
        | no e ↦ rw (get_or-set_other cs n i (get_or cs n 0 + 1) 0 e) (omega (arith, h i))
      ]
      | no b ↦ rw (set_out cs n (get_or cs n 0 + 1) (omega (arith, lt_of_not-le b))) (omega (arith, h i))
    ]

pub room-raises : (k : ℕ) (cs ns : List ℕ) → Room (k + length ns) cs → Room k (raises cs ns)
unfolding raises
room-raises k cs [] h = room-less k (k + 0) cs (omega arith) h
room-raises k cs (n ∷ ns) h = room-raises k (raise cs n) ns (room-raise (k + length ns) (k + suc (length ns)) cs n (omega arith) h)

-- ---- raises

pub raises-length : (cs ns : List ℕ) → length (raises cs ns) ≡ length cs
unfolding raises raise
raises-length cs [] = refl
raises-length cs (n ∷ ns) = raises-length (raise cs n) ns ∙ length-set cs n (get_or cs n 0 + 1)

-- each has one link more for every time that it is listed
pub raises-at : (cs ns : List ℕ) (n : ℕ) → n < length cs → get_or (raises cs ns) n 0 ≡ get_or cs n 0 + occurrences n ns
unfolding raises raise occurrences
raises-at cs [] n l = omega arith
raises-at cs (x ∷ ns) n l = raises-at (raise cs x) ns n (lt-length-set cs x (get_or cs x 0 + 1) l) ∙ pick (ℕ_discrete n x)
  where
    pick : Dec (n ≡ x) → get_or (set cs x (get_or cs x 0 + 1)) n 0 + occurrences n ns ≡ get_or cs n 0 + (bit (eqb x n) + occurrences n ns)
    pick (yes e) = rw (← e, get_or-set_same cs n (get_or cs n 0 + 1) 0 l) (omega (arith, bit-same n))
    pick (no f) = rw (get_or-set_other cs x n (get_or cs x 0 + 1) 0 f) (omega (arith, bit-other x n (λ e. f (sym e))))

pub raises-append : (cs ms ns : List ℕ) → raises cs (ms ++ ns) ≡ raises (raises cs ms) ns
unfolding raises
raises-append cs [] ns = refl
raises-append cs (m ∷ ms) ns = raises-append (raise cs m) ms ns

-- one turn of the loop over a list
pub raises-turn : (cs cs' cs₀ ns : List ℕ) (i : ℕ) → i < length ns → cs' ≡ raise cs (get_or ns i 0) → raises cs (drop i ns) ≡ cs₀ → raises cs' (drop (i + 1) ns) ≡ cs₀
unfolding raises
raises-turn cs cs' cs₀ ns i l e r = rw (e, add-one i) (rw (drop-cons ns i 0) at r)

pub raises-end : (cs cs₀ ns : List ℕ) (i : ℕ) → length ns ≤ i → raises cs (drop i ns) ≡ cs₀ → cs ≡ cs₀
unfolding raises
raises-end cs cs₀ ns i l r = rw (drop_of_length-le ns {i = i} l) at r

-- two parts one after the other
pub others-raised : (cs cs₁ cs₂ a : List ℕ) (but next : ℕ) → next ≡ min (length a) (but + 1) → cs₁ ≡ raises cs (take but a)
    → cs₂ ≡ raises cs₁ (take (length a - next) (drop next a)) → cs₂ ≡ raises cs (others a (length a) but)
others-raised cs cs₁ cs₂ a but next n p q = rw (raises-append cs (slice 0 but a), ← p, take_all (length a) a (omega arith), ← past) q
  where
    after : next ≤ length a
    after = omega arith

    past : take (length a - next) (drop next a) ≡ drop (but + 1) a
    past = take_all (length a - next) (drop next a) (simp length-drop (omega arith)) ∙ elim (dec_lt but (length a)) [
      | yes l ↦ ap (λ (k : ℕ). drop k a) (omega arith)
      | no l ↦ drop_of_length-le a {i = next} (omega arith) ∙ sym (drop_of_length-le a {i = but + 1} (omega (arith, lt_of_not-le l)))
    ]

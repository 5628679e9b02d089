-- What the code of a signed index computes, bits and all, is what `specs/Index` says.
use mathlib.Core.Path.{◌≡◌, refl, ap, ◌∙◌}
use mathlib.Core.Bool.{Bool, true, false, cond}
use Prim.Native.Nat.{ℕ, suc, ◌+◌, ◌-◌, ◌^◌, ◌≤◌, ◌<◌}
use native.Mathlib.Omega.{arith}
use native.Mathlib.Nat.{lt_irrefl}
use mathlib.Core.Logic.{◌≢◌}
use lib.Dec.{T, ltb, lit<}
use lib.IntN.{ℤ, pos, negsuc, ◌+ℤ◌, ◌-ℤ◌, nat_abs}
use lib.Signed.{mag, lt_z, le_z}
use Rattle.std.specs.Prelude.{int_lt}
use Rattle.std.specs.Int.{int_max}
use mir.Syntax.{w32}
use mir.Val.{SFits, Fits, to_z, of_z}
use mir.Facts.{to_z-of_z, to_z_pos}
use borrow.Author.Tests.{ltb-true, ltb-false, lt-ltb, le-ltb, lt-leb}
use Rattle.meaning.specs.Limits.{node_cells}
use Rattle.index.specs.Index.{first, advanced, finished, place, along, Within, InUse, Stays}

small : (t : Bool) (x y k : ℕ) → x < k → y < k → mag (cond t (negsuc x) (pos y)) < k
small true x y k p q = p
small false x y k p q = q

-- what is read of a signed number is the number
pub read : (z : ℤ) → SFits w32 z → to_z w32 (of_z w32 z) ≡ z
read z f = to_z-of_z f

up_small : (k : ℕ) (z : ℤ) → k < 2 ^ 30 → mag z < 2 ^ 31 → lt_z z (pos k) ≡ true → mag (z +ℤ pos 1) < 2 ^ 31
up_small k (pos n) l m e = omega (arith, ltb-true n k e)
up_small k (negsuc n) l m e = small (ltb 1 (suc n)) _ _ (2 ^ 31) (omega arith) (omega arith)

down-small : (z : ℤ) → mag z < 2 ^ 31 → lt_z z (pos 0) ≡ false → mag (z -ℤ pos 1) < 2 ^ 31
down-small (pos n) m e = small (ltb n 1) _ _ (2 ^ 31) (omega arith) (omega arith)
down-small (negsuc n) m e = let z : ◌≡◌ {A = ℕ} 0 1 = cc in absurd (omega arith)

-- below any bound that is small
pub up_fits : (k : ℕ) (z : ℤ) → T (ltb k (2 ^ 30)) → SFits w32 z → lt_z (to_z w32 (of_z w32 z)) (pos k) ≡ true → SFits w32 (to_z w32 (of_z w32 z) +ℤ pos 1)
up_fits k z l f e = rw (read z f) (record { sfits = up_small k z (lit< l) f.sfits (rw (read z f) at e) })

pub down_fits : (z : ℤ) → SFits w32 z → lt_z (to_z w32 (of_z w32 z)) (pos 0) ≡ false → SFits w32 (to_z w32 (of_z w32 z) -ℤ pos 1)
down_fits z f e = rw (read z f) (record { sfits = down-small z f.sfits (rw (read z f) at e) })

pub up_is : (z : ℤ) → SFits w32 z → lt_z (to_z w32 (of_z w32 z)) (pos node_cells) ≡ true → to_z w32 (of_z w32 (to_z w32 (of_z w32 z) +ℤ pos 1)) ≡ advanced false z
unfolding advanced
up_is z f e = read _ (up_fits node_cells z tt f e) ∙ rw (read z f, rw (read z f) at e)

pub up-held : (z : ℤ) → SFits w32 z → lt_z (to_z w32 (of_z w32 z)) (pos node_cells) ≡ false → pos node_cells ≡ advanced false z
unfolding advanced
up-held z f e = rw (rw (read z f) at e)

pub down_is : (z : ℤ) → SFits w32 z → lt_z (to_z w32 (of_z w32 z)) (pos 0) ≡ false → to_z w32 (of_z w32 (to_z w32 (of_z w32 z) -ℤ pos 1)) ≡ advanced true z
unfolding advanced
down_is z f e = read _ (down_fits z f e) ∙ rw (read z f, rw (read z f) at e)

pub down-stopped : (z : ℤ) → SFits w32 z → lt_z (to_z w32 (of_z w32 z)) (pos 0) ≡ true → negsuc 0 ≡ advanced true z
unfolding advanced
down-stopped z f e = rw (rw (read z f) at e)

-- the last of `used` cells
used-is : (u : ℕ) → u < 256 → to_z w32 u ≡ pos u
used-is u h = to_z_pos w32 (omega arith)

pub last_fits : (u : ℕ) → u < 256 → SFits w32 (to_z w32 u -ℤ pos 1)
last_fits u h = rw (used-is u h) (record { sfits = small (ltb u 1) _ _ (2 ^ 31) (omega arith) (omega arith) })

pub last-is : (u : ℕ) → u < 256 → to_z w32 (of_z w32 (to_z w32 u -ℤ pos 1)) ≡ first true u
unfolding first
last-is u h = read _ (last_fits u h) ∙ rw (used-is u h)

pub finished-back : (u : ℕ) (z : ℤ) (b : Bool) → b ≡ true → SFits w32 z → lt_z (to_z w32 (of_z w32 z)) (pos 0) ≡ finished b u z
unfolding finished
finished-back u z b e f = rw (e, read z f)

pub finished-fore : (u : ℕ) (z : ℤ) (b : Bool) → b ≡ false → u < 256 → SFits w32 z → le_z (to_z w32 u) (to_z w32 (of_z w32 z)) ≡ finished b u z
unfolding finished
finished-fore u z b e h f = rw (e, read z f, used-is u h)

held-place : (z : ℤ) → nat_abs (int_max z (pos 0)) ≡ place z
unfolding place
held-place (pos n) = by (int_lt (pos 0) (pos n)) refl
  where
    by : (t : Bool) → int_lt (pos 0) (pos n) ≡ t → nat_abs (cond t (pos n) (pos 0)) ≡ n
    by true e = refl
    by false e = let h : n ≤ 0 = ltb-false 0 n e in omega arith
held-place (negsuc n) = refl

pub place_is : (z r : ℤ) → SFits w32 z → mag r < 2 ^ 31 → r ≡ int_max (to_z w32 (of_z w32 z)) (pos 0) → nat_abs (to_z w32 (of_z w32 r)) ≡ place z
place_is z r f h p = rw (read r (record { sfits = h }), p, read z f) (held-place z)

pub first-fore : (b : Bool) (u : ℕ) → b ≡ false → pos 0 ≡ first b u
unfolding first
first-fore b u e = rw e

-- an empty leaf walked from the back starts at index -1, and has finished: it yields nothing
pub empty_leaf : (first true 0 ≡ negsuc 0) × (finished true 0 (first true 0) ≡ true)
unfolding first finished
empty_leaf = (refl, refl)

-- ---- so many steps at once

-- what is not at the first cell, nor below it
is-place : (z : ℤ) → 0 < place z → z ≡ pos (place z)
unfolding place
is-place (pos n) h = refl
is-place (negsuc n) h = absurd (lt_irrefl 0 h)

pub stays : (b : Bool) (u : ℕ) (z : ℤ) (i r : ℕ) → SFits w32 z → i ≡ place (to_z w32 (of_z w32 z)) → i ≢ 0 → Within b i r → InUse b u i r → Stays b u z r
stays b u z i r f p n w l =
    let e : i ≡ place z = p ∙ ap place (read z f) in
    record { cell = is-place z (omega arith); past = omega arith; within = rw e at w; in_use = rw e at l }

pub downwards : (b : Bool) (i m : ℕ) → b ≡ true → Within b i m → (m ≤ i) × ((i - m ≡ along b i m) × (i - m < node_cells))
unfolding Within along
downwards true i m e w = (w.0, (refl, omega (arith, w.1)))
downwards false i m e w = let z : ◌≡◌ {A = ℕ} 0 1 = cc in absurd (omega arith)

pub upwards : (b : Bool) (i m : ℕ) → b ≡ false → Within b i m → Fits w32 (i + m) × ((i + m ≡ along b i m) × (i + m < node_cells))
unfolding Within along
upwards false i m e w = (record { fits = omega arith }, (refl, w))
upwards true i m e w = let z : ◌≡◌ {A = ℕ} 0 1 = cc in absurd (omega arith)

pub at-is : (i : ℕ) → i < node_cells → to_z w32 i ≡ pos i
at-is i l = to_z_pos w32 (omega arith)

pub less-within : (b : Bool) (i r m : ℕ) → Within b i r → m ≤ r → Within b i m
unfolding Within
less-within false i r m w l = omega arith
less-within true i r m w l = (omega (arith, w.0), w.1)

pub along-none : (b : Bool) (i : ℕ) → along b i 0 ≡ i
unfolding along
along-none false i = omega arith
along-none true i = omega arith

-- a step leads from cell to cell
pub goes-along : (b : Bool) (i r m : ℕ) → Within b i r → m < r → advanced b (pos (along b i m)) ≡ pos (along b i (m + 1))
unfolding advanced along Within
goes-along false i r m w l = rw (lt-ltb (i + m) node_cells (omega arith)) (ap pos (omega arith))
goes-along true i r m w l = rw (le-ltb (i - m) 0 (omega arith), le-ltb (i - m) 1 (omega (arith, w.0))) (ap pos (omega arith))

-- and has not finished
pub in-use-on : (b : Bool) (u i r m : ℕ) → InUse b u i r → m < r → finished b u (pos (along b i (m + 1))) ≡ false
unfolding finished along InUse
in-use-on false u i r m w l = lt-leb u (i + (m + 1)) (omega arith)
in-use-on true u i r m w l = le-ltb (i - (m + 1)) 0 (omega arith)

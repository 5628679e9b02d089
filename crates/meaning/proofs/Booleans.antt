-- What a test of two parts says of each.
use mathlib.Core.Path.{◌≡◌, refl, sym}
use mathlib.Core.Bool.{Bool, true, false, ◌&&◌, ◌||◌, false≢true}
use Prim.Native.Nat.{ℕ, ◌<◌}
use lib.Dec.{ltb}
use borrow.Author.Tests.{ltb-true}

pub both_true : (a b : Bool) → a && b ≡ true → (a ≡ true) × (b ≡ true)
both_true true b e = (refl, e)
both_true false b e = absurd (false≢true e)

pub both_false : (a b : Bool) → a || b ≡ false → (a ≡ false) × (b ≡ false)
both_false false b e = (refl, e)
both_false true b e = absurd (false≢true (sym e))

pub or-none : (b : Bool) → b || false ≡ b
or-none true = refl
or-none false = refl

pub both_below : (m n a b : ℕ) → ltb m a && ltb n b ≡ true → (m < a) × (n < b)
both_below m n a b e = let x = both_true (ltb m a) (ltb n b) e in (ltb-true m a x.0, ltb-true n b x.1)

-- The links from slots and walks when one record changes.
use mathlib.Core.Path.{◌≡◌}
use mathlib.Core.Logic.{◌≢◌}
use mathlib.Core.Bool.{Bool, true, false, cond}
use mathlib.Core.List.{List, [], ◌∷◌}
use Prim.Native.Nat.{ℕ, zero, suc, ◌+◌, ◌<◌}
use native.Mathlib.Nat.{lt_irrefl}
use native.Mathlib.Omega.{arith}
use lib.Dec.{eqb}
use lib.ListN.{length, get_or, set}
use borrow.Author.Tests.{ne_eqb}
use Rattle.meaning.specs.Counting.{bit, occurrences}
use Rattle.meaning.specs.Lent.{VersionRecord, empty_record}
use Rattle.meaning.specs.Links.{live_roots}

-- a record's own link
own : (n : ℕ) → VersionRecord → ℕ
own n v = occurrences n (live_roots (v ∷ []))

own-live : (n : ℕ) (v : VersionRecord) → v.live ≡ 1 → own n v ≡ bit (eqb v.root n)
unfolding own live_roots occurrences
own-live n v e = rw e (omega arith)

own-empty : (n : ℕ) (v : VersionRecord) → v.live ≢ 1 → own n v ≡ 0
unfolding own live_roots occurrences
own-empty n v f = rw (ne_eqb v.live 1 f)

-- a list's links are its records' own
first-own : (n : ℕ) (v : VersionRecord) (vs : List VersionRecord) → occurrences n (live_roots (v ∷ vs)) ≡ own n v + occurrences n (live_roots vs)
unfolding own live_roots occurrences
first-own n v vs = pick (eqb v.live 1)
  where
    pick : (b : Bool) → occurrences n (cond b (v.root ∷ live_roots vs) (live_roots vs)) ≡ occurrences n (cond b (v.root ∷ []) []) + occurrences n (live_roots vs)
    pick true = omega arith
    pick false = omega arith

set_own : (n : ℕ) (vs : List VersionRecord) (i : ℕ) (v : VersionRecord) → i < length vs
    → occurrences n (live_roots (set vs i v)) + own n (get_or vs i empty_record) ≡ own n v + occurrences n (live_roots vs)
set_own n [] i v l = absurd (lt_irrefl zero (omega arith))
set_own n (u ∷ vs) zero v l = omega (arith, first-own n v vs, first-own n u vs)
set_own n (u ∷ vs) (suc i) v l = omega (arith, first-own n u (set vs i v), first-own n u vs, set_own n vs i v (omega arith))

module _ (n : ℕ) (vs : List VersionRecord) (i : ℕ) (l : i < length vs) where
  -- an empty record is filled
  pub roots-fill : (v : VersionRecord) → (get_or vs i empty_record).live ≢ 1 → v.live ≡ 1
      → occurrences n (live_roots (set vs i v)) ≡ bit (eqb v.root n) + occurrences n (live_roots vs)
  roots-fill v f e = omega (arith, set_own n vs i v l, own-empty n (get_or vs i empty_record) f, own-live n v e)

  -- a live one is emptied
  pub roots-clear : (get_or vs i empty_record).live ≡ 1
      → occurrences n (live_roots vs) ≡ bit (eqb (get_or vs i empty_record).root n) + occurrences n (live_roots (set vs i empty_record))
  roots-clear e = omega (arith, set_own n vs i empty_record l, own-live n (get_or vs i empty_record) e, own-empty n empty_record (λ f. omega arith))

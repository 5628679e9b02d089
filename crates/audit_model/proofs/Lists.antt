-- Counts and lists by rule.
use mathlib.Core.Path.{◌≡◌, refl, sym, ap, ◌∙◌}
use mathlib.Core.Logic.{◌⊎◌, inl, inr}
use mathlib.Core.Bool.{Bool, true, false, cond}
use mathlib.Core.List.{List, [], ◌∷◌, ◌++◌}
use Prim.Native.Nat.{ℕ, zero, suc, ◌+◌, ◌≤◌, ◌<◌}
use native.Mathlib.Nat.{lt_irrefl, eq-or-lt_of_le, le_of_suc-le-suc}
use native.Mathlib.Omega.{arith}
use native.Mathlib.Decide.{ℕ_discrete}
use lib.Dec.{eqb}
use lib.ListN.{length, get_or}
use borrow.Author.Tests.{eqb-true, eq-eqb}
use Rattle.meaning.specs.Counting.{sum_to, bit, how_many, occurrences, rows, Each}
use Rattle.meaning.specs.Lent.{VersionRecord}
use Rattle.meaning.specs.Links.{live_roots}
use Rattle.meaning.proofs.Lists.{occurs-append}

pub none_of : (k : ℕ) → (1 ≤ k → ⊥) → k ≡ 0
none_of zero f = refl
none_of (suc k) f = absurd (f (omega arith))

pub bit-some : (b : Bool) → 1 ≤ bit b → b ≡ true
bit-some true l = refl
bit-some false l = absurd (lt_irrefl zero (omega arith))

-- one more in a count
pub many-next : (n : ℕ) (test : ℕ → Bool) → how_many (suc n) test ≡ how_many n test + bit (test n)
unfolding how_many sum_to
many-next n test = refl

pub each-list : {A : Type 0} (P : A → Type 0) (d : A) (xs : List A) → ((i : ℕ) → i < length xs → P (get_or xs i d)) → Each P xs
each-list P d [] h = tt
each-list P d (x ∷ xs) h = (h 0 (omega arith), each-list P d xs (λ i l. h (suc i) (omega arith)))

-- ---- lists by rule

rows_next : {A : Type 0} (n : ℕ) (f : ℕ → A) → rows (suc n) f ≡ rows n f ++ (f n ∷ [])
unfolding rows
rows_next zero f = refl
rows_next {A} (suc n) f = ap (λ (xs : List A). f 0 ∷ xs) (rows_next n (λ i. f (suc i)))

pub rows_all : {A : Type 0} (d : A) (xs : List A) → rows (length xs) (λ i. get_or xs i d) ≡ xs
unfolding rows
rows_all d [] = refl
rows_all {A} d (x ∷ xs) = ap (λ (ys : List A). x ∷ ys) (rows_all d xs)

-- ---- roots

live-append : (xs ys : List VersionRecord) → live_roots (xs ++ ys) ≡ live_roots xs ++ live_roots ys
unfolding live_roots
live-append [] ys = refl
live-append (x ∷ xs) ys = by (eqb x.live 1) (live-append xs ys)
  where
    by : (o : Bool) → live_roots (xs ++ ys) ≡ live_roots xs ++ live_roots ys
        → cond o (x.root ∷ live_roots (xs ++ ys)) (live_roots (xs ++ ys)) ≡ cond o (x.root ∷ live_roots xs) (live_roots xs) ++ live_roots ys
    by true e = ap (λ (l : List ℕ). x.root ∷ l) e
    by false e = e

-- the links from one record
unfoldable pub root_link : VersionRecord → (n : ℕ) → ℕ
root_link v n = cond (eqb v.live 1) (bit (eqb v.root n)) 0

one-root : (n : ℕ) (v : VersionRecord) (vs : List VersionRecord) → occurrences n (live_roots (v ∷ vs)) ≡ root_link v n + occurrences n (live_roots vs)
unfolding live_roots occurrences root_link
one-root n v vs = by (eqb v.live 1)
  where
    by : (o : Bool) → occurrences n (cond o (v.root ∷ live_roots vs) (live_roots vs)) ≡ cond o (bit (eqb v.root n)) 0 + occurrences n (live_roots vs)
    by true = refl
    by false = omega arith

pub roots-next : (n k : ℕ) (f : ℕ → VersionRecord) → occurrences n (live_roots (rows (suc k) f)) ≡ occurrences n (live_roots (rows k f)) + root_link (f k) n
unfolding occurrences live_roots
roots-next n k f =
    ap (λ (l : List VersionRecord). occurrences n (live_roots l)) (rows_next k f)
    ∙ ap (occurrences n) (live-append (rows k f) (f k ∷ [])) ∙ occurs-append n (live_roots (rows k f)) (live_roots (f k ∷ []))
    ∙ omega (arith, one-root n (f k) [])

pub root-link : (v : VersionRecord) → v.live ≡ 1 → root_link v v.root ≡ 1
unfolding root_link
root-link v e = rw (e, eq-eqb v.root v.root refl)

link-root : (v : VersionRecord) (n : ℕ) → 1 ≤ root_link v n → (v.live ≡ 1) × (n ≡ v.root)
unfolding root_link
link-root v n l = by (eqb v.live 1) refl l
  where
    by : (o : Bool) → eqb v.live 1 ≡ o → 1 ≤ cond o (bit (eqb v.root n)) 0 → (v.live ≡ 1) × (n ≡ v.root)
    by true e q = (eqb-true _ _ e, sym (eqb-true _ _ (bit-some (eqb v.root n) q)))
    by false e q = absurd (lt_irrefl zero (omega arith))

pub root-occurs : (k : ℕ) (f : ℕ → VersionRecord) (i : ℕ) → i < k → (f i).live ≡ 1 → 1 ≤ occurrences (f i).root (live_roots (rows k f))
root-occurs zero f i l e = absurd (lt_irrefl zero (omega arith))
root-occurs (suc k) f i l e = by (eq-or-lt_of_le (le_of_suc-le-suc l)) (λ u. root-occurs k f i u e)
  where
    by : (i ≡ k) ⊎ (i < k) → (i < k → 1 ≤ occurrences (f i).root (live_roots (rows k f))) → 1 ≤ occurrences (f i).root (live_roots (rows (suc k) f))
    by (inl d) rest =
        let q : root_link (f k) (f i).root ≡ 1 = rw (← d) (root-link (f i) e) in
        omega (arith, roots-next (f i).root k f)
    by (inr u) rest = omega (arith, roots-next (f i).root k f, rest u)

pub occurs-root : (n k : ℕ) (f : ℕ → VersionRecord) → 1 ≤ occurrences n (live_roots (rows k f)) → (i : ℕ) × (i < k) × (((f i).live ≡ 1) × (n ≡ (f i).root))
unfolding occurrences live_roots rows
occurs-root n zero f l = absurd (lt_irrefl zero (omega arith))
occurs-root n (suc k) f l = by (ℕ_discrete (root_link (f k) n) 0) (occurs-root n k f)
  where
    by : Dec (root_link (f k) n ≡ 0) → (1 ≤ occurrences n (live_roots (rows k f)) → (i : ℕ) × (i < k) × (((f i).live ≡ 1) × (n ≡ (f i).root)))
        → (i : ℕ) × (i < suc k) × (((f i).live ≡ 1) × (n ≡ (f i).root))
    by (yes z) rest = let r = rest (omega (arith, roots-next n k f)) in (r.0, omega (arith, r.1), r.2)
    by (no z) rest = (k, omega arith, link-root (f k) n (omega arith))

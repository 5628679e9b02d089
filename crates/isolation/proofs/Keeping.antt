-- Keeping some of a list; the frames of one party.
use mathlib.Core.Path.{◌≡◌, refl, sym, ◌∙◌}
use mathlib.Core.Logic.{◌≢◌}
use mathlib.Core.Bool.{Bool, true, false, cond}
use mathlib.Core.List.{List, [], ◌∷◌, ◌++◌, append-nil}
use Prim.Native.Nat.{ℕ, zero, suc, ◌≤◌, ◌<◌}
use native.Mathlib.Nat.{lt_irrefl}
use native.Mathlib.Decide.{dec_lt}
use native.Mathlib.Omega.{arith}
use borrow.Author.Tests.{eqb-true, ne_eqb}
use Rattle.meaning.specs.Counting.{Each}
use Rattle.meaning.specs.Frames.{Frame}
use Rattle.meaning.proofs.Lists.{each_append}
use Rattle.isolation.specs.Demand3.{keep, frames_of, party_by_party}

-- ---- keep

pub keep_append : {A : Type 0} (test : A → Bool) (xs ys : List A) → keep test (xs ++ ys) ≡ keep test xs ++ keep test ys
unfolding keep
keep_append test [] ys = refl
keep_append {A} test (x ∷ xs) ys = pick (test x) (keep_append test xs ys)
  where
    pick : (b : Bool) → keep test (xs ++ ys) ≡ keep test xs ++ keep test ys
        → cond b (x ∷ keep test (xs ++ ys)) (keep test (xs ++ ys)) ≡ cond b (x ∷ keep test xs) (keep test xs) ++ keep test ys
    pick true e = rw e
    pick false e = e

-- kept twice by tests that agree is kept once
pub keep_same : {A : Type 0} (test : A → Bool) (xs : List A) → keep test (keep test xs) ≡ keep test xs
unfolding keep
keep_same test [] = refl
keep_same {A} test (x ∷ xs) = pick (test x) refl (keep_same test xs)
  where
    pick : (b : Bool) → test x ≡ b → keep test (keep test xs) ≡ keep test xs
        → keep test (cond b (x ∷ keep test xs) (keep test xs)) ≡ cond b (x ∷ keep test xs) (keep test xs)
    pick true h e = rw (h, e)
    pick false h e = e

-- and by tests that never pass together not at all
pub keep_apart : {A : Type 0} (test other : A → Bool) → ((x : A) → test x ≡ true → other x ≡ false) → (xs : List A) → keep other (keep test xs) ≡ []
unfolding keep
keep_apart test other apart [] = refl
keep_apart {A} test other apart (x ∷ xs) = pick (test x) refl (keep_apart test other apart xs)
  where
    pick : (b : Bool) → test x ≡ b → keep other (keep test xs) ≡ [] → keep other (cond b (x ∷ keep test xs) (keep test xs)) ≡ []
    pick true h e = rw (apart x h) e
    pick false h e = e

-- ---- Each

pub each_keep : {A : Type 0} (P : A → Type 0) (test : A → Bool) (xs : List A) → Each P xs → Each P (keep test xs)
unfolding keep
each_keep P test [] h = tt
each_keep {A} P test (x ∷ xs) h = pick (test x) (each_keep P test xs h.1)
  where
    pick : (b : Bool) → Each P (keep test xs) → Each P (cond b (x ∷ keep test xs) (keep test xs))
    pick true k = (h.0, k)
    pick false k = k

-- ---- the frames of a party

pub frames-append : (p : ℕ) (xs ys : List Frame) → frames_of p (xs ++ ys) ≡ frames_of p xs ++ frames_of p ys
unfolding frames_of
frames-append p xs ys = keep_append _ xs ys

pub frames-same : (p : ℕ) (fs : List Frame) → frames_of p (frames_of p fs) ≡ frames_of p fs
unfolding frames_of
frames-same p fs = keep_same _ fs

pub frames-other : (p q : ℕ) → p ≢ q → (fs : List Frame) → frames_of p (frames_of q fs) ≡ []
unfolding frames_of
frames-other p q n fs = keep_apart _ _ (λ f e. ne_eqb f.party p (λ h. n (sym h ∙ eqb-true f.party q e))) fs

pub sorted_none : (n p : ℕ) → n ≤ p → (fs : List Frame) → frames_of p (party_by_party n fs) ≡ []
unfolding party_by_party frames_of keep
sorted_none zero p l fs = refl
sorted_none (suc n) p l fs =
    frames-append p (party_by_party n fs) (frames_of n fs)
    ∙ rw (sorted_none n p (omega arith) fs, frames-other p n (omega arith) fs)

-- party by party, each party has the frames that it had
pub sorted-one : (n p : ℕ) → p < n → (fs : List Frame) → frames_of p (party_by_party n fs) ≡ frames_of p fs
unfolding party_by_party
sorted-one zero p l fs = absurd (lt_irrefl zero (omega arith))
sorted-one (suc n) p l fs = frames-append p (party_by_party n fs) (frames_of n fs) ∙ pick (dec_lt p n) (sorted-one n p)
  where
    pick : Dec (p < n) → (p < n → (gs : List Frame) → frames_of p (party_by_party n gs) ≡ frames_of p gs)
        → frames_of p (party_by_party n fs) ++ frames_of p (frames_of n fs) ≡ frames_of p fs
    pick (yes s) ih = rw (ih s fs, frames-other p n (omega arith) fs) (append-nil _)
    pick (no s) ih = let e : n ≡ p = omega arith in rw (sorted_none n p (omega arith) fs, e, frames-same p fs)

pub each-sorted : (P : Frame → Type 0) (n : ℕ) (fs : List Frame) → Each P fs → Each P (party_by_party n fs)
unfolding party_by_party frames_of
each-sorted P zero fs h = tt
each-sorted P (suc n) fs h = each_append P (party_by_party n fs) _ (each-sorted P n fs h) (each_keep P _ fs h)

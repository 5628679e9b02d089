-- Parties that share a state, of which each call reads and changes its own party's part alone, can't tell whether they run together or alone.
use mathlib.Core.Path.{◌≡◌, refl, sym, ap, ap₂, ◌∙◌}
use mathlib.Core.Logic.{◌≢◌}
use mathlib.Core.Bool.{Bool, true, false, cond}
use mathlib.Core.List.{List, [], ◌∷◌, map}
use Prim.Native.Nat.{ℕ}
use lib.Dec.{eqb}
use borrow.Author.Tests.{eqb-true, eqb-false}
use Rattle.meaning.specs.Counting.{Each}
use Rattle.meaning.specs.Frames.{Frame, Answer}
use Rattle.meaning.specs.Serve.{Reply}
use Rattle.isolation.specs.Demand3.{keep, frames_of, answers_to, Own}

-- frames of one party on its own part
unfoldable pub alone : {P : Type 0} → (Frame → P → P × Answer) → List Frame → P → P × List Answer
alone step [] x = (x, [])
alone step (f ∷ fs) x =
    let r = step f x in
    let more = alone step fs r.0 in
    (more.0, r.1 ∷ more.1)

-- frames of all parties on the whole
unfoldable pub together : {S : Type 0} → (Frame → S → S × Answer) → List Frame → S → S × List Reply
together serves [] s = (s, [])
together serves (f ∷ fs) s =
    let r = serves f s in
    let more = together serves fs r.0 in
    (more.0, record { frame = f; answer = r.1 } ∷ more.1)

-- a party's own call reads and changes its own part alone
pub record Apart {S P : Type 0} (part : ℕ → S → P) (serves : Frame → S → S × Answer) (step : Frame → P → P × Answer) (Good : S → Type 0) : Type 0 where
  pub good : (f : Frame) (s : S) → Own f → Good s → Good (serves f s).0
  pub own : (f : Frame) (s : S) → Own f → Good s → part f.party (serves f s).0 ≡ (step f (part f.party s)).0
  pub told : (f : Frame) (s : S) → Own f → Good s → (serves f s).1 ≡ (step f (part f.party s)).1
  pub others : (f : Frame) (s : S) → Own f → Good s → (p : ℕ) → p ≢ f.party → part p (serves f s).0 ≡ part p s

module _ {S P : Type 0} (part : ℕ → S → P) (serves : Frame → S → S × Answer) (step : Frame → P → P × Answer) (Good : S → Type 0) (apart : Apart part serves step Good) where
  pub isolation : (fs : List Frame) (s : S) (p : ℕ) → Each Own fs → Good s
      → (part p (together serves fs s).0 ≡ (alone step (frames_of p fs) (part p s)).0)
      × (answers_to p (together serves fs s).1 ≡ (alone step (frames_of p fs) (part p s)).1)
  unfolding together alone frames_of answers_to keep
  isolation [] s p h g = (refl, refl)
  isolation (f ∷ fs) s p h g = pick (eqb q p) refl (isolation fs u p h.1 (apart.good f s h.0 g))
    where
      q : ℕ
      q = f.party

      u : S
      u = (serves f s).0

      a : Answer
      a = (serves f s).1

      rest : S × List Reply
      rest = together serves fs u

      mine : List Frame
      mine = frames_of p fs

      told : List Reply
      told = keep (λ (x : Reply). eqb x.frame.party p) rest.1

      pick : (b : Bool) → eqb q p ≡ b
          → (part p rest.0 ≡ (alone step mine (part p u)).0) × (answers_to p rest.1 ≡ (alone step mine (part p u)).1)
          → (part p rest.0 ≡ (alone step (cond b (f ∷ mine) mine) (part p s)).0)
          × (map (λ (x : Reply). x.answer) (cond b (record { frame = f; answer = a } ∷ told) told) ≡ (alone step (cond b (f ∷ mine) mine) (part p s)).1)
      pick true e ih =
          let i : q ≡ p = eqb-true q p e in
          let k : part p u ≡ (step f (part p s)).0 = ap (λ (n : ℕ). part n u) (sym i) ∙ apart.own f s h.0 g ∙ ap (λ (n : ℕ). (step f (part n s)).0) i in
          let l : a ≡ (step f (part p s)).1 = apart.told f s h.0 g ∙ ap (λ (n : ℕ). (step f (part n s)).1) i in
          (ih.0 ∙ ap (λ (x : P). (alone step mine x).0) k, ap₂ (λ (x : Answer) (xs : List Answer). x ∷ xs) l (ih.1 ∙ ap (λ (x : P). (alone step mine x).1) k))
      pick false e ih =
          let k : part p u ≡ part p s = apart.others f s h.0 g p (λ d. eqb-false q p e (sym d)) in
          (ih.0 ∙ ap (λ (x : P). (alone step mine x).0) k, ih.1 ∙ ap (λ (x : P). (alone step mine x).1) k)

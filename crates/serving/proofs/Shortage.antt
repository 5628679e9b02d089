-- Number 10 is given exactly if all earlier checks pass and fewer nodes are free than the charge.
use mathlib.Core.Path.{◌≡◌, refl, sym}
use mathlib.Core.Logic.{◌≢◌, ◌↔◌}
use mathlib.Core.Bool.{Bool, true, false, cond, false≢true}
use mathlib.Core.List.{List, [], ◌∷◌, ◌++◌}
use Prim.Native.Nat.{ℕ, ◌<◌}
use native.Mathlib.Omega.{arith}
use lib.Dec.{ltb}
use borrow.Author.Tests.{ltb-true, lt-ltb}
use Rattle.meaning.specs.Limits.{done_number, no_nodes_number}
use Rattle.meaning.specs.Counting.{Each}
use Rattle.meaning.specs.Frames.{Frame}
use Rattle.meaning.specs.Operations.{Op}
use Rattle.meaning.specs.Costs.{cost}
use Rattle.meaning.specs.Supply.{all_free, no_limit, is_short}
use Rattle.meaning.specs.Checks.{Seen, Check, ◌if◌, entry_checks, find_checks, earlier_checks, nodes_check, checks, first_of}

abbrev Named : ℕ → List Check → Type 0
Named n cs = Each (λ (c : Check). (c.number ≢ n) × (c.number ≢ done_number)) cs

last-only : (cs : List Check) (n : ℕ) (b : Bool) → n ≢ done_number → Named n cs
    → (first_of (cs ++ ((n if b) ∷ [])) ≡ n) ↔ ((first_of (cs ++ ((n if false) ∷ [])) ≡ done_number) × (b ≡ true))
unfolding first_of ◌if◌
last-only [] n true f h = (λ e. (refl, refl), λ e. refl)
last-only [] n false f h = (λ e. absurd (f (sym e)), λ e. absurd (false≢true e.1))
last-only (c ∷ cs) n b f h = pick c.applies (last-only cs n b f h.1)
  where
    pick : (a : Bool) → (first_of (cs ++ ((n if b) ∷ [])) ≡ n) ↔ ((first_of (cs ++ ((n if false) ∷ [])) ≡ done_number) × (b ≡ true))
        → (cond a c.number (first_of (cs ++ ((n if b) ∷ []))) ≡ n) ↔ ((cond a c.number (first_of (cs ++ ((n if false) ∷ []))) ≡ done_number) × (b ≡ true))
    pick true ih = (λ e. absurd (h.0.0 e), λ e. absurd (h.0.1 e.0))
    pick false ih = ih

module _ (o : Op) (f : Frame) (x : Seen) (free : ℕ) where
  earlier-named : Named no_nodes_number (earlier_checks o f x)
  unfolding entry_checks find_checks earlier_checks ◌if◌
  earlier-named = omega arith

  abbrev charge : ℕ
  charge = (cost o x.bits x.length).charge

  pub short-exactly : (first_of (checks o (all_free free) f x) ≡ no_nodes_number) ↔ ((first_of (checks o no_limit f x) ≡ done_number) × (free < charge))
  unfolding checks nodes_check is_short ◌if◌
  short-exactly =
      let both = last-only (earlier_checks o f x) no_nodes_number (ltb free charge) (omega arith) earlier-named in
      (λ e. let h = both.0 e in (h.0, ltb-true free _ h.1), λ e. both.1 (e.0, lt-ltb free _ e.1))

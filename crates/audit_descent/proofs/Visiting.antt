-- What the calls of the descent give is what the model says.
use mathlib.Core.Path.{◌≡◌, refl, sym, ap, ◌∙◌}
use mathlib.Core.Logic.{◌≢◌}
use mathlib.Core.Bool.{true, false}
use mathlib.Core.List.{List}
use Prim.Native.Nat.{ℕ, zero, suc, ◌-◌, ◌*◌, ◌^◌, ◌<◌, min}
use native.Mathlib.Numerals.{sub-one}
use lib.ListN.{length, get_or, set}
use borrow.Author.Tests.{lt-ltb, ne_eqb}
use Rattle.meaning.specs.Lent.{Nodes, kind_of, used_of, cell_of}
use Rattle.meaning.specs.Shape.{degree}
use Rattle.audit_model.specs.Descent.{code, Answer, answer, pick, go_on, and_then, through, marked, branch_ok, known, child, visit}
use Rattle.audit_model.proofs.Steps.{pick_yes, pick_no}

module _ (s : Nodes) (b m n : ℕ) (t : List ℕ) where
  known-new : (x : ℕ) (a : Answer) → n < length s.kinds → get_or t n 0 ≢ x → a ≡ known s x n t a
  unfolding known
  known-new x a l f = pick_no _ _ _ (ne_eqb (get_or t n 0) x f) ∙ pick_yes _ _ _ (lt-ltb n (length s.kinds) l)

  -- what holds of a node that is not known yet
  pub record New (h x k u : ℕ) : Type 0 where
    pub inside : n < length s.kinds
    pub mark : x ≡ code b h m
    pub unmarked : get_or t n 0 ≢ x
    pub kind : k ≡ kind_of s n
    pub used : u ≡ used_of s n

  visit-high : (h x c k u : ℕ) → New h x k u → h ≢ 0 → c ≡ degree b ^ h
      → pick (branch_ok k u b c m) (and_then (through u (child (visit s b (h - 1)) s c m n) t) (marked n x)) (answer false t) ≡ visit s b h m n t
  unfolding visit
  visit-high zero x c k u w e q = absurd (e refl)
  visit-high (suc h) x c k u w e q =
      rw (w.kind, w.used, w.mark, q, sub-one) (known-new (code b (suc h) m) _ w.inside (λ d. w.unmarked (d ∙ sym w.mark)))

  visit-children : (h x c k u : ℕ) (a : Answer) → New h x k u → h ≢ 0 → c ≡ degree b ^ h → true ≡ branch_ok k u b c m
      → a ≡ through u (child (visit s b (h - 1)) s c m n) t → and_then a (marked n x) ≡ visit s b h m n t
  visit-children h x c k u a w e q p z = rw z (pick_yes _ _ _ (sym p) ∙ visit-high h x c k u w e q)

  pub visit-fails : (h x c k u : ℕ) (t' : List ℕ) → New h x k u → h ≢ 0 → c ≡ degree b ^ h → true ≡ branch_ok k u b c m
      → answer false t' ≡ through u (child (visit s b (h - 1)) s c m n) t → answer false t' ≡ visit s b h m n t
  unfolding go_on
  visit-fails h x c k u t' w e q p z = visit-children h x c k u (answer false t') w e q p z

  pub visit-marks : (h x c k u : ℕ) (t' t'' : List ℕ) → New h x k u → h ≢ 0 → c ≡ degree b ^ h → true ≡ branch_ok k u b c m
      → answer true t' ≡ through u (child (visit s b (h - 1)) s c m n) t → t'' ≡ set t' n x → answer true t'' ≡ visit s b h m n t
  unfolding go_on marked
  visit-marks h x c k u t' t'' w e q p z y = ap (answer true) y ∙ visit-children h x c k u (answer true t') w e q p z

-- child i, by the numbers that the calls gave
pub visit-child : (s : Nodes) (b h c m n i b' h' m' ch : ℕ) (t : List ℕ) (a : Answer)
    → b' ≡ b → h' ≡ h → m' ≡ min c (m - i * c) → ch ≡ cell_of s n i → a ≡ visit s b' h' m' ch t → a ≡ child (visit s b h) s c m n i t
visit-child s b h c m n i b' h' m' ch t a w z p q r = rw (w, z, p, q) at r

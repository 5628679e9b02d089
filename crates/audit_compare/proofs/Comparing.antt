-- What the calls of the comparison give is what the model says.
use mathlib.Core.Path.{◌≡◌, refl, sym, ap, ◌∙◌}
use mathlib.Core.Logic.{◌≢◌}
use Rattle.std.proofs.Math.Bool.{and-true}
use mathlib.Core.Bool.{Bool, true, false, ◌&&◌, false≢true}
use mathlib.Core.List.{List, [], ◌∷◌, map}
use Prim.Native.Nat.{ℕ, zero, suc, ◌+◌, ◌≤◌, ◌<◌}
use native.Mathlib.Decide.{ℕ_discrete}
use native.Mathlib.Numerals.{add-one}
use native.Mathlib.Omega.{arith}
use Rattle.std.specs.List.{list_all, range_with_len}
use Rattle.std.proofs.lemmas.List.Folds.{list_all-append, list_all-map}
use Rattle.std.proofs.lemmas.List.FromFn.{map-range_with_len_more}
use Rattle.audit_model.specs.Records.{all_to}
use lib.Dec.{eqb}
use borrow.Author.Tests.{eq-eqb, ne_eqb}
use Rattle.meaning.specs.Limits.{node_cells}
use Rattle.audit_model.specs.Audit.{spare_ok}
use Rattle.audit_model.proofs.Steps.{Held, held_start, held_next, from-ends, from-fails}

module _ (u : ℕ) (cell : ℕ → ℕ) where
  pub spare-zero : (i x : ℕ) → x ≡ cell i → x ≡ 0 → eqb (cell i) 0 ≡ true
  spare-zero i x p q = eq-eqb (cell i) 0 (sym p ∙ q)

  pub spare-ends : (i : ℕ) → Held u i (λ j. eqb (cell j) 0) → node_cells ≤ i → true ≡ spare_ok u cell
  unfolding spare_ok
  spare-ends i h l = from-ends u i node_cells (λ j. eqb (cell j) 0) h l

  pub spare-fails : (i x : ℕ) → u ≤ i → i < node_cells → x ≡ cell i → x ≢ 0 → false ≡ spare_ok u cell
  unfolding spare_ok
  spare-fails i x l k p f = from-fails u i node_cells (λ j. eqb (cell j) 0) l k (ne_eqb (cell i) 0 (λ e. f (p ∙ e)))

  -- what a loop without a way out knows when it has looked at the cells before i
  abbrev pub Looked : (i : ℕ) → (ok : Bool) → Type 0
  Looked i ok = (u ≤ i) × (ok ≡ true → Held u i (λ j. eqb (cell j) 0)) × (ok ≡ false → false ≡ spare_ok u cell)

  pub look-begins : Looked u true
  look-begins = (omega arith, λ e. held_start u (λ j. eqb (cell j) 0), λ e. absurd (false≢true (sym e)))

  pub look-goes-on : (i x : ℕ) (ok : Bool) → Looked i ok → i < node_cells → x ≡ cell i → Looked (i + 1) (ok && eqb x 0)
  look-goes-on i x false (l, h, f) k e = (omega arith, λ q. absurd (false≢true q), λ q. f refl)
  look-goes-on i x true (l, h, f) k e = pick (ℕ_discrete x 0)
    where
      pick : Dec (x ≡ 0) → Looked (i + 1) (eqb x 0)
      pick (yes z) = rw (eq-eqb x 0 z) (omega arith, λ q. held_next u i (λ j. eqb (cell j) 0) (h refl) (spare-zero i x e z), λ q. absurd (false≢true (sym q)))
      pick (no n) = rw (ne_eqb x 0 n) (omega arith, λ q. absurd (false≢true q), λ q. spare-fails i x l k e n)

  pub look-ends : (i : ℕ) (ok : Bool) → Looked i ok → node_cells ≤ i → ok ≡ spare_ok u cell
  look-ends i true (l, h, f) k = spare-ends i (h refl) k
  look-ends i false (l, h, f) k = f refl

-- ---- all nodes

listed : (n : ℕ) (test : ℕ → Bool) → all_to n test ≡ list_all (λ b. b) (map test (range_with_len 0 n))
unfolding all_to
listed zero test = refl
listed (suc n) test =
    ap (λ (b : Bool). b && test n) (listed n test)
    ∙ ap (λ (b : Bool). list_all (λ b. b) (map test (range_with_len 0 n)) && b) (sym (and-true (test n)))
    ∙ sym (list_all-append (λ b. b) (map test (range_with_len 0 n)) (test n ∷ []))
    ∙ ap (λ (bs : List Bool). list_all (λ b. b) bs) (sym (map-range_with_len_more test 0 n n (omega arith)))
    ∙ ap (λ (k : ℕ). list_all (λ b. b) (map test (range_with_len 0 k))) (add-one n)

pub all_listed : (n : ℕ) (test : ℕ → Bool) → all_to n test ≡ list_all test (range_with_len 0 n)
all_listed n test = listed n test ∙ list_all-map (λ b. b) test (range_with_len 0 n)

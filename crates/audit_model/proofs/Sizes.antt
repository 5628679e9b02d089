-- The sizes by one test; with them, the whole.
use mathlib.Core.Path.{◌≡◌, sym, ◌∙◌}
use mathlib.Core.Logic.{◌↔◌}
use mathlib.Core.Bool.{Bool, true, false}
use mathlib.Core.List.{List}
use Prim.Native.Nat.{ℕ, ◌≤◌}
use native.Mathlib.Omega.{arith}
use lib.Dec.{eqb}
use lib.ListN.{length, replicate, length-replicate}
use borrow.Author.Tests.{eqb-true, leb-true, eq-eqb, le-leb}
use Rattle.meaning.specs.Limits.{version_count}
use Rattle.meaning.specs.Lent.{Lent, size}
use Rattle.meaning.specs.WellFormed.{SizesFit, WellFormed}
use Rattle.meaning.proofs.Lists.{replicate-at}
use Rattle.meaning.proofs.Booleans.{both_true}
use Rattle.audit_model.specs.Audit.{Blank, lengths_ok, sizes_ok, rest_ok, audit_ok}
use Rattle.audit_model.proofs.Tests.{true≢false, true-both}
use Rattle.audit_model.proofs.Decides.{rest-sound, rest-complete}

pub sizes-fit : (s : Lent) → sizes_ok s ≡ true → SizesFit s
unfolding sizes_ok lengths_ok
sizes-fit s e =
    let v = both_true _ _ e in
    let t = both_true _ _ v.0 in
    let x₁ = both_true _ _ t.1 in
    let x₂ = both_true _ _ x₁.0 in
    let x₃ = both_true _ _ x₂.0 in
    let x₄ = both_true _ _ x₃.0 in
    let x₅ = both_true _ _ x₄.0 in
    let x₆ = both_true _ _ x₅.0 in
    let x₇ = both_true _ _ x₆.0 in
    record {
      least = leb-true _ _ x₇.0;
      most = leb-true _ _ t.0;
      used = eqb-true _ _ x₇.1;
      cells = eqb-true _ _ x₆.1;
      counts = eqb-true _ _ x₅.1;
      order = eqb-true _ _ x₄.1;
      versions = eqb-true _ _ v.1;
      walk_numbers = eqb-true _ _ x₃.1;
      walk_nodes = eqb-true _ _ x₂.1;
      walk_indices = eqb-true _ _ x₁.1;
    }

pub fit-sizes : (s : Lent) → SizesFit s → sizes_ok s ≡ true
unfolding sizes_ok lengths_ok
fit-sizes s f =
    true-both _ _
    (true-both _ _ (le-leb _ _ f.most)
    (true-both _ _ (true-both _ _ (true-both _ _ (true-both _ _ (true-both _ _ (true-both _ _ (true-both _ _
    (le-leb _ _ f.least) (eq-eqb _ _ f.used)) (eq-eqb _ _ f.cells)) (eq-eqb _ _ f.counts)) (eq-eqb _ _ f.order))
    (eq-eqb _ _ f.walk_numbers)) (eq-eqb _ _ f.walk_nodes)) (eq-eqb _ _ f.walk_indices)))
    (eq-eqb _ _ f.versions)

-- ---- all lengths but the table's, which has its 64 records

abbrev pub lengths : Lent → Bool
lengths s =
    lengths_ok (size s) (length s.nodes.used) (length s.nodes.cells) (length s.counts) (length s.order)
    (length s.walks.numbers) (length s.walks.nodes) (length s.walks.indices)

pub lengths-fit : (s : Lent) (o : Bool) → o ≡ lengths s → o ≡ true → length s.versions ≡ version_count → SizesFit s
unfolding sizes_ok
lengths-fit s o p e v = sizes-fit s (true-both (lengths s) (eqb (length s.versions) version_count) (sym p ∙ e) (eq-eqb _ _ v))

pub lengths-unfit : (s : Lent) (o : Bool) → o ≡ lengths s → o ≡ false → SizesFit s → ⊥
unfolding sizes_ok
lengths-unfit s o p e f = true≢false (sym (both_true (lengths s) (eqb (length s.versions) version_count) (fit-sizes s f)).0 ∙ (sym p ∙ e))

-- ---- the audit

-- zeros are blank
pub blank-zeros : (n k : ℕ) → k ≤ n → Blank k (replicate n 0)
blank-zeros n k l = record { zeros = λ i. replicate-at n i 0; room = rw (length-replicate {A = ℕ} n 0) l }

-- the audit is true exactly for a well-formed state, with any zeros that suffice for sizes that fit
pub audit-decides : (s : Lent) (z : List ℕ) → (SizesFit s → Blank (size s) z) → (audit_ok s z ≡ true) ↔ WellFormed s
unfolding audit_ok
audit-decides s z b = (
  λ e. let x = both_true (sizes_ok s) (rest_ok s z) e in let f = sizes-fit s x.0 in rest-sound s f z (b f) x.1,
  λ w. true-both _ _ (fit-sizes s w.sizes) (rest-complete s w.sizes z (b w.sizes) w),
)

pub audit-judges : (s : Lent) → (audit_ok s (replicate (size s) 0) ≡ true) ↔ WellFormed s
audit-judges s = audit-decides s (replicate (size s) 0) (λ _. blank-zeros (size s) (size s) (omega arith))

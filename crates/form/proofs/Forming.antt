-- What the parts give is what forming promises, and that leaves nothing open.
use mathlib.Core.Path.{◌≡◌, refl, sym, ap, ◌∙◌}
use mathlib.Core.Bool.{Bool, true, false, ◌&&◌}
use mathlib.Core.List.{List, ◌∷◌}
use Prim.Native.Nat.{ℕ, zero, suc}
use lib.IntN.{ℤ, pos}
use lib.Dec.{eqb}
use lib.ListN.{length, replicate, length-map}
use Rattle.meaning.specs.Limits.{version_count, done_number, ill_formed_number}
use Rattle.meaning.specs.Lent.{VersionRecord, empty_record, Lent, size}
use Rattle.meaning.specs.WellFormed.{SizesFit, WellFormed}
use Rattle.meaning.specs.Fresh.{down_from, fresh_state}
use Rattle.meaning.proofs.FreshLaws.{fresh-well-formed}
use Rattle.records.specs.declared.Version.{Version}
use Rattle.records.specs.Records.{record_of, records_of}
use Rattle.audit_model.specs.Made.{nodes_of, walks_of, lent_of}
use Rattle.audit_model.specs.Audit.{sizes_ok}
use Rattle.audit_model.proofs.Tests.{true≢false}
use Rattle.audit_model.proofs.Sizes.{lengths, sizes-fit, fit-sizes}
use Rattle.form.specs.Forms.{zeros, Forms}

-- a table of one record
table_is : (n : ℕ) (v : Version) (e : VersionRecord) → record_of v ≡ e → records_of (replicate n v) ≡ replicate n e
table_is zero v e p = refl
table_is (suc n) v e p = rw p (ap (λ (rs : List VersionRecord). e ∷ rs) (table_is n v e p))

pub cleared : (table filled : List Version) (v : Version) → length (records_of table) ≡ version_count → filled ≡ replicate (length table) v → record_of v ≡ empty_record → records_of filled ≡ replicate version_count empty_record
cleared table filled v long e p = rw (e, sym (length-map table record_of) ∙ long) (table_is version_count v empty_record p)

pub fresh-is : (s : Lent) (k u c o : List ℕ) (v : List VersionRecord) (a b : List ℕ) (i : List ℤ) → SizesFit s
    → (k ≡ zeros s.nodes.kinds) × (u ≡ zeros s.nodes.used) × (c ≡ zeros s.counts) × (o ≡ down_from (length s.order))
    → v ≡ replicate version_count empty_record
    → (a ≡ zeros s.walks.numbers) × (b ≡ zeros s.walks.nodes) × (i ≡ replicate (length s.walks.indices) (pos 0))
    → Forms s (lent_of (nodes_of k u s.nodes.cells) c o v (walks_of a b i)) done_number
unfolding fresh_state
fresh-is s k u c o v a b i fit n t w = record {
  fits = λ _. (refl, same);
  refuses = λ unfit. absurd (unfit fit);
}
  where
    same : lent_of (nodes_of k u s.nodes.cells) c o v (walks_of a b i) ≡ fresh_state (size s) s.nodes.cells
    same = rw (n.0, n.1, n.2, n.3, t, w.0, w.1, w.2, fit.used, fit.counts, fit.order, fit.walk_numbers, fit.walk_nodes, fit.walk_indices)

-- ---- the lengths, the table's with them

module _ (s : Lent) (table : List Version) (o : Bool) (is : o ≡ lengths s) (lent : s.versions ≡ records_of table) where
  tested : (o && eqb (length table) version_count) ≡ sizes_ok s
  unfolding sizes_ok
  tested = rw (is, lent, length-map table record_of)

  pub tested-fit : (o && eqb (length table) version_count) ≡ true → SizesFit s
  tested-fit e = sizes-fit s (sym tested ∙ e)

  -- nothing is written
  pub refused-is : (o && eqb (length table) version_count) ≡ false → Forms s s ill_formed_number
  refused-is e = record { fits = λ fit. absurd (true≢false (sym (fit-sizes s fit) ∙ sym tested ∙ e)); refuses = λ _. (refl, refl) }

-- what is formed is well-formed
pub forms-well : (s after : Lent) (n : ℕ) → Forms s after n → SizesFit s → WellFormed after
forms-well s after n f fit = rw (f.fits fit).1 (fresh-well-formed (size s) s.nodes.cells fit.least fit.most fit.cells)

-- what comes of forming depends on what was lent alone
pub forms-once : (s a b : Lent) (n m : ℕ) → Forms s a n → Forms s b m → (a ≡ b) × (n ≡ m)
forms-once s a b n m f g = by-sizes (sizes_ok s) refl
  where
    by-sizes : (o : Bool) → sizes_ok s ≡ o → (a ≡ b) × (n ≡ m)
    by-sizes true e =
        let fit = sizes-fit s e in
        ((f.fits fit).1 ∙ sym (g.fits fit).1, (f.fits fit).0 ∙ sym (g.fits fit).0)
    by-sizes false e =
        let unfit : SizesFit s → ⊥ = λ h. true≢false (sym (fit-sizes s h) ∙ e) in
        ((f.refuses unfit).1 ∙ sym (g.refuses unfit).1, (f.refuses unfit).0 ∙ sym (g.refuses unfit).0)

-- What was found right, and a record of the table as that of its list.
use mathlib.Core.Path.{◌≡◌, refl, sym, ap, ◌∙◌}
use mathlib.Core.Logic.{inl, inr}
use mathlib.Core.Bool.{Bool, true, false, ◌&&◌}
use mathlib.Core.List.{List}
use Prim.Native.Nat.{ℕ}
use lib.Dec.{eqb}
use lib.ListN.{get_or, get_or-map}
use borrow.Author.Tests.{eqb-true}
use Rattle.meaning.specs.Lent.{Nodes, VersionRecord}
use Rattle.meaning.specs.Trees.{height_of}
use Rattle.meaning.proofs.Booleans.{both_true}
use Rattle.records.specs.declared.Version.{Version}
use Rattle.records.specs.Records.{record_of, records_of}
use Rattle.audit_model.specs.Descent.{Answer, answer, pick, visit}
use Rattle.audit_model.specs.Records.{empty_ok, legal_ok, version_step}
use Rattle.audit_model.specs.Audit.{record_at}
use Rattle.audit_model.proofs.Tests.{true≢false}
use Rattle.audit_model.proofs.Slots.{legal-is}
use Rattle.audit_walks.specs.Walkable.{Found}

module _ (s : Nodes) (v : VersionRecord) (t : List ℕ) where
  -- what was found right is empty or legal
  version-found : (version_step s v t).ok ≡ true → Found v
  unfolding version_step pick empty_ok
  version-found e = by (eqb v.live 0) (legal_ok v) refl e
    where
      by : (o l : Bool) → legal_ok v ≡ l → (pick o (answer ((eqb v.root 0 && eqb v.bits 0) && eqb v.length 0) t)
          (pick l (visit s v.bits (height_of v) v.length v.root t) (answer false t))).ok ≡ true → Found v
      by true l q e = inl (eqb-true _ _ (both_true (eqb v.root 0 && eqb v.bits 0) (eqb v.length 0) e).1)
      by false true q e = inr (legal-is v q).1
      by false false q e = true≢false (sym e)

  pub found_right : (t' : List ℕ) → answer true t' ≡ version_step s v t → Found v
  found_right t' e = version-found (sym (ap (λ (a : Answer). a.ok) e))

-- ---- a record of the table

abbrev zeros : Version
zeros = record { live = 0; root = 0; bits = 0; length = 0 }

pub version-at : (s : Nodes) (vs : List Version) (i : ℕ) (t : List ℕ) (a : Answer) → a ≡ version_step s (record_of (get_or vs i zeros)) t → a ≡ version_step s (record_at (records_of vs) i) t
version-at s vs i t a e = e ∙ ap (λ (v : VersionRecord). version_step s v t) (sym (get_or-map record_of vs i zeros))

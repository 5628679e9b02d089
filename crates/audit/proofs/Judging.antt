-- What the passes give is what the model says, and so what the meaning says.
use mathlib.Core.Path.{◌≡◌, refl, sym, ap, ◌∙◌}
use mathlib.Core.Bool.{Bool, true, false, cond, ◌&&◌}
use mathlib.Core.List.{List}
use Prim.Native.Nat.{ℕ}
use native.Mathlib.Omega.{arith}
use lib.Dec.{eqb}
use lib.ListN.{get_or, length, length-map, replicate}
use Rattle.std.specs.Bool.{then_some}
use Rattle.std.specs.Option.{is_some, unwrap_or}
use Rattle.meaning.specs.Limits.{version_count, walk_count}
use Rattle.meaning.specs.Lent.{Nodes, walk_record, Lent, size, is_free, free_nodes}
use Rattle.meaning.specs.WellFormed.{SizesFit, WellFormed}
use Rattle.records.specs.declared.Version.{Version}
use Rattle.records.specs.Records.{record_of, records_of}
use Rattle.audit_model.specs.Made.{kinds_of, walk_version}
use Rattle.audit_model.specs.Descent.{answer}
use Rattle.audit_model.specs.Records.{all_to}
use Rattle.audit_model.specs.Tallies.{raise_to, roots_tally, nodes_tally}
use Rattle.audit_model.specs.Audit.{Blank, sizes_ok, record_at, records_ok, order_ok, tallies, node_ok, nodes_ok, rest_ok}
use Rattle.audit_model.proofs.Tests.{true≢false}
use Rattle.audit_model.proofs.Decides.{rest-sound, rest-complete}
use Rattle.audit_model.proofs.Sizes.{lengths, sizes-fit, fit-sizes, blank-zeros}
use Rattle.audit_tally.specs.Under.{Under}
use Rattle.audit.specs.Audited.{Judged, Cleared, Small}

-- ---- lengths

refused : (s : Lent) (w : Bool) (f : ℕ) → (WellFormed s → ⊥) → (w ≡ false) × (f ≡ 0) → Judged s w f
refused s w f ill j = record {
  ok = (λ h. true≢false (sym h ∙ j.0), λ W. absurd (ill W));
  free = j.1 ∙ ap (λ (b : Bool). cond b (free_nodes s.nodes) 0) (sym j.0);
}

compared : (s : Lent) (codes t : List ℕ) (r : Bool) → r ≡ all_to (size s) (node_ok s.nodes s.counts codes t) → nodes_ok s codes t ≡ r
unfolding nodes_ok
compared s codes t r e = sym e

module _ (s : Lent) (table : List Version) (n : ℕ) (o : Bool) (is : o ≡ lengths s) (lent : s.versions ≡ records_of table) (count : n ≡ length table) where
  tested : (o && eqb n version_count) ≡ sizes_ok s
  unfolding sizes_ok
  tested = rw (is, lent, length-map table record_of, count)

  pub tested-fit : (o && eqb n version_count) ≡ true → SizesFit s
  tested-fit e = sizes-fit s (sym tested ∙ e)

  pub unfit : (o && eqb n version_count) ≡ false → Judged s false 0
  unfit e = refused s false 0 (λ W. true≢false (sym (fit-sizes s W.sizes) ∙ sym tested ∙ e)) (refl, refl)

-- ---- after the sizes

-- what the answer tells
pub told : (w : Bool) (f : ℕ) → (is_some (then_some w f) ≡ w) × (unwrap_or (then_some w f) 0 ≡ cond w f 0)
told true f = (refl, refl)
told false f = (refl, refl)

pub blank-under : (n : ℕ) (z t : List ℕ) → Blank n z → t ≡ z → Under 0 t
unfolding Under
blank-under n z t b e i = rw e (omega (arith, b.zeros i))

pub ready-zeros : (s : Lent) (n : ℕ) → Small s n → Cleared s (replicate n 0) (replicate n 0)
ready-zeros s n r = record { sizes = r.sizes; codes = blank-zeros n (size s) r.room; tallies = refl }

free-same : (s : Nodes) → free_nodes (kinds_of s.kinds) ≡ free_nodes s
unfolding free_nodes is_free
free-same s = refl

module _ (s : Lent) (z y : List ℕ) (ready : Cleared s z y) where
  rest-fails : (w : Bool) (f : ℕ) → rest_ok s z ≡ false → (w ≡ false) × (f ≡ 0) → Judged s w f
  rest-fails w f e j = refused s w f (λ W. true≢false (sym (rest-complete s ready.sizes z ready.codes W) ∙ e)) j

  rest-is : (o : Bool) (t : List ℕ) → answer o t ≡ records_ok s z → rest_ok s z ≡ ((o && order_ok s) && nodes_ok s t (tallies s z))
  unfolding rest_ok
  rest-is o t e = rw (← e)

  order_is : (f : ℕ) (i : Bool) → f ≡ free_nodes (kinds_of s.nodes.kinds) → i ≡ all_to f (λ j. is_free (kinds_of s.nodes.kinds) (get_or s.order j 0)) → i ≡ order_ok s
  unfolding order_ok is_free free_nodes
  order_is f i p q = rw p at q

  pub by-records : (o : Bool) (t : List ℕ) (w : Bool) (f : ℕ) → answer o t ≡ records_ok s z → o ≡ false → (w ≡ false) × (f ≡ 0) → Judged s w f
  by-records o t w f e q j = rest-fails w f (rest-is o t e ∙ rw q) j

  pub by_order : (o : Bool) (t : List ℕ) (n : ℕ) (i w : Bool) (f : ℕ) → answer o t ≡ records_ok s z → o ≡ true → n ≡ free_nodes (kinds_of s.nodes.kinds)
      → i ≡ all_to n (λ j. is_free (kinds_of s.nodes.kinds) (get_or s.order j 0)) → i ≡ false → (w ≡ false) × (f ≡ 0) → Judged s w f
  by_order o t n i w f e q p r x j = rest-fails w f (rest-is o t e ∙ rw (q, ← (order_is n i p r), x)) j

  tallied : (n : ℕ) (t₁ t₂ : List ℕ) → n ≡ free_nodes (kinds_of s.nodes.kinds) → t₁ ≡ raise_to n (λ j. get_or s.order j 0) y
      → t₂ ≡ nodes_tally s.nodes (size s) (roots_tally walk_count (walk_version s.walks.numbers) (roots_tally version_count (record_at s.versions) t₁))
      → t₂ ≡ tallies s z
  unfolding tallies walk_record
  tallied n t₁ t₂ p q r =
      let m : n ≡ free_nodes s.nodes = p ∙ free-same s.nodes in
      let q' : t₁ ≡ raise_to (free_nodes s.nodes) (λ j. get_or s.order j 0) z = rw (m, ready.tallies) at q in
      rw q' at r

  pub by-nodes : (o : Bool) (t : List ℕ) (n : ℕ) (i : Bool) (t₁ t₂ : List ℕ) (r w : Bool) (f : ℕ) → answer o t ≡ records_ok s z → o ≡ true
      → n ≡ free_nodes (kinds_of s.nodes.kinds) → i ≡ all_to n (λ j. is_free (kinds_of s.nodes.kinds) (get_or s.order j 0)) → i ≡ true
      → t₁ ≡ raise_to n (λ j. get_or s.order j 0) y
      → t₂ ≡ nodes_tally s.nodes (size s) (roots_tally walk_count (walk_version s.walks.numbers) (roots_tally version_count (record_at s.versions) t₁))
      → r ≡ all_to (size s) (node_ok s.nodes s.counts t t₂) → (w ≡ r) × (f ≡ cond r n 0) → Judged s w f
  by-nodes o t n i t₁ t₂ r w f e q p a x b c d j =
      let T : t₂ ≡ tallies s z = tallied n t₁ t₂ p b c in
      let d' : r ≡ all_to (size s) (node_ok s.nodes s.counts t (tallies s z)) = rw T at d in
      let is : rest_ok s z ≡ r = rest-is o t e ∙ rw (q, ← (order_is n i p a), x) (compared s t (tallies s z) r d') in
      record {
        ok = (λ h. rest-sound s ready.sizes z ready.codes (is ∙ sym j.0 ∙ h), λ W. j.0 ∙ sym is ∙ rest-complete s ready.sizes z ready.codes W);
        free = j.1 ∙ ap (λ (k : ℕ). cond r k 0) (p ∙ free-same s.nodes) ∙ ap (λ (b : Bool). cond b (free_nodes s.nodes) 0) (sym j.0);
      }

-- After the descents the marked nodes are the reached ones.
use mathlib.Core.Path.{◌≡◌, refl, sym, ap, ◌∙◌}
use mathlib.Core.Logic.{◌≢◌, ◌⊎◌, inl, inr}
use mathlib.Core.Bool.{true}
use mathlib.Core.List.{List}
use Prim.Native.Nat.{ℕ, ◌+◌, ◌≤◌, ◌<◌}
use native.Mathlib.Decide.{dec_lt}
use native.Mathlib.Omega.{arith}
use lib.ListN.{get_or}
use Rattle.meaning.specs.Limits.{branch_kind, version_count, walk_count}
use Rattle.meaning.specs.Counting.{occurrences, rows, Each}
use Rattle.meaning.specs.Lent.{kind_of, used_of, cell_of, empty_record, walk_record, walk_records, Lent, size}
use Rattle.meaning.specs.Links.{live_roots, roots, Reached, by_root, by_cell}
use Rattle.meaning.specs.WellFormed.{LegalVersion, LegalWalk, SizesFit}
use Rattle.meaning.proofs.Lists.{occurs-append, each-getD, each_row, each_rows}
use Rattle.meaning.proofs.Nodes.{child-linked, links-cell}
use Rattle.audit_model.specs.Audit.{Blank, record_at, versions_ok, walks_ok, records_ok}
use Rattle.audit_model.proofs.Done.{Good, Done, done-then, done-through}
use Rattle.audit_model.proofs.Visits.{code-some}
use Rattle.audit_model.proofs.Slots.{Root, version-done, walk-done}
use Rattle.audit_model.proofs.Lists.{each-list, root-occurs, occurs-root}
use Rattle.audit_model.proofs.Counts.{roots-are}

module _ (s : Lent) (fit : SizesFit s) where
  abbrev P : ℕ → Type 0
  P = Reached s.nodes (roots s)

  by-cell : (n i : ℕ) → Reached s.nodes (roots s) n → kind_of s.nodes n ≡ branch_kind → i < used_of s.nodes n → Reached s.nodes (roots s) (cell_of s.nodes n i)
  by-cell n i p k l = by_cell p (child-linked s.nodes n i k l)

  split : (n : ℕ) → occurrences n (roots s)
      ≡ occurrences n (live_roots (rows version_count (record_at s.versions))) + occurrences n (live_roots (rows walk_count (λ i. (walk_record s.walks i).version)))
  split n = ap (occurrences n) (roots-are s fit) ∙ occurs-append n _ _

  version-root : (i : ℕ) → i < version_count → (record_at s.versions i).live ≡ 1 → Reached s.nodes (roots s) (record_at s.versions i).root
  version-root i l e = by_root {n = (record_at s.versions i).root} (omega (arith, split (record_at s.versions i).root, root-occurs version_count (record_at s.versions) i l e))

  walk-root : (i : ℕ) → i < walk_count → (walk_record s.walks i).version.live ≡ 1 → Reached s.nodes (roots s) (walk_record s.walks i).version.root
  walk-root i l e =
      by_root {n = (walk_record s.walks i).version.root} (omega (arith, split (walk_record s.walks i).version.root, root-occurs walk_count (λ i. (walk_record s.walks i).version) i l e))

  abbrev pub Legal : Type 0
  Legal = ((i : ℕ) → i < version_count → LegalVersion s.nodes (record_at s.versions i)) × ((i : ℕ) → i < walk_count → LegalWalk s.nodes (walk_record s.walks i))

  abbrev AnyRoot : ℕ → Type 0
  AnyRoot n =
      ((i : ℕ) × (i < version_count) × Root (record_at s.versions i) n) ⊎ ((i : ℕ) × (i < walk_count) × Root (walk_record s.walks i).version n)

  -- nothing is marked at the start
  blank-good : (z : List ℕ) → Blank (size s) z → Good s.nodes (Reached s.nodes (roots s)) z
  blank-good z b = record {
    room = b.room;
    right = λ bits h m n w q. absurd (code-some bits h m w.bits.least (sym q ∙ b.zeros n));
    closed = λ n i f. absurd (f (b.zeros n));
    only = λ n f. absurd (f (b.zeros n));
  }

  pub records-done : (z : List ℕ) → Blank (size s) z → Done s.nodes (Reached s.nodes (roots s)) Legal AnyRoot z (records_ok s z)
  unfolding records_ok versions_ok walks_ok
  records-done z b =
      done-then s.nodes (Reached s.nodes (roots s)) z _ _
      (done-through s.nodes (Reached s.nodes (roots s)) (λ i. LegalVersion s.nodes (record_at s.versions i)) (λ i. Root (record_at s.versions i)) version_count _ z (blank-good z b)
      (λ i u l g. version-done s.nodes (Reached s.nodes (roots s)) by-cell (record_at s.versions i) u (version-root i l) g))
      (λ u _ g _.
      done-through s.nodes (Reached s.nodes (roots s)) (λ i. LegalWalk s.nodes (walk_record s.walks i)) (λ i. Root (walk_record s.walks i).version) walk_count _ u g
      (λ i u' l g'. walk-done s.nodes (Reached s.nodes (roots s)) by-cell s.walks i u' (walk-root i l) g'))

  any-root : (n : ℕ) → 1 ≤ occurrences n (roots s) → AnyRoot n
  any-root n l = by (dec_lt 0 (occurrences n (live_roots (rows version_count (record_at s.versions)))))
    where
      by : Dec (0 < occurrences n (live_roots (rows version_count (record_at s.versions)))) → AnyRoot n
      by (yes q) = inl (occurs-root n version_count (record_at s.versions) q)
      by (no f) = inr (occurs-root n walk_count (λ i. (walk_record s.walks i).version) (omega (arith, split n)))

  pub reached-marked : (z : List ℕ) → Blank (size s) z → (records_ok s z).ok ≡ true → (n : ℕ) → Reached s.nodes (roots s) n → get_or (records_ok s z).codes n 0 ≢ 0
  reached-marked z b ok n (by_root l) = (records-done z b).here ok n (any-root n l)
  reached-marked z b ok n (by_cell {m = m} r l) =
      let c = links-cell s.nodes m n l in
      rw (← c.is) (((records-done z b).good ok).closed m c.place (reached-marked z b ok m r) c.branch c.below)

  -- each record is legal, as well-formedness says it
  pub legal-each : Legal → Each (LegalVersion s.nodes) s.versions × Each (LegalWalk s.nodes) (walk_records s)
  unfolding walk_records
  legal-each h =
      (each-list (LegalVersion s.nodes) empty_record s.versions (λ i l. h.0 i (omega (arith, fit.versions))), each_rows (LegalWalk s.nodes) walk_count (walk_record s.walks) h.1)

  pub each-legal : Each (LegalVersion s.nodes) s.versions → Each (LegalWalk s.nodes) (walk_records s) → Legal
  unfolding walk_records
  each-legal hv hw =
      (λ i l. each-getD (LegalVersion s.nodes) s.versions i empty_record hv (inl refl), each_row (LegalWalk s.nodes) walk_count (walk_record s.walks) hw)

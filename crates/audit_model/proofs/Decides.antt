-- The audit answers true exactly for a well-formed state.
use mathlib.Core.Path.{◌≡◌, refl, sym, ap, ◌∙◌}
use mathlib.Core.Logic.{◌≢◌, ◌↔◌}
use mathlib.Core.Bool.{Bool, true, false, cond, not, ◌&&◌}
use mathlib.Core.List.{List}
use Prim.Native.Nat.{ℕ, ◌≤◌, ◌<◌}
use native.Mathlib.Decide.{ℕ_discrete}
use native.Mathlib.Omega.{arith}
use lib.Dec.{eqb, ltb}
use lib.ListN.{length, get_or}
use borrow.Author.Tests.{eqb-true, eqb-false, ltb-true, eq-eqb, ne_eqb, not-true}
use Rattle.meaning.specs.Limits.{node_cells, free_kind}
use Rattle.meaning.specs.Counting.{sum_to, bit, occurrences, Each}
use Rattle.meaning.specs.Lent.{Nodes, kind_of, used_of, cell_of, Lent, size, count_of, is_free, free_nodes, free_order, walk_records}
use Rattle.meaning.specs.Links.{roots, cell_links, links, Reached, by_root, by_cell}
use Rattle.meaning.specs.WellFormed.{SizesFit, LegalVersion, LegalWalk, WellFormed}
use Rattle.meaning.proofs.Lists.{sum-none, many-some}
use Rattle.meaning.proofs.Reaching.{reached-used}
use Rattle.meaning.proofs.Booleans.{both_true}
use Rattle.meaning.proofs.Nodes.{free-bit, linking-used, used-bit, used-inside}
use Rattle.meaning.proofs.Sums.{many-one}
use Rattle.audit_model.specs.Descent.{Answer}
use Rattle.audit_model.specs.Audit.{Blank, records_ok, order_ok, tallies, spare_ok, node_ok, nodes_ok, rest_ok}
use Rattle.audit_model.proofs.Tests.{true≢false, true-both, all-at, at_all, from_at, at_from}
use Rattle.audit_model.proofs.Lists.{none_of, bit-some}
use Rattle.audit_model.proofs.Counts.{order-occurs, tallies-are}
use Rattle.audit_model.proofs.Marks.{records-done, reached-marked, legal-each, each-legal}

-- ---- one node

is_free_lem : (s : Nodes) (n : ℕ) → is_free s n ≡ true → (n < length s.kinds) × (kind_of s n ≡ free_kind)
unfolding is_free
is_free_lem s n e = let x = both_true (ltb n (length s.kinds)) (eqb (kind_of s n) free_kind) e in (ltb-true _ _ x.0, eqb-true _ _ x.1)

no-links : (s : Lent) (n : ℕ) → occurrences n (roots s) ≡ 0 → sum_to (size s) (λ m. cell_links s.nodes m n) ≡ 0 → links s n ≡ 0
unfolding links
no-links s n p q = omega arith

-- what the comparison says of a node
record Compared (s : Lent) (codes t : List ℕ) (n : ℕ) : Type 0 where
  free : kind_of s.nodes n ≡ free_kind → (get_or t n 0 ≡ 1) × (used_of s.nodes n ≡ 0) × (count_of s n ≡ 0)
  reached : kind_of s.nodes n ≢ free_kind → (get_or codes n 0 ≢ 0) × (get_or t n 0 ≡ count_of s n)
  spare : kind_of s.nodes n ≢ free_kind → (i : ℕ) → used_of s.nodes n ≤ i → i < node_cells → cell_of s.nodes n i ≡ 0

node-compared : (s : Lent) (codes t : List ℕ) (n : ℕ) → node_ok s.nodes s.counts codes t n ≡ true → Compared s codes t n
unfolding node_ok spare_ok
node-compared s codes t n e = by (eqb (kind_of s.nodes n) free_kind) refl e
  where
    free : Bool
    free = (eqb (get_or t n 0) 1 && eqb (used_of s.nodes n) 0) && eqb (count_of s n) 0

    other : Bool
    other = (not (eqb (get_or codes n 0) 0) && eqb (get_or t n 0) (count_of s n)) && spare_ok (used_of s.nodes n) (cell_of s.nodes n)

    by : (o : Bool) → eqb (kind_of s.nodes n) free_kind ≡ o → cond o free other ≡ true → Compared s codes t n
    by true k q =
        let is : kind_of s.nodes n ≡ free_kind = eqb-true _ _ k in
        let x = both_true (eqb (get_or t n 0) 1 && eqb (used_of s.nodes n) 0) (eqb (count_of s n) 0) q in
        let y = both_true (eqb (get_or t n 0) 1) (eqb (used_of s.nodes n) 0) x.0 in
        record {
          free = λ _. (eqb-true _ _ y.0, eqb-true _ _ y.1, eqb-true _ _ x.1);
          reached = λ f. absurd (f is);
          spare = λ f. absurd (f is);
        }
    by false k q =
        let isn't : kind_of s.nodes n ≢ free_kind = eqb-false _ _ k in
        let x = both_true (not (eqb (get_or codes n 0) 0) && eqb (get_or t n 0) (count_of s n)) (spare_ok (used_of s.nodes n) (cell_of s.nodes n)) q in
        let y = both_true (not (eqb (get_or codes n 0) 0)) (eqb (get_or t n 0) (count_of s n)) x.0 in
        record {
          free = λ e. absurd (isn't e);
          reached = λ _. (eqb-false _ _ (not-true _ y.0), eqb-true _ _ y.1);
          spare = λ _ i l u. eqb-true _ _ (from_at (used_of s.nodes n) node_cells (λ i. eqb (cell_of s.nodes n i) 0) x.1 i l u);
        }

compared-node : (s : Lent) (codes t : List ℕ) (n : ℕ) → Compared s codes t n → node_ok s.nodes s.counts codes t n ≡ true
unfolding node_ok spare_ok
compared-node s codes t n c = by (eqb (kind_of s.nodes n) free_kind) refl
  where
    by : (o : Bool) → eqb (kind_of s.nodes n) free_kind ≡ o
        → cond o ((eqb (get_or t n 0) 1 && eqb (used_of s.nodes n) 0) && eqb (count_of s n) 0)
        ((not (eqb (get_or codes n 0) 0) && eqb (get_or t n 0) (count_of s n)) && spare_ok (used_of s.nodes n) (cell_of s.nodes n)) ≡ true
    by true k =
        let x = c.free (eqb-true _ _ k) in
        true-both _ _ (true-both _ _ (eq-eqb _ _ x.0) (eq-eqb _ _ x.1)) (eq-eqb _ _ x.2)
    by false k =
        let x = c.reached (eqb-false _ _ k) in
        true-both _ _ (true-both _ _ (ap not (ne_eqb _ _ x.0)) (eq-eqb _ _ x.1))
        (at_from (used_of s.nodes n) node_cells (λ i. eqb (cell_of s.nodes n i) 0) (λ i l u. eq-eqb _ _ (c.spare (eqb-false _ _ k) i l u)))

-- ---- after the sizes

module _ (s : Lent) (fit : SizesFit s) (z : List ℕ) (blank : Blank (size s) z) where
  -- who stands in the free order
  ordered : (n : ℕ) → 1 ≤ occurrences n (free_order s) → (j : ℕ) × (j < free_nodes s.nodes) × (get_or s.order j 0 ≡ n)
  ordered n l =
      let r = many-some (free_nodes s.nodes) (λ j. eqb (get_or s.order j 0) n) (omega (arith, order-occurs s fit n)) in
      (r.0, r.1, eqb-true _ _ r.2)

  in_order : (j : ℕ) → j < free_nodes s.nodes → 1 ≤ occurrences (get_or s.order j 0) (free_order s)
  in_order j l =
      let n : ℕ = get_or s.order j 0 in
      omega (arith, order-occurs s fit n, many-one (free_nodes s.nodes) (λ j. eqb (get_or s.order j 0) n) j l (eq-eqb n n refl))

  pub rest-sound : rest_ok s z ≡ true → WellFormed s
  unfolding rest_ok order_ok nodes_ok
  rest-sound e = record {
    sizes = fit;
    versions = versions;
    walks = walks;
    counted = λ n l. counted n l (ℕ_discrete (kind_of s.nodes n) free_kind);
    reached = λ n. (reached n, used n);
    once = λ n. once n (is_free s.nodes n) refl;
    spare = λ n i f. (compared n (used-inside s.nodes n f)).spare f i;
    free_used = λ n l k. ((compared n l).free k).1;
    free_count = λ n l k. ((compared n l).free k).2;
  }
    where
      a : Answer
      a = records_ok s z

      x : ((a.ok && order_ok s) ≡ true) × (nodes_ok s a.codes (tallies s z) ≡ true)
      x = both_true (a.ok && order_ok s) (nodes_ok s a.codes (tallies s z)) e

      ok : (a.ok ≡ true) × (order_ok s ≡ true)
      ok = both_true a.ok (order_ok s) x.0

      versions : Each (LegalVersion s.nodes) s.versions
      versions = (legal-each s fit ((records-done s fit z blank).shows ok.0)).0

      walks : Each (LegalWalk s.nodes) (walk_records s)
      walks = (legal-each s fit ((records-done s fit z blank).shows ok.0)).1

      compared : (n : ℕ) → n < size s → Compared s a.codes (tallies s z) n
      compared n l = node-compared s a.codes (tallies s z) n (all-at (size s) (node_ok s.nodes s.counts a.codes (tallies s z)) x.1 n l)

      reached : (n : ℕ) → kind_of s.nodes n ≢ free_kind → Reached s.nodes (roots s) n
      reached n f = ((records-done s fit z blank).good ok.0).only n ((compared n (used-inside s.nodes n f)).reached f).0

      used : (n : ℕ) → Reached s.nodes (roots s) n → kind_of s.nodes n ≢ free_kind
      used n r = reached-used s versions walks r

      -- nothing links a free node
      unlinked : (n : ℕ) → kind_of s.nodes n ≡ free_kind → links s n ≡ 0
      unlinked n k = no-links s n (none_of (occurrences n (roots s)) (λ l. used n (by_root l) k)) (sum-none (size s) (λ m. cell_links s.nodes m n) (λ m _. none_of _ (λ l. linked m l)))
        where
          linked : (m : ℕ) → 1 ≤ cell_links s.nodes m n → ⊥
          linked m l = used n (by_cell (reached m (linking-used s.nodes m n l)) l) k

      -- and no other stands in the free order
      free-ordered : (n : ℕ) → 1 ≤ occurrences n (free_order s) → is_free s.nodes n ≡ true
      free-ordered n l =
          let r = ordered n l in
          rw r.2 at (all-at (free_nodes s.nodes) (λ j. is_free s.nodes (get_or s.order j 0)) ok.1 r.0 r.1)

      counted : (n : ℕ) → n < size s → Dec (kind_of s.nodes n ≡ free_kind) → count_of s n ≡ links s n
      counted n l (yes k) = omega (arith, ((compared n l).free k).2, unlinked n k)
      counted n l (no f) =
          let none = none_of (occurrences n (free_order s)) (λ q. f (is_free_lem s.nodes n (free-ordered n q)).1) in
          omega (arith, ((compared n l).reached f).1, tallies-are s fit z blank n l)

      once : (n : ℕ) (o : Bool) → is_free s.nodes n ≡ o → occurrences n (free_order s) ≡ bit o
      once n true q =
          let y = is_free_lem s.nodes n q in
          omega (arith, ((compared n y.0).free y.1).0, tallies-are s fit z blank n y.0, unlinked n y.1)
      once n false q = none_of (occurrences n (free_order s)) (λ l. true≢false (sym (free-ordered n l) ∙ q))

  pub rest-complete : WellFormed s → rest_ok s z ≡ true
  unfolding rest_ok order_ok nodes_ok
  rest-complete W = true-both _ _ (true-both _ _ ok (at_all (free_nodes s.nodes) _ free-placed)) (at_all (size s) _ (λ n l. compared-node s a.codes (tallies s z) n (compared n l)))
    where
      a : Answer
      a = records_ok s z

      ok : a.ok ≡ true
      ok = (records-done s fit z blank).sure (each-legal s fit W.versions W.walks)

      free-placed : (j : ℕ) → j < free_nodes s.nodes → is_free s.nodes (get_or s.order j 0) ≡ true
      free-placed j l = bit-some _ (omega (arith, in_order j l, W.once (get_or s.order j 0)))

      compared : (n : ℕ) → n < size s → Compared s a.codes (tallies s z) n
      compared n l = record {
        free = λ k. (free k, W.free_used n l k, W.free_count n l k);
        reached = λ f. (reached-marked s fit z blank ok n ((W.reached n).0 f), other f);
        spare = λ f i. W.spare n i f;
      }
        where
          free : kind_of s.nodes n ≡ free_kind → get_or (tallies s z) n 0 ≡ 1
          free k = omega (arith, free-bit s.nodes n l k, tallies-are s fit z blank n l, W.once n, W.counted n l, W.free_count n l k)

          other : kind_of s.nodes n ≢ free_kind → get_or (tallies s z) n 0 ≡ count_of s n
          other f = omega (arith, used-bit s.nodes n f, tallies-are s fit z blank n l, W.once n, W.counted n l)

  pub rest-decides : (rest_ok s z ≡ true) ↔ WellFormed s
  rest-decides = (rest-sound, rest-complete)

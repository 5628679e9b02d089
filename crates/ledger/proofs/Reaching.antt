-- A node is in use exactly if it is reached; the number of free nodes.
use mathlib.Core.Path.{◌≡◌, refl, sym, ◌∙◌}
use mathlib.Core.Logic.{◌≢◌, ◌⊎◌, inl, inr, ◌↔◌}
use mathlib.Core.Bool.{Bool, true, false, false≢true}
use mathlib.Core.List.{List}
use Prim.Native.Nat.{ℕ, zero, suc, ◌+◌, ◌≤◌, ◌<◌}
use native.Mathlib.Nat.{lt_irrefl, eq-zero-or-pos}
use native.Mathlib.Decide.{ℕ_discrete}
use native.Mathlib.Omega.{arith}
use Rattle.meaning.specs.Limits.{free_kind}
use Rattle.meaning.specs.Counting.{sum_to, bit, how_many, occurrences}
use Rattle.meaning.specs.Lent.{kind_of, is_free, free_nodes}
use Rattle.meaning.specs.Links.{cell_links, Reached, by_root, by_cell}
use Rattle.meaning.proofs.Lists.{sum_same, many-all}
use Rattle.store.specs.Store.{Store, node_count}
use Rattle.ledger.specs.Kept.{Kept, links_in}
use Rattle.meaning.proofs.Sums.{sum-some, sum-add, term-le, occurs-none}
use Rattle.meaning.proofs.Nodes.{free-bit, linking-used, used-bit, used-inside}
use Rattle.ledger.proofs.Facts.{order-sum}

module _ {s : Store} {roots : List ℕ} (k : Kept s roots) where
  -- ---- reached

  -- a root or a cell links n, and a node that links it stands higher
  up : (fuel n : ℕ) → kind_of s.nodes n ≢ free_kind → sum_to (node_count s) k.rank < fuel + k.rank n → Reached s.nodes roots n
  up zero n f b = absurd (lt_irrefl zero (omega (arith, term-le (node_count s) k.rank n (used-inside s.nodes n f))))
  up (suc fuel) n f b = pick (eq-zero-or-pos (occurrences n roots)) (λ m. up fuel m)
    where
      pick : (occurrences n roots ≡ 0) ⊎ (0 < occurrences n roots)
          → ((m : ℕ) → kind_of s.nodes m ≢ free_kind → sum_to (node_count s) k.rank < fuel + k.rank m → Reached s.nodes roots m) → Reached s.nodes roots n
      pick (inr q) rest = by_root q
      pick (inl e) rest =
          let some : 1 ≤ links_in s n = omega (arith, k.linked n f, k.counted n (used-inside s.nodes n f), occurs-none n) in
          let t = sum-some (node_count s) (λ m. cell_links s.nodes m n) some in
          by_cell (rest t.0 (linking-used s.nodes t.0 n t.2) (omega (arith, k.falls t.0 n t.2))) t.2

  pub used-reached : (n : ℕ) → kind_of s.nodes n ≢ free_kind → Reached s.nodes roots n
  used-reached n f = up (suc (sum_to (node_count s) k.rank)) n f (omega arith)

  pub reached-used : {n : ℕ} → Reached s.nodes roots n → kind_of s.nodes n ≢ free_kind
  reached-used {n} (by_root l) = k.rooted n l
  reached-used {n} (by_cell {m = m} r l) = k.celled m n l

  pub used-iff-reached : (n : ℕ) → (kind_of s.nodes n ≢ free_kind) ↔ Reached s.nodes roots n
  used-iff-reached n = (used-reached n, reached-used)

  -- ---- how many

  pub free-nodes : free_nodes s.nodes ≡ s.free
  unfolding free_nodes how_many
  free-nodes = sym (sum_same (node_count s) _ _ (λ n _. omega (arith, k.ordered n, occurs-none n))) ∙ order-sum k

  -- N less the nodes reached
  pub free-rest : (mark : ℕ → Bool) → ((n : ℕ) → (mark n ≡ true) ↔ Reached s.nodes roots n) → s.free + how_many (node_count s) mark ≡ node_count s
  unfolding free_nodes how_many
  free-rest mark marks =
      let both = sum-add (node_count s) (λ n. bit (is_free s.nodes n)) (λ n. bit (mark n)) in
      let ones = sum_same (node_count s) _ (λ n. 1) (λ n l. one n l (mark n) refl) in
      omega (arith, both, ones, many-all (node_count s) (λ _. true) (λ _ _. refl), free-nodes)
    where
      one : (n : ℕ) → n < node_count s → (b : Bool) → mark n ≡ b → bit (is_free s.nodes n) + bit b ≡ 1
      one n l true e = omega (arith, used-bit s.nodes n (reached-used ((marks n).0 e)))
      one n l false e = omega (arith, free-bit s.nodes n l (free (ℕ_discrete (kind_of s.nodes n) free_kind)))
        where
          free : Dec (kind_of s.nodes n ≡ free_kind) → kind_of s.nodes n ≡ free_kind
          free (yes d) = d
          free (no f) = absurd (false≢true (sym e ∙ (marks n).1 (used-reached n f)))

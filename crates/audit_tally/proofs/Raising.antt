-- A turn of each tally, its end, and the room that it leaves.
use mathlib.Core.Path.{◌≡◌, refl, sym, ap, ◌∙◌}
use mathlib.Core.Bool.{Bool, true, false, cond, ◌&&◌}
use mathlib.Core.List.{List}
use Prim.Native.Nat.{ℕ, zero, suc, ◌+◌, ◌≤◌, ◌<◌}
use native.Mathlib.Nat.{le_antisymm}
use native.Mathlib.Numerals.{add-one}
use native.Mathlib.Decide.{ℕ_discrete, dec_lt}
use native.Mathlib.Omega.{arith}
use lib.Dec.{eqb}
use lib.ListN.{length, get_or, set, take}
use lib.Seq.{get_or-set_same, get_or-set_other, set_out, take_all}
use Rattle.std.specs.List.{count_by}
use Rattle.std.proofs.lemmas.List.Sums.{sum_by_more}
use borrow.Author.Tests.{lt-ltb}
use Rattle.meaning.specs.Limits.{free_kind}
use Rattle.meaning.specs.Counting.{bit, how_many, sum_to}
use Rattle.meaning.specs.Lent.{Nodes, cell_of, child_count, is_free, free_nodes, VersionRecord}
use Rattle.audit_model.specs.Made.{kinds_of}
use Rattle.audit_model.specs.Tallies.{raise, raise_to, raise_root, roots_tally, node_tally, nodes_tally}
use Rattle.audit_model.specs.Records.{all_to}
use Rattle.audit_tally.specs.Under.{Under}

-- ---- room

pub under_at : (k : ℕ) (t : List ℕ) (i : ℕ) → Under k t → get_or t i 0 ≤ k
unfolding Under
under_at k t i u = u i

pub under_more : (j k : ℕ) (t : List ℕ) → Under j t → j ≤ k → Under k t
unfolding Under
under_more j k t u l i = omega (arith, u i)

under-raise : (j : ℕ) (t : List ℕ) (x : ℕ) → Under j t → Under (j + 1) (raise t x)
unfolding Under raise
under-raise j t x u i = by (ℕ_discrete i x) (dec_lt x (length t))
  where
    by : Dec (i ≡ x) → Dec (x < length t) → get_or (set t x (get_or t x 0 + 1)) i 0 ≤ j + 1
    by (yes e) (yes l) = rw (e, get_or-set_same t x (get_or t x 0 + 1) 0 l) (omega (arith, u x))
    by (yes e) (no l) = rw (set_out t x (get_or t x 0 + 1) (omega arith)) (omega (arith, u i))
    by (no d) l = rw (get_or-set_other t x i (get_or t x 0 + 1) 0 d) (omega (arith, u i))

under_to : (k : ℕ) (f : ℕ → ℕ) (t : List ℕ) (j : ℕ) → Under j t → Under (j + k) (raise_to k f t)
unfolding raise_to
under_to zero f t j u = under_more j (j + 0) t u (omega arith)
under_to (suc k) f t j u = under_more (j + k + 1) (j + suc k) _ (under-raise (j + k) (raise_to k f t) (f k) (under_to k f t j u)) (omega arith)

-- ---- one more
pub raise_to_more : (k : ℕ) (f : ℕ → ℕ) (t : List ℕ) → raise_to (k + 1) f t ≡ raise (raise_to k f t) (f k)
unfolding raise_to
raise_to_more k f t = rw add-one

pub nodes_tally_more : (s : Nodes) (m : ℕ) (t : List ℕ) → nodes_tally s (m + 1) t ≡ node_tally s m (nodes_tally s m t)
unfolding nodes_tally
nodes_tally_more s m t = rw add-one

pub roots_tally_more : (k : ℕ) (f : ℕ → VersionRecord) (t : List ℕ) → roots_tally (k + 1) f t ≡ raise_root (f k) (roots_tally k f t)
unfolding roots_tally
roots_tally_more k f t = rw add-one

pub all_to_more : (k : ℕ) (test : ℕ → Bool) → all_to (k + 1) test ≡ (all_to k test && test k)
unfolding all_to
all_to_more k test = rw add-one

-- ---- many raises

module _ (f : ℕ → ℕ) (t₀ : List ℕ) where
  pub to-ends : (k u : ℕ) (t : List ℕ) → t ≡ raise_to k f t₀ → k ≤ u → u ≤ k → t ≡ raise_to u f t₀
  to-ends k u t p l g = let e : k ≡ u = le_antisymm l g in rw e at p

  pub to-under : (k : ℕ) (t : List ℕ) (j b : ℕ) → t ≡ raise_to k f t₀ → Under j t₀ → j + k ≤ b → Under b t
  to-under k t j b p u l = rw p (under_more (j + k) b _ (under_to k f t₀ j u) l)

-- ---- nodes

pub node-room : (s : Nodes) (m : ℕ) (t t' : List ℕ) (j b : ℕ) → t' ≡ node_tally s m t → child_count s m ≤ 255 → Under j t → j + 255 ≤ b → Under b t'
unfolding node_tally
node-room s m t t' j b p l u g = rw p (under_more (j + child_count s m) b _ (under_to (child_count s m) (cell_of s m) t j u) (omega arith))

-- ---- roots

module _ (f : ℕ → VersionRecord) (t₀ : List ℕ) where
  under-roots : (k j : ℕ) → Under j t₀ → Under (j + k) (roots_tally k f t₀)
  unfolding roots_tally raise_root
  under-roots zero j u = under_more j (j + 0) t₀ u (omega arith)
  under-roots (suc k) j u = by (eqb (f k).live 1) (under-roots k j u)
    where
      by : (o : Bool) → Under (j + k) (roots_tally k f t₀) → Under (j + suc k) (cond o (raise (roots_tally k f t₀) (f k).root) (roots_tally k f t₀))
      by true w = under_more (j + k + 1) (j + suc k) _ (under-raise (j + k) (roots_tally k f t₀) (f k).root w) (omega arith)
      by false w = under_more (j + k) (j + suc k) _ w (omega arith)

  pub roots-under : (k : ℕ) (t : List ℕ) (j b : ℕ) → t ≡ roots_tally k f t₀ → Under j t₀ → j + k ≤ b → Under b t
  roots-under k t j b p u l = rw p (under_more (j + k) b _ (under-roots k j u) l)

  pub roots-whole : (k n : ℕ) (t : List ℕ) (j : ℕ) → t ≡ roots_tally k f t₀ → k ≡ n → Under j t₀ → (t ≡ roots_tally n f t₀) × Under (j + n) t
  roots-whole k n t j p e u = (p ∙ ap (λ (m : ℕ). roots_tally m f t₀) e, roots-under k t j (j + n) p u (omega arith))

-- ---- free nodes
module _ (kinds : List ℕ) where
  counted : (k : ℕ) → k ≤ length kinds → how_many k (is_free (kinds_of kinds)) ≡ count_by (λ kind. eqb kind free_kind) (take k kinds)
  unfolding how_many sum_to is_free
  counted zero l = refl
  counted (suc k) l =
      rw (lt-ltb k (length kinds) (omega arith), counted k (omega arith), ← (add-one k))
      (sym (sum_by_more (λ kind. bit (eqb kind free_kind)) kinds k 0 (omega arith)))

  pub free_nodes_counted : free_nodes (kinds_of kinds) ≡ count_by (λ kind. eqb kind free_kind) kinds
  unfolding free_nodes
  free_nodes_counted = counted (length kinds) (omega arith) ∙ ap (λ (xs : List ℕ). count_by (λ kind. eqb kind free_kind) xs) (take_all (length kinds) kinds (omega arith))

-- ---- all links

pub links-tallied : (s : Nodes) (n k w : ℕ) (f g : ℕ → VersionRecord) (t₀ t₁ t₂ t₃ : List ℕ) → t₁ ≡ roots_tally k f t₀ → t₂ ≡ roots_tally w g t₁ → t₃ ≡ nodes_tally s n t₂
    → t₃ ≡ nodes_tally s n (roots_tally w g (roots_tally k f t₀))
links-tallied s n k w f g t₀ t₁ t₂ t₃ p q r = cc

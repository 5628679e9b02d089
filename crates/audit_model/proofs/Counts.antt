-- The tallies are the places in the free order and the links.
use mathlib.Core.Path.{◌≡◌, refl, sym, ap, ap₂, ◌∙◌}
use mathlib.Core.Bool.{Bool, true, false, cond}
use mathlib.Core.List.{List, ◌++◌, map}
use Prim.Native.Nat.{ℕ, zero, suc, ◌+◌, ◌≤◌, ◌<◌}
use native.Mathlib.Decide.{ℕ_discrete}
use native.Mathlib.Omega.{arith}
use lib.Dec.{eqb}
use lib.ListN.{length, get_or, set, length-set}
use lib.Seq.{get_or-set_same, get_or-set_other}
use borrow.Author.Tests.{eq-eqb, ne_eqb}
use Rattle.meaning.specs.Limits.{version_count, walk_count}
use Rattle.meaning.specs.Counting.{sum_to, bit, how_many, occurrences, rows}
use Rattle.meaning.specs.Lent.{Nodes, cell_of, child_count, VersionRecord, empty_record, WalkRecord, walk_record, walk_records, Lent, size, is_free, free_nodes, free_order}
use Rattle.meaning.specs.Links.{live_roots, roots, cell_links, links}
use Rattle.meaning.specs.WellFormed.{SizesFit}
use Rattle.meaning.proofs.Lists.{many-le, occurs-append}
use Rattle.meaning.proofs.Sums.{occurs-take}
use Rattle.meaning.proofs.Rows.{rows-map}
use Rattle.audit_model.specs.Tallies.{raise, raise_to, raise_root, roots_tally, node_tally, nodes_tally}
use Rattle.audit_model.specs.Audit.{Blank, record_at, tallies}
use Rattle.audit_model.proofs.Lists.{many-next, rows_all, root_link, roots-next}

-- t' is t with g n more at each n
pub record Raised (g : ℕ → ℕ) (t t' : List ℕ) : Type 0 where
  pub same : length t' ≡ length t
  pub more : (n : ℕ) → n < length t → get_or t' n 0 ≡ get_or t n 0 + g n

pub raise-raised : (t : List ℕ) (x : ℕ) → Raised (λ n. bit (eqb x n)) t (raise t x)
unfolding raise
raise-raised t x = record { same = simp length-set; more = λ n l. by n l (ℕ_discrete n x) }
  where
    by : (n : ℕ) → n < length t → Dec (n ≡ x) → get_or (set t x (get_or t x 0 + 1)) n 0 ≡ get_or t n 0 + bit (eqb x n)
    by n l (yes e) = rw (← e, get_or-set_same t n (get_or t n 0 + 1) 0 l, eq-eqb n n refl)
    by n l (no d) = rw (get_or-set_other t x n (get_or t x 0 + 1) 0 d, ne_eqb x n (λ e. d (sym e))) (omega arith)

none-raised : (t : List ℕ) → Raised (λ _. 0) t t
none-raised t = record { same = refl; more = λ n l. omega arith }

then-raised : {f g h : ℕ → ℕ} {t t' t'' : List ℕ} → ((n : ℕ) → h n ≡ f n + g n) → Raised f t t' → Raised g t' t'' → Raised h t t''
then-raised e p q = record {
  same = q.same ∙ p.same;
  more = λ n l. omega (arith, e n, p.more n l, q.more n (omega (arith, p.same)));
}

pub to-raised : (k : ℕ) (f : ℕ → ℕ) (t : List ℕ) → Raised (λ n. how_many k (λ i. eqb (f i) n)) t (raise_to k f t)
unfolding raise_to how_many sum_to
to-raised zero f t = none-raised t
to-raised (suc k) f t = then-raised (λ n. many-next k (λ i. eqb (f i) n)) (to-raised k f t) (raise-raised (raise_to k f t) (f k))

root-raised : (v : VersionRecord) (t : List ℕ) → Raised (root_link v) t (raise_root v t)
unfolding raise_root root_link
root-raised v t = by (eqb v.live 1)
  where
    by : (o : Bool) → Raised (λ n. cond o (bit (eqb v.root n)) 0) t (cond o (raise t v.root) t)
    by true = raise-raised t v.root
    by false = none-raised t

no-roots : (f : ℕ → VersionRecord) (t : List ℕ) → Raised (λ n. occurrences n (live_roots (rows 0 f))) t t
unfolding occurrences live_roots rows
no-roots f t = none-raised t

pub roots-raised : (k : ℕ) (f : ℕ → VersionRecord) (t : List ℕ) → Raised (λ n. occurrences n (live_roots (rows k f))) t (roots_tally k f t)
unfolding roots_tally
roots-raised zero f t = no-roots f t
roots-raised (suc k) f t = then-raised (λ n. roots-next n k f) (roots-raised k f t) (root-raised (f k) (roots_tally k f t))

pub nodes-raised : (s : Nodes) (k : ℕ) (t : List ℕ) → Raised (λ n. sum_to k (λ m. cell_links s m n)) t (nodes_tally s k t)
unfolding nodes_tally node_tally cell_links sum_to
nodes-raised s zero t = none-raised t
nodes-raised s (suc k) t = then-raised (λ n. refl) (nodes-raised s k t) (to-raised (child_count s k) (cell_of s k) (nodes_tally s k t))

-- ---- all of it

-- what slots and walks link, by their numbers
pub roots-are : (s : Lent) → SizesFit s → roots s ≡ live_roots (rows version_count (record_at s.versions)) ++ live_roots (rows walk_count (λ i. (walk_record s.walks i).version))
unfolding roots walk_records
roots-are s f =
    let v : rows version_count (record_at s.versions) ≡ s.versions = ap (λ (k : ℕ). rows k (record_at s.versions)) (sym f.versions) ∙ rows_all empty_record s.versions in
    let w : map (λ (r : WalkRecord). r.version) (rows walk_count (walk_record s.walks)) ≡ rows walk_count (λ i. (walk_record s.walks i).version) =
    rows-map (λ (r : WalkRecord). r.version) walk_count (walk_record s.walks) in
    ap₂ (λ (a b : List VersionRecord). live_roots a ++ live_roots b) (sym v) w

pub free-within : (s : Nodes) → free_nodes s ≤ length s.kinds
unfolding free_nodes
free-within s = many-le (length s.kinds) (is_free s)

pub order-occurs : (s : Lent) → SizesFit s → (n : ℕ) → occurrences n (free_order s) ≡ how_many (free_nodes s.nodes) (λ j. eqb (get_or s.order j 0) n)
unfolding free_order
order-occurs s f n = occurs-take n (free_nodes s.nodes) s.order (omega (arith, free-within s.nodes, f.order))

pub tallies-are : (s : Lent) → SizesFit s → (z : List ℕ) → Blank (size s) z → (n : ℕ) → n < size s → get_or (tallies s z) n 0 ≡ occurrences n (free_order s) + links s n
unfolding tallies links
tallies-are s f z b n l =
    let t₁ : List ℕ = raise_to (free_nodes s.nodes) (λ j. get_or s.order j 0) z in
    let t₂ : List ℕ = roots_tally version_count (record_at s.versions) t₁ in
    let t₃ : List ℕ = roots_tally walk_count (λ i. (walk_record s.walks i).version) t₂ in
    let p₁ = to-raised (free_nodes s.nodes) (λ j. get_or s.order j 0) z in
    let p₂ = roots-raised version_count (record_at s.versions) t₁ in
    let p₃ = roots-raised walk_count (λ i. (walk_record s.walks i).version) t₂ in
    let p₄ = nodes-raised s.nodes (size s) t₃ in
    let l₁ : n < length z = omega (arith, b.room) in
    let l₂ : n < length t₁ = omega (arith, p₁.same) in
    let l₃ : n < length t₂ = omega (arith, p₂.same) in
    let l₄ : n < length t₃ = omega (arith, p₃.same) in
    let r : occurrences n (roots s) ≡ occurrences n (live_roots (rows version_count (record_at s.versions))) + occurrences n (live_roots (rows walk_count (λ i. (walk_record s.walks i).version))) =
    ap (occurrences n) (roots-are s f) ∙ occurs-append n _ _ in
    omega (arith, b.zeros n, order-occurs s f n, r, p₁.more n l₁, p₂.more n l₂, p₃.more n l₃, p₄.more n l₄)

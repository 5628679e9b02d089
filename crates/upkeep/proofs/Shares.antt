-- Set, push and drop link, beside fresh nodes, only what their source reached.
use mathlib.Core.Path.{◌≡◌, refl}
use mathlib.Core.Logic.{◌≢◌, ◌⊎◌, inl, inr}
use mathlib.Core.Bool.{Bool, true, false, cond, false≢true}
use mathlib.Core.List.{List, [], ◌∷◌}
use Prim.Native.Nat.{ℕ, zero, suc, ◌+◌, ◌-◌, ◌^◌, ◌≤◌, ◌<◌, max}
use native.Mathlib.Nat.{lt_irrefl, mod_self}
use native.Mathlib.Decide.{ℕ_discrete}
use native.Mathlib.Omega.{arith}
use lib.Dec.{ltb, eqb}
use lib.ListN.{get_or, set, replicate}
use lib.Seq.{slice}
use borrow.Author.Tests.{ltb-true, ne_eqb}
use Rattle.meaning.specs.Limits.{node_cells, free_kind}
use Rattle.meaning.specs.Counting.{bit, occurrences, divides}
use Rattle.meaning.specs.Lent.{kind_of, cell_of}
use Rattle.meaning.specs.Shape.{degree, bucket}
use Rattle.meaning.specs.Trees.{Shaped}
use Rattle.meaning.specs.Links.{cell_links}
use Rattle.meaning.specs.WellFormed.{LegalBits}
use Rattle.meaning.proofs.Nodes.{child-linked, free-linkless}
use Rattle.meaning.proofs.Sums.{each-occurs}
use Rattle.store.specs.Store.{Store, raises}
use Rattle.store.specs.Answers.{others}
use Rattle.ledger.specs.Kept.{Kept}
use Rattle.paths.specs.Paths.{Made, Source, source, leaf_with, branch_with, assoc, grow, leaf_cut, branch_cut, drop_last}
use Rattle.trees.specs.Sources.{Found, BranchSource}
use Rattle.trees.specs.Climbs.{Step, Linked, Climb}
use Rattle.trees.specs.Copied.{Copied}
use Rattle.trees.specs.Elements.{inside, undivided}
use Rattle.trees.proofs.Digits.{inside-splits, inside-leaf, inside-below}
use Rattle.trees.proofs.Numbers.{put-bucket}
use Rattle.trees.proofs.Sources.{leaf-source, branch-source, child-found, last-used, last-child}
use Rattle.trees.proofs.Sharing.{put-occurs, cut-occurs, each-slice, each-other, others-used, slice-used}
use Rattle.trees.proofs.Climbs.{climb-copies}
use Rattle.trees.proofs.Climbing.{leaf-step, branch-step, branch-linked, assoc-climbs, root-spare, drop-climbs}
use Rattle.trees.proofs.Undivided.{divides-false, undivided-step, undivided-leaf}
use Rattle.trees.proofs.Framing.{use-stays}
use Rattle.upkeep.proofs.Climbs.{kept-stocks, put-filled, cut-filled, climb-keeps}
use Rattle.upkeep.proofs.Within.{Within, leaf-within, branch-within}

-- P: a set of nodes that is closed under the links of s
module _ (P : ℕ → Type 0) (s : Store) (closed : (x m : ℕ) → P x → 1 ≤ cell_links s.nodes x m → P m) (rs : List ℕ) (k : Kept s rs) where
  -- before anything is made, no fresh node links anything
  pub at_first : Within P s.nodes s.nodes
  at_first x m e l = absurd (lt_irrefl zero (omega (arith, free-linkless s.nodes x m e)))

  -- the children of a node in P that is copied
  pub source-within : (bits h : ℕ) (there : Bool) (m n : ℕ) → LegalBits bits → Found s.nodes bits (suc h) there m n → (there ≡ true → P n)
      → (i : ℕ) → i < (source s.nodes there n).used → P (get_or (source s.nodes there n).cells i 0)
  unfolding source Shaped
  source-within bits h true m n legal p own i l =
      let q = branch-source s bits h true m n legal k.sized p in
      rw (q.cell i l) (closed n (cell_of s.nodes n i) (own refl) (child-linked s.nodes n i p.kind l))
  source-within bits h false m n legal p own i l = absurd (lt_irrefl zero (omega arith))

  pub none-raised : (n : ℕ) → 1 ≤ occurrences n [] → kind_of s.nodes n ≢ free_kind
  unfolding occurrences
  none-raised n l = absurd (lt_irrefl zero (omega arith))

  -- a branch with the node made last in cell b
  branch-put : (c : Source) (b taken : ℕ) (r : Made) → Climb s taken r → taken < s.free → Step s.nodes c b → b ≤ c.used → Linked s.nodes c
      → ((i : ℕ) → i < c.used → P (get_or c.cells i 0)) → Within P s.nodes r.store.nodes → Within P s.nodes (branch_with c b r).store.nodes
  unfolding branch_with
  branch-put c b taken r climb enough p l linked own w =
      let below = climb-keeps climb k (omega arith) in
      let copied : Copied s taken 0 r = climb-copies s 0 climb (kept-stocks k (taken + 0) (omega arith)) in
      branch-within P s.nodes r.store (r.node ∷ rs) (others c.cells c.used b) below (omega (arith, copied.free)) (max c.used (b + 1)) (set c.cells b r.node)
      (put-filled s.nodes c b r.node p k.spare)
      (λ n m. use-stays s.nodes r.store.nodes n copied.extends (each-occurs (λ x. kind_of s.nodes x ≢ free_kind) (others c.cells c.used b) n (others-used s.nodes c b l linked) m))
      w
      (λ m o. pick m (ℕ_discrete r.node m) copied.fresh
      (rw (put-occurs c.cells c.used b r.node m l (omega (arith, p.room, p.whole)) (omega (arith, p.small, p.whole))) at o))
    where
      pick : (m : ℕ) → Dec (r.node ≡ m) → kind_of s.nodes r.node ≡ free_kind → 1 ≤ occurrences m (others c.cells c.used b) + bit (eqb r.node m) → (kind_of s.nodes m ≡ free_kind) ⊎ P m
      pick m (yes e) fresh o = inl (rw e at fresh)
      pick m (no f) fresh o =
          inr (each-occurs P (others c.cells c.used b) m (each-other P c.cells c.used b l (λ i j g. own i j)) (omega (arith, rw (ne_eqb r.node m f) at o)))

  pub assoc-within : (bits h : ℕ) (there : Bool) (m n index v : ℕ) → LegalBits bits → Found s.nodes bits h there m n → inside bits h index ≤ m → suc h ≤ s.free
      → (there ≡ true → P n) → Within P s.nodes (assoc s bits h there n index v).store.nodes
  unfolding assoc leaf_with raises
  assoc-within bits zero there m n index v legal p le enough own =
      let q = leaf-source s bits there m n legal k.sized p in
      leaf-within P s.nodes s rs [] k enough _ _ (put-filled s.nodes (source s.nodes there n) (bucket bits 0 index) v (leaf-step s.nodes bits m n index _ legal q) k.spare)
      none-raised at_first
  assoc-within bits (suc h) there m n index v legal p le enough own =
      let c = source s.nodes there n in
      let b = bucket bits (suc h) index in
      let q = branch-source s bits h there m n legal k.sized p in
      let splits = inside-splits bits h index in
      let below = inside-below bits h index in
      let l = put-bucket (degree bits ^ suc h) c.used b (inside bits h index) m below (omega arith) q.enough in
      let child = child-found s.nodes bits h m n b c q in
      let kids = source-within bits h there m n legal p own in
      branch-put c b (suc h) (assoc s bits h (ltb b c.used) (get_or c.cells b 0) index v)
      (assoc-climbs s bits h (ltb b c.used) _ (get_or c.cells b 0) index v legal k.sized child (omega arith)) enough
      (branch-step s.nodes bits h m n index c legal q) l (branch-linked s.nodes bits h m n c q) kids
      (assoc-within bits h (ltb b c.used) _ (get_or c.cells b 0) index v legal child (omega arith) (omega arith) (λ e. kids b (ltb-true b c.used e)))

  -- a new root over the old one
  pub grow-within : (bits h root index v : ℕ) → LegalBits bits → kind_of s.nodes root ≢ free_kind → P root → index ≡ degree bits ^ suc h → suc (suc h) ≤ s.free
      → Within P s.nodes (grow s bits h root index v).store.nodes
  unfolding grow
  grow-within bits h root index v legal f own full enough =
      let begins : inside bits h index ≡ 0 = rw full (mod_self (degree bits ^ suc h)) in
      branch-put (record { cells = root ∷ replicate (node_cells - 1) 0; used = 1 }) 1 (suc h) (assoc s bits h false 0 index v)
      (assoc-climbs s bits h false 0 0 index v legal k.sized refl (omega arith)) enough
      (record { whole = refl; room = omega arith; small = omega arith; spare = λ tidy. root-spare root })
      (omega arith)
      (λ i l. let e : i ≡ 0 = omega arith in rw e f)
      (λ i l. let e : i ≡ 0 = omega arith in rw e own)
      (assoc-within bits h false 0 0 index v legal refl (omega arith) (omega arith) (λ e. absurd (false≢true e)))

  -- a branch cut before cell b
  branch_less : (c : Source) (b : ℕ) → 0 < s.free → Step s.nodes c b → c.used ≡ b + 1 → Linked s.nodes c → ((i : ℕ) → i < c.used → P (get_or c.cells i 0))
      → Within P s.nodes (branch_cut s c b).store.nodes
  unfolding branch_cut
  branch_less c b enough p u linked own =
      branch-within P s.nodes s rs (slice 0 b c.cells) k enough b (set c.cells b 0) (cut-filled s.nodes c b p (omega arith) k.spare)
      (λ n m. each-occurs (λ x. kind_of s.nodes x ≢ free_kind) (slice 0 b c.cells) n (slice-used s.nodes c b (omega arith) linked) m)
      at_first
      (λ m o. inr (each-occurs P (slice 0 b c.cells) m (each-slice P 0 b c.cells (λ i j g. own i (omega arith))) (omega (arith, cut-occurs c.cells b 0 m))))

  pub drop-within : (bits h n last : ℕ) → LegalBits bits → Shaped s.nodes bits h (inside bits h last + 1) n → 1 ≤ inside bits h last → undivided bits h last ≤ s.free → P n
      → Within P s.nodes (drop_last s bits h n last).store.nodes
  unfolding drop_last leaf_cut raises
  drop-within bits zero n last legal p some enough own =
      let q = leaf-source s bits true (inside bits 0 last + 1) n legal k.sized p in
      let one = undivided-leaf bits last some in
      leaf-within P s.nodes s rs [] k (omega arith) _ _
      (cut-filled s.nodes (source s.nodes true n) (bucket bits 0 last) (leaf-step s.nodes bits _ n last _ legal q) (omega (arith, q.uses, inside-leaf bits last)) k.spare)
      none-raised at_first
  drop-within bits (suc h) n last legal p some enough own =
      pick (divides (degree bits ^ suc h) last) refl (λ node shape more room in_p. drop-within bits h node last legal shape more room in_p)
    where
      c : Source
      c = source s.nodes true n

      b : ℕ
      b = bucket bits (suc h) last

      q : BranchSource s.nodes bits h (inside bits (suc h) last + 1) n c
      q = branch-source s bits h true (inside bits (suc h) last + 1) n legal k.sized p

      uses : c.used ≡ b + 1
      uses = last-used s.nodes bits h n last c q

      kids : (i : ℕ) → i < c.used → P (get_or c.cells i 0)
      kids = source-within bits h true (inside bits (suc h) last + 1) n legal p (λ e. own)

      step : undivided bits (suc h) last ≡ suc (undivided bits h last)
      step = undivided-step bits h last some

      pick : (empty : Bool) → divides (degree bits ^ suc h) last ≡ empty
          → ((node : ℕ) → Shaped s.nodes bits h (inside bits h last + 1) node → 1 ≤ inside bits h last → undivided bits h last ≤ s.free → P node → Within P s.nodes (drop_last s bits h node last).store.nodes)
          → Within P s.nodes (cond empty (branch_cut s c b) (branch_with c b (drop_last s bits h (get_or c.cells b 0) last))).store.nodes
      pick true e rec = branch_less c b (omega (arith, step)) (branch-step s.nodes bits h _ n last c legal q) uses (branch-linked s.nodes bits h _ n c q) kids
      pick false e rec =
          let shape = last-child s.nodes bits h n last c q in
          let more = divides-false bits h last e in
          branch-put c b (undivided bits h last) (drop_last s bits h (get_or c.cells b 0) last)
          (drop-climbs s bits h (get_or c.cells b 0) last legal k.sized shape more) (omega (arith, step))
          (branch-step s.nodes bits h _ n last c legal q) (omega (arith, uses)) (branch-linked s.nodes bits h _ n c q) kids
          (rec (get_or c.cells b 0) shape more (omega (arith, step)) (kids b (omega (arith, uses))))

-- New, share, set and push: the version that is answered, and what it costs.
use mathlib.Core.Path.{◌≡◌, refl, sym, ◌∙◌}
use mathlib.Core.Logic.{◌≢◌}
use mathlib.Core.Bool.{Bool, true, false, cond, false≢true}
use mathlib.Core.List.{List, [], ◌∷◌, ◌++◌}
use Prim.Native.Nat.{ℕ, zero, suc, ◌+◌, ◌^◌, ◌<◌, max}
use native.Mathlib.Nat.{lt_irrefl}
use native.Mathlib.Numerals.{add-one}
use native.Mathlib.Omega.{arith}
use lib.ListN.{set, replicate}
use Rattle.meaning.specs.Limits.{node_cells, leaf_kind, max_length}
use Rattle.meaning.specs.Counting.{rows}
use Rattle.meaning.specs.Lent.{Nodes, VersionRecord}
use Rattle.meaning.specs.Shape.{degree, height, is_root_full}
use Rattle.meaning.specs.Trees.{Shaped, height_of, contents}
use Rattle.meaning.specs.WellFormed.{LegalBits, Live}
use Rattle.meaning.specs.Costs.{plain, new_cost, set_cost, push_cost}
use Rattle.meaning.proofs.Reaching.{shaped-used}
use Rattle.store.specs.Store.{Store}
use Rattle.paths.specs.Paths.{Made, assoc, grow}
use Rattle.paths.specs.Edits.{Edit, edit, empty_leaf, new_edit, share_edit, set_edit, push_edit}
use Rattle.shape.proofs.Capacity.{height-holds, full-exactly}
use Rattle.shape.proofs.Growth.{push-grows, push-keeps}
use Rattle.trees.specs.Stock.{Stock}
use Rattle.trees.specs.Sources.{Tidy}
use Rattle.trees.specs.Climbs.{Climb}
use Rattle.trees.specs.Elements.{inside}
use Rattle.trees.specs.Edited.{Rooted, made, shared, Edited}
use Rattle.trees.proofs.Digits.{inside_is}
use Rattle.meaning.proofs.Rows.{rows-set, rows-push}
use Rattle.trees.proofs.Framing.{extends-refl}
use Rattle.trees.proofs.Making.{make-writes, raised-stocks, stock-lessens}
use Rattle.trees.proofs.Climbs.{climb-copies, climb-tidies}
use Rattle.trees.proofs.Climbing.{assoc-climbs, grow-climbs, empty-climbs}
use Rattle.trees.proofs.Putting.{assoc-puts}
use Rattle.trees.proofs.Growing.{grow-grows}

-- spare cells stay 0
pub edited-tidies : (s : Store) (k : ℕ) {fresh : ℕ} {e : Edit} → Rooted s fresh e → Stock s (fresh + k) → Tidy s.nodes → Tidy e.store.nodes
unfolding share_edit
edited-tidies s k (made bits n w) z tidy = climb-tidies s k w z tidy
edited-tidies s k (shared v f) z tidy = tidy

-- what a way adds to a version that is right
pub climb-edits : (s : Store) (r : Made) (bits n taken k : ℕ) (items : List ℕ) → Climb s taken r → Stock s (taken + k) → Live r.store.nodes (edit r bits n).version
    → contents r.store.nodes (edit r bits n).version ≡ items → Edited s taken k items (edit r bits n)
climb-edits s r bits n taken k items w z l h =
    let p = climb-copies s k w z in
    record { rooted = made bits n w; extends = p.extends; stock = p.stock; order = p.order; free = p.free; live = l; holds = h }

-- an index below the length is what the root counts
pub version-index : (s : Nodes) (v : VersionRecord) (i : ℕ) → Live s v → i < v.length → inside v.bits (height_of v) i ≡ i
version-index s v i l m =
    let holds = height-holds v.bits v.length l.bits.least (omega (arith, l.length)) in
    inside_is v.bits (height_of v) i (omega arith)

-- ---- new

pub empty-edits : (s : Store) (bits k : ℕ) → LegalBits bits → Stock s (suc k) → Edited s 1 k [] (edit (empty_leaf s) bits 0)
unfolding empty_leaf Shaped height contents rows
empty-edits s bits k legal z =
    let w = make-writes s k leaf_kind 0 (replicate node_cells 0) z refl in
    climb-edits s (empty_leaf s) bits 0 1 k [] (empty-climbs s) (stock-lessens s (suc k) (1 + k) (omega arith) z)
    (record { live = refl; bits = legal; length = omega arith; shape = record { kind = w.kinds; used = w.uses; room = omega arith } })
    refl

pub new-edits : (s : Store) (bits k : ℕ) → LegalBits bits → Stock s (new_cost.fresh + k) → Edited s new_cost.fresh k [] (new_edit s bits)
unfolding new_cost plain new_edit
new-edits s bits k legal z = empty-edits s bits k legal (stock-lessens s (1 + k) (suc k) (omega arith) z)

-- ---- share

pub share-edits : (s : Store) (v : VersionRecord) (k : ℕ) → Live s.nodes v → Stock s k → Edited s 0 k (contents s.nodes v) (share_edit s v)
unfolding share_edit
share-edits s v k l z = record {
  rooted = shared v (shaped-used s.nodes v.bits (height_of v) v.length v.root l.shape);
  extends = extends-refl s.nodes;
  stock = raised-stocks s k (v.root ∷ []) z;
  order = refl;
  free = omega arith;
  live = l;
  holds = refl;
}

-- ---- set

pub set-edits : (s : Store) (v : VersionRecord) (i x k : ℕ) → Live s.nodes v → Stock s ((set_cost v.bits v.length).fresh + k) → i < v.length
    → Edited s (set_cost v.bits v.length).fresh k (set (contents s.nodes v) i x) (set_edit s v i x)
unfolding set_cost plain set_edit contents
set-edits s v i x k l z m =
    let h : ℕ = height_of v in
    let rest = stock-lessens s (h + 1 + k) (suc h + k) (omega arith) z in
    let at = version-index s.nodes v i l m in
    let climb = assoc-climbs s v.bits h true v.length v.root i x l.bits z.sizes l.shape (omega arith) in
    let put = assoc-puts s v.bits h true v.length v.root i x k l.bits rest l.shape (omega arith) in
    let same : max v.length (inside v.bits h i + 1) ≡ v.length = omega arith in
    rw add-one (climb-edits s _ v.bits v.length (suc h) k _ climb rest
    (record { live = refl; bits = l.bits; length = l.length; shape = rw same at put.shape })
    (rows-set v.length _ _ i x m put.there (λ j b f.
    let here = version-index s.nodes v j l b in
    put.others j (omega arith) (λ e. f (omega arith)))))

-- ---- push

push-inside : (s : Store) (v : VersionRecord) (x k : ℕ) → Live s.nodes v → Stock s ((push_cost v.bits v.length).fresh + k) → v.length < max_length
    → v.length ≢ degree v.bits ^ suc (height_of v)
    → Edited s (push_cost v.bits v.length).fresh k (contents s.nodes v ++ (x ∷ [])) (edit (assoc s v.bits (height_of v) true v.root v.length x) v.bits (v.length + 1))
unfolding push_cost plain contents
push-inside s v x k l z m f =
    let h : ℕ = height_of v in
    let n : ℕ = v.length in
    let e : height v.bits (n + 1) ≡ h = rw add-one (push-keeps v.bits n l.bits.least (omega arith) f) in
    let holds = height-holds v.bits n l.bits.least (omega arith) in
    let rest = stock-lessens s (height v.bits (n + 1) + 1 + k) (suc h + k) (omega arith) z in
    let at = inside_is v.bits h n (omega arith) in
    let climb = assoc-climbs s v.bits h true n v.root n x l.bits z.sizes l.shape (omega arith) in
    let put = assoc-puts s v.bits h true n v.root n x k l.bits rest l.shape (omega arith) in
    let more : max n (inside v.bits h n + 1) ≡ n + 1 = omega arith in
    let cost : height v.bits (n + 1) + 1 ≡ suc h = omega arith in
    rw cost (climb-edits s _ v.bits (n + 1) (suc h) k _ climb rest
    (record { live = refl; bits = l.bits; length = omega arith; shape = rw e (rw more at put.shape) })
    (rw (e, add-one) (rows-push n _ _ x
    (λ j b. let here = version-index s.nodes v j l b in put.others j (omega arith) (λ q. lt_irrefl zero (omega arith)))
    put.there)))

push-beyond : (s : Store) (v : VersionRecord) (x k : ℕ) → Live s.nodes v → Stock s ((push_cost v.bits v.length).fresh + k) → v.length < max_length
    → v.length ≡ degree v.bits ^ suc (height_of v)
    → Edited s (push_cost v.bits v.length).fresh k (contents s.nodes v ++ (x ∷ [])) (edit (grow s v.bits (height_of v) v.root v.length x) v.bits (v.length + 1))
unfolding push_cost plain contents
push-beyond s v x k l z m full =
    let h : ℕ = height_of v in
    let n : ℕ = v.length in
    let e : height v.bits (n + 1) ≡ suc h = rw add-one (push-grows v.bits n l.bits.least (omega arith) full) in
    let rest = stock-lessens s (height v.bits (n + 1) + 1 + k) (suc (suc h) + k) (omega arith) z in
    let climb = grow-climbs s v.bits h v.root n x l.bits z.sizes (shaped-used s.nodes v.bits h n v.root l.shape) full in
    let grown = grow-grows s v.bits h v.root n x k l.bits rest full l.shape in
    let cost : height v.bits (n + 1) + 1 ≡ suc (suc h) = omega arith in
    rw cost (climb-edits s _ v.bits (n + 1) (suc (suc h)) k _ climb rest
    (record { live = refl; bits = l.bits; length = omega arith; shape = rw e grown.shape })
    (rw (e, add-one) (rows-push n _ _ x (λ j b. grown.others j b) grown.there)))

pub push-edits : (s : Store) (v : VersionRecord) (x k : ℕ) → Live s.nodes v → Stock s ((push_cost v.bits v.length).fresh + k) → v.length < max_length
    → Edited s (push_cost v.bits v.length).fresh k (contents s.nodes v ++ (x ∷ [])) (push_edit s v x)
unfolding push_edit
push-edits s v x k l z m = pick (is_root_full v.bits v.length) refl
  where
    pick : (full : Bool) → is_root_full v.bits v.length ≡ full
        → Edited s (push_cost v.bits v.length).fresh k (contents s.nodes v ++ (x ∷ []))
        (edit (cond full (grow s v.bits (height_of v) v.root v.length x) (assoc s v.bits (height_of v) true v.root v.length x)) v.bits (v.length + 1))
    pick true e = push-beyond s v x k l z m ((full-exactly v.bits v.length).0 e)
    pick false e = push-inside s v x k l z m (λ q. false≢true (sym e ∙ (full-exactly v.bits v.length).1 q))

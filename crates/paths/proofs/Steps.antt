-- One node made: what the callees ensure makes up the model's step.
use mathlib.Core.Path.{◌≡◌, ◌∙◌}
use mathlib.Core.List.{List}
use Prim.Native.Nat.{ℕ, ◌+◌, ◌≤◌, max}
use native.Mathlib.Omega.{arith}
use lib.ListN.{length, take, set, replicate, length-take}
use lib.Seq.{take_all}
use Rattle.std.proofs.lemmas.List.{take-take}
use Rattle.meaning.specs.Limits.{node_cells, leaf_kind, branch_kind}
use Rattle.store.specs.Store.{Store, node_count, raises, top}
use Rattle.store.specs.Ready.{Sized, FreeOnTop, Room, AllBelow}
use Rattle.store.specs.Answers.{Makes, others}
use Rattle.store.proofs.Raising.{below-fewer, room-less}
use Rattle.paths.specs.Paths.{Source, leaf_with, branch_with, leaf_cut, branch_cut}
use Rattle.paths.specs.Edits.{empty_leaf}
use Rattle.paths.specs.Ready.{made_of, source_of, CanMake, CanShare}

-- a store with other counts
abbrev pub recounted : Store → (counts : List ℕ) → Store
recounted s cs = record { nodes = s.nodes; counts = cs; order = s.order; free = s.free }

-- ---- what the callees require

pub recounted-can : (s : Store) (cs : List ℕ) (b : ℕ) → length cs ≡ length s.counts → CanMake s b → Sized (recounted s cs) × FreeOnTop (recounted s cs)
unfolding top
recounted-can s cs b e h =
    let z = h.sized in
    let f = h.top in (
      record { used = z.used; counts = e ∙ z.counts; order = z.order; cells = z.cells },
      record { some = f.some; most = f.most; below = f.below },
    )

-- the first k children can be shared
pub share-first : (s : Store) (c : Source) (b k : ℕ) → length c.cells ≡ node_cells → CanShare s c b → k ≤ c.used
    → AllBelow (length s.counts) (take k c.cells) × Room (length (take k c.cells)) s.counts
share-first s c b k z h l =
    let few = h.fork.few in (
      rw h.make.sized.counts (below-fewer (node_count s) c.cells k c.used l (omega arith) h.fork.children),
      room-less _ node_cells s.counts (simp length-take (omega arith)) h.room,
    )

-- the children in use are all that `others` reads
others-used : (a : List ℕ) (used b : ℕ) → used ≤ length a → b ≤ used → others (take used a) (length (take used a)) b ≡ others a used b
others-used a used b l m = rw (take_all (length (take used a)) (take used a) (omega arith), take-take b used a m)

-- ---- what is made

pub empty-made : (s s' : Store) (m : ℕ) → Makes s leaf_kind 0 (replicate node_cells 0) s' m → made_of s' m ≡ empty_leaf s
unfolding empty_leaf
empty-made s s' m w = rw (w.made, w.taken)

pub leaf-made : (s s' : Store) (a : List ℕ) (used len b v m : ℕ) → len ≡ max used (b + 1) → Makes s leaf_kind len (set a b v) s' m
    → made_of s' m ≡ leaf_with s (source_of a used) b v
unfolding leaf_with
leaf-made s s' a used len b v m e w = rw (w.made, w.taken, e)

pub branch-made : (s s' : Store) (cs a : List ℕ) (used len b n m : ℕ) → used ≤ length a → b ≤ used
    → cs ≡ raises s.counts (others (take used a) (length (take used a)) b) → len ≡ max used (b + 1)
    → Makes (recounted s cs) branch_kind len (set a b n) s' m → made_of s' m ≡ branch_with (source_of a used) b (made_of s n)
unfolding branch_with top
branch-made s s' cs a used len b n m l k r e w = rw (w.made, w.taken, e, r, others-used a used b l k)

pub leaf-cut : (s s' : Store) (a : List ℕ) (used b m : ℕ) → Makes s leaf_kind b (set a b 0) s' m → made_of s' m ≡ leaf_cut s (source_of a used) b
unfolding leaf_cut
leaf-cut s s' a used b m w = rw (w.made, w.taken)

pub branch-cut : (s s' : Store) (cs a : List ℕ) (used b m : ℕ) → cs ≡ raises s.counts (take b a)
    → Makes (recounted s cs) branch_kind b (set a b 0) s' m → made_of s' m ≡ branch_cut s (source_of a used) b
unfolding branch_cut top
branch-cut s s' cs a used b m r w = rw (w.made, w.taken, r)

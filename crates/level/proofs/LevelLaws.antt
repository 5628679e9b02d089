-- For each function, that what its callees ensure makes up what it ensures.
use mathlib.Core.Path.{◌≡◌}
use mathlib.Core.Bool.{Bool}
use mathlib.Core.List.{List}
use Prim.Native.Nat.{ℕ, ◌+◌, ◌*◌, ◌^◌, ◌<◌}
use lib.ListN.{get_or, set}
use lib.IntN.{ℤ, pos}
use lib.Signed.{mag}
use mir.Syntax.{w32}
use mir.Val.{to_z, of_z}
use Rattle.meaning.specs.Limits.{node_cells}
use Rattle.index.proofs.IndexLaws.{read}
use Rattle.index.specs.Index.{first, advanced, finished, place}
use Rattle.level.specs.Level.{levels, current_at, pushed, index_after, stepped_at, ended_at}

pub reads : (z : ℤ) → mag z < 2 ^ 31 → to_z w32 (of_z w32 z) ≡ z
reads z h = read z (record { sfits = h })

pub current-is : (cs ns : List ℕ) (is : List ℤ) (k i r : ℕ) (z : ℤ) → z ≡ get_or is k (pos 0) → mag z < 2 ^ 31
    → i ≡ place (to_z w32 (of_z w32 z)) → r ≡ get_or cs (node_cells * get_or ns k 0 + i) 0 → r ≡ current_at cs (levels ns is) k
unfolding current_at
current-is cs ns is k i r z e hz p q =
    let rz : to_z w32 (of_z w32 z) ≡ z = reads z hz in
    cc

pub push-is : (us ns : List ℕ) (is : List ℤ) (b : Bool) (k n u : ℕ) (j : ℤ) → mag j < 2 ^ 31 → u ≡ get_or us n 0 → j ≡ first b u
    → levels (set ns k n) (set is k (to_z w32 (of_z w32 j))) ≡ pushed us b (levels ns is) k n
unfolding pushed
push-is us ns is b k n u j hj p q =
    let rj : to_z w32 (of_z w32 j) ≡ j = reads j hj in
    cc

pub step_is : (us ns : List ℕ) (is : List ℤ) (b : Bool) (k u : ℕ) (z j : ℤ) (r : Bool) → z ≡ get_or is k (pos 0) → mag z < 2 ^ 31 → mag j < 2 ^ 31
    → j ≡ advanced b (to_z w32 (of_z w32 z)) → u ≡ get_or us (get_or ns k 0) 0 → r ≡ finished b u (to_z w32 (of_z w32 j))
    → (r ≡ ended_at us b (levels ns is) k) × (levels ns (set is k (to_z w32 (of_z w32 j))) ≡ stepped_at b (levels ns is) k)
unfolding ended_at stepped_at index_after
step_is us ns is b k u z j r e hz hj p q t =
    let rz : to_z w32 (of_z w32 z) ≡ z = reads z hz in
    let rj : to_z w32 (of_z w32 j) ≡ j = reads j hj in
    (cc, cc)

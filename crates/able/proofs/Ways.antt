-- The ways that the calls require are there in every tree that has its shape.
use mathlib.Core.Path.{◌≡◌, refl}
use mathlib.Core.Bool.{Bool, true, false}
use Prim.Native.Nat.{ℕ, zero, suc, ◌+◌, ◌^◌, ◌≤◌, ◌<◌, min}
use mathlib.Core.Logic.{◌≢◌}
use native.Mathlib.Nat.{lt_irrefl, mod_self}
use native.Mathlib.Omega.{arith}
use lib.Dec.{ltb}
use lib.ListN.{length, get_or, take, length-take}
use lib.Seq.{get_or-take}
use Rattle.meaning.specs.Limits.{free_kind}
use Rattle.meaning.specs.Lent.{Nodes, kind_of}
use Rattle.meaning.specs.Shape.{degree, bucket}
use Rattle.meaning.specs.Trees.{Shaped}
use Rattle.meaning.specs.WellFormed.{LegalBits}
use Rattle.meaning.proofs.Reaching.{shaped-inside}
use Rattle.meaning.proofs.Nodes.{used-inside}
use Rattle.store.specs.Store.{Store, node_count}
use Rattle.store.specs.Ready.{Sized, AllBelow}
use Rattle.paths.specs.Paths.{Source, source}
use Rattle.paths.specs.Ready.{Fork, Way, WayBeyond, WayToLast}
use Rattle.shape.proofs.Powers.{degree-most}
use Rattle.trees.specs.Sources.{Found, BranchSource}
use Rattle.trees.specs.Elements.{inside}
use Rattle.trees.proofs.Digits.{inside-splits, inside-below}
use Rattle.trees.proofs.Numbers.{put-bucket}
use Rattle.trees.proofs.Sources.{branch-source, child-found, last-used, last-child}

found_inside : (s : Nodes) (bits h : ℕ) (there : Bool) (m n : ℕ) → Found s bits h there m n → there ≡ true → n < length s.kinds
found_inside s bits h true m n p e = shaped-inside s bits h m n p
found_inside s bits h false m n p e = let z : ◌≡◌ {A = ℕ} 0 1 = cc in absurd (lt_irrefl zero (omega arith))

-- what a branch's copy shares are nodes
forked : (s : Store) (bits h m n b : ℕ) (c : Source) → LegalBits bits → BranchSource s.nodes bits h m n c → b ≤ c.used → Fork (node_count s) c b
unfolding AllBelow
forked s bits h m n b c legal q l = record { few = omega (arith, q.room, degree-most bits legal.most); next = l; children = each }
  where
    each : (i : ℕ) → i < length (take c.used c.cells) → get_or (take c.used c.cells) i 0 < node_count s
    each i k =
        let short : i < min c.used (length c.cells) = rw length-take at k in
        rw (get_or-take c.used c.cells i 0 (omega arith)) (shaped-inside s.nodes bits h _ (get_or c.cells i 0) (q.children i (omega arith)))

-- ---- to an index

pub way-found : (s : Store) (bits h : ℕ) (there : Bool) (m n index : ℕ) → LegalBits bits → Sized s → Found s.nodes bits h there m n → inside bits h index ≤ m
    → Way s bits h there n index
unfolding Way
way-found s bits zero there m n index legal z p le = found_inside s.nodes bits zero there m n p
way-found s bits (suc h) there m n index legal z p le =
    let c = source s.nodes there n in
    let b = bucket bits (suc h) index in
    let q = branch-source s bits h there m n legal z p in
    let splits = inside-splits bits h index in
    let below = inside-below bits h index in
    let next = put-bucket (degree bits ^ suc h) c.used b (inside bits h index) m below (omega arith) q.enough in (
      found_inside s.nodes bits (suc h) there m n p,
      forked s bits h m n b c legal q next,
      way-found s bits h (ltb b c.used) _ (get_or c.cells b 0) index legal z (child-found s.nodes bits h m n b c q) (omega arith),
    )

-- ---- beyond a full root

pub way-beyond : (s : Store) (bits h root index : ℕ) → LegalBits bits → Sized s → kind_of s.nodes root ≢ free_kind → index ≡ degree bits ^ suc h → WayBeyond s bits h root index
way-beyond s bits h root index legal z f full =
    let begins : inside bits h index ≡ 0 = rw full (mod_self (degree bits ^ suc h)) in
    (used-inside s.nodes root f, way-found s bits h false 0 0 index legal z refl (omega arith))

-- ---- to the last index

pub way-last : (s : Store) (bits h n last : ℕ) → LegalBits bits → Sized s → Shaped s.nodes bits h (inside bits h last + 1) n → WayToLast s bits h n last
unfolding WayToLast
way-last s bits zero n last legal z p = shaped-inside s.nodes bits zero _ n p
way-last s bits (suc h) n last legal z p =
    let c = source s.nodes true n in
    let b = bucket bits (suc h) last in
    let q = branch-source s bits h true (inside bits (suc h) last + 1) n legal z p in
    let uses = last-used s.nodes bits h n last c q in (
      shaped-inside s.nodes bits (suc h) _ n p,
      forked s bits h _ n b c legal q (omega (arith, uses)),
      way-last s bits h (get_or c.cells b 0) last legal z (last-child s.nodes bits h n last c q),
    )

-- Laws of a lowered count, and of the room that the free order has for what it frees.
use mathlib.Core.Path.{◌≡◌, refl, ap, ◌∙◌}
use mathlib.Core.List.{List}
use Prim.Native.Nat.{ℕ, zero, suc, ◌+◌, ◌-◌, ◌<◌, ◌≤◌}
use native.Mathlib.Numerals.{sub-one, add-one}
use native.Mathlib.Omega.{arith}
use borrow.Author.Tests.{lt-ltb}
use lib.Dec.{ltb}
use lib.ListN.{length, drop, get_or, set, length-set, drop_of_length-le}
use lib.Seq.{drop-cons, get_or-set_same, get_or-set_other}
use Rattle.meaning.specs.Counting.{sum_to, bit, how_many}
use Rattle.meaning.proofs.Sums.{sum_one}
use Rattle.store.specs.Store.{Store}
use Rattle.sweep.specs.Sweep.{lower_from, lower, lowers}
use Rattle.sweep.specs.Ready.{store_on, live}

-- ---- how many have a count

-- 1 for a count that is not 0
abbrev has : ℕ → ℕ
has c = bit (ltb 0 c)

live-set : (cs : List ℕ) (n v : ℕ) → n < length cs → live (set cs n v) + has (get_or cs n 0) ≡ live cs + has v
unfolding live how_many
live-set cs n v l =
    let at : get_or (set cs n v) n 0 ≡ v = get_or-set_same cs n v 0 l in
    let one : sum_to (length cs) (λ k. has (get_or (set cs n v) k 0)) + has (get_or cs n 0) ≡ sum_to (length cs) (λ k. has (get_or cs k 0)) + has (get_or (set cs n v) n 0) =
    sum_one (length cs) (λ k. has (get_or (set cs n v) k 0)) (λ k. has (get_or cs k 0)) n l (λ k _ e. ap has (get_or-set_other cs n k v 0 e)) in
    rw (length-set cs n v) (one ∙ ap (λ (c : ℕ). sum_to (length cs) (λ k. has (get_or cs k 0)) + has c) at)

has_some : (c : ℕ) → 0 < c → has c ≡ 1
has_some c h = rw (lt-ltb 0 c h)

pub live-some : (cs : List ℕ) (n : ℕ) → n < length cs → 0 < get_or cs n 0 → 0 < live cs
live-some cs n l h = omega (arith, live-set cs n 0 l, has_some (get_or cs n 0) h)

-- ---- one node

pub lower-none : (s : Store) (n : ℕ) → get_or s.counts n 0 ≡ 0 → s ≡ lower s n
unfolding lower lower_from
lower-none s n e = rw e

pub lower_last : (s : Store) (n : ℕ) → get_or s.counts n 0 ≡ 1
    → store_on s.nodes (set s.counts n (get_or s.counts n 0 - 1)) (set s.order s.free n) (s.free + 1) ≡ lower s n
unfolding lower lower_from
lower_last s n e = rw e

pub lower-more : (s : Store) (n : ℕ) → (get_or s.counts n 0 ≡ 0 → ⊥) → (get_or s.counts n 0 ≡ 1 → ⊥)
    → store_on s.nodes (set s.counts n (get_or s.counts n 0 - 1)) s.order s.free ≡ lower s n
unfolding lower lower_from
lower-more s n e f = go (get_or s.counts n 0) e f
  where
    go : (c : ℕ) → (c ≡ 0 → ⊥) → (c ≡ 1 → ⊥) → store_on s.nodes (set s.counts n (c - 1)) s.order s.free ≡ lower_from c s n
    go zero e f = absurd (e refl)
    go (suc zero) e f = absurd (f refl)
    go (suc (suc c)) e f = rw sub-one

pub lower-nodes : (s : Store) (n : ℕ) → (lower s n).nodes ≡ s.nodes
unfolding lower lower_from
lower-nodes s n = go (get_or s.counts n 0)
  where
    go : (c : ℕ) → (lower_from c s n).nodes ≡ s.nodes
    go zero = refl
    go (suc zero) = refl
    go (suc (suc c)) = refl

pub lower-room : (s : Store) (n : ℕ) → n < length s.counts → live s.counts + s.free ≤ length s.order
    → live (lower s n).counts + (lower s n).free ≤ length (lower s n).order
unfolding lower lower_from
lower-room s n l h = go (get_or s.counts n 0) refl
  where
    go : (c : ℕ) → get_or s.counts n 0 ≡ c → live (lower_from c s n).counts + (lower_from c s n).free ≤ length (lower_from c s n).order
    go zero e = h
    go (suc zero) e = rw (length-set s.order s.free n) (omega (arith, live-set s.counts n 0 l, has_some (get_or s.counts n 0) (omega arith)))
    go (suc (suc c)) e = omega (arith, live-set s.counts n (suc c) l, has_some (get_or s.counts n 0) (omega arith), has_some (suc c) (omega arith))

pub lowered-room : (s s' : Store) (n : ℕ) → n < length s.counts → live s.counts + s.free ≤ length s.order → s' ≡ lower s n
    → live s'.counts + s'.free ≤ length s'.order
lowered-room s s' n l h e = rw e (lower-room s n l h)

-- ---- several nodes

-- one turn of the loop over a list
pub lowers-turn : (s s' s₀ : Store) (ns : List ℕ) (i : ℕ) → i < length ns → s' ≡ lower s (get_or ns i 0) → lowers s (drop i ns) ≡ s₀ → lowers s' (drop (i + 1) ns) ≡ s₀
unfolding lowers
lowers-turn s s' s₀ ns i l e r = rw (e, add-one i) (rw (drop-cons ns i 0) at r)

pub lowers-end : (s s₀ : Store) (ns : List ℕ) (i : ℕ) → length ns ≤ i → lowers s (drop i ns) ≡ s₀ → s ≡ s₀
unfolding lowers
lowers-end s s₀ ns i l r = rw (drop_of_length-le ns {i = i} l) at r

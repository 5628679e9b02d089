-- For each function, that what its callees ensure makes up what it ensures.
use Rattle.std.specs.Prelude.{Some, None}
use mathlib.Core.Path.{◌≡◌, ap, ◌∙◌}
use mathlib.Core.Bool.{Bool, true, false}
use mathlib.Core.List.{List}
use Prim.Native.Nat.{ℕ, suc, ◌+◌, ◌*◌, ◌-◌, ◌≤◌, ◌<◌}
use native.Mathlib.Nat.{add-zero}
use native.Mathlib.Omega.{arith}
use lib.ListN.{get_or, set}
use Rattle.meaning.specs.Limits.{walk_levels, walk_numbers}
use Rattle.meaning.specs.Counting.{bit}
use Rattle.meaning.specs.Lent.{VersionRecord, empty_record, WalkSlices}
use Rattle.meaning.specs.Trees.{height_of}
use Rattle.records.specs.Records.{record_of}
use Rattle.records.specs.declared.Version.{Version}
use Rattle.level.specs.declared.Levels.{Levels}
use Rattle.level.specs.Level.{popped}
use Rattle.levels.specs.Levels.{HasStack, took, one_taken}
use Rattle.walk.specs.declared.Walks.{Walks}
use Rattle.walk.specs.Walk.{slices, walks_of, open_record, opened, number_at, version_of_walk, Walkable, stored, cleared_from, closed, is_ended, stepped, taken_of, taken_by}

-- ---- the numbers

pub stores : (ns : List ℕ) (n : ℕ) (v : VersionRecord)
    → set (set (set (set (set (set ns (walk_numbers * n) v.live) (walk_numbers * n + 1) v.root) (walk_numbers * n + 2) v.bits) (walk_numbers * n + 3) v.length) (walk_numbers * n + 4) 0) (walk_numbers * n + 5) 0
    ≡ stored ns n v
unfolding stored
stores ns n v = rw add-zero

pub reads-version : (ns : List ℕ) (n : ℕ)
    → record { live = get_or ns (walk_numbers * n) 0; root = number_at ns n 1; bits = number_at ns n 2; length = number_at ns n 3 } ≡ version_of_walk ns n
unfolding version_of_walk
reads-version ns n = rw add-zero

pub has-stack : (ns : List ℕ) (n s : ℕ) (r : Version) → record_of r ≡ version_of_walk ns n → Walkable ns n → s ≤ 1 → HasStack r.bits r.length (walk_levels * (2 * n + s))
unfolding version_of_walk
has-stack ns n s r e q l =
    let b : r.bits ≡ number_at ns n 2 = ap (λ (v : VersionRecord). v.bits) e in
    let m : r.length ≡ number_at ns n 3 = ap (λ (v : VersionRecord). v.length) e in
    record { legal = rw (b, m) q.legal; room = omega (arith, q.walk) }

pub number-place : (n s : ℕ) (b : Bool) → s ≡ bit b → walk_numbers * n + 4 + s ≡ walk_numbers * n + (4 + bit b)
number-place n s b e = omega arith

-- ---- closing

-- one turn of the clearing
pub clears-on : (w v u : Levels) (e j : ℕ) → j < e → v ≡ popped w j → cleared_from (e - j) w j ≡ u → cleared_from (e - (j + 1)) v (j + 1) ≡ u
unfolding cleared_from
clears-on w v u e j l p q =
    let s : e - j ≡ suc (e - (j + 1)) = omega arith in
    rw p (rw s at q)

pub all-clear : (w u : Levels) (e j : ℕ) → e ≤ j → cleared_from (e - j) w j ≡ u → w ≡ u
unfolding cleared_from
all-clear w u e j l q = let s : e - j ≡ 0 = omega arith in rw s at q

-- for callers: numbers in which a walk is opened, beside levels that stay
pub opens : (w w' : Walks) (n : ℕ) (v : VersionRecord) → w'.levels ≡ w.levels → w'.numbers ≡ stored w.numbers n (open_record v) → walks_of w' ≡ opened (walks_of w) n v
unfolding opened
opens w w' n v e p = rw (e, p)

pub closes : (w w' : Walks) (n k : ℕ) (v : Version) → record_of v ≡ empty_record → w'.numbers ≡ stored w.numbers n (record_of v)
    → k ≡ 2 * walk_levels * n → w'.levels ≡ cleared_from (2 * walk_levels) w.levels k → walks_of w' ≡ closed (walks_of w) n
unfolding closed
closes w w' n k v e p q t = rw (p, t, q, e)

-- ---- taking

pub takes-nothing : (cs us : List ℕ) (b : Bool) (ws : WalkSlices) (n : ℕ) (r : Bool) → r ≡ is_ended ws.numbers n → r ≡ true → stepped ws None ≡ taken_by cs us b ws n
unfolding taken_by
takes-nothing cs us b ws n r p t = rw (← p, t)

taken_is : (cs us : List ℕ) (b : Bool) (w : Walks) (n : ℕ) (v : Version) (s : ℕ) → record_of v ≡ version_of_walk w.numbers n → s ≡ bit b
    → one_taken cs us b (get_or w.numbers (walk_numbers * n + 4 + s) 0) v.root (height_of (record_of v)) w.levels (walk_levels * (2 * n + s)) ≡ taken_of cs us b (walks_of w) n
unfolding taken_of
taken_is cs us b w n v s e q =
    ap (λ (u : VersionRecord). one_taken cs us b (get_or w.numbers (walk_numbers * n + 4 + s) 0) u.root (height_of u) w.levels (walk_levels * (2 * n + s))) e
    ∙ rw (number-place n s b q, q)

pub takes_one : (cs us : List ℕ) (b : Bool) (w : Walks) (levels' : Levels) (n : ℕ) (r : Bool) (v : Version) (s x : ℕ)
    → r ≡ is_ended w.numbers n → r ≡ false → record_of v ≡ version_of_walk w.numbers n → s ≡ bit b
    → took levels' x ≡ one_taken cs us b (get_or w.numbers (walk_numbers * n + 4 + s) 0) v.root (height_of (record_of v)) w.levels (walk_levels * (2 * n + s))
    → stepped (slices (set w.numbers (walk_numbers * n + 4 + s) (get_or w.numbers (walk_numbers * n + 4 + s) 0 + 1)) levels'.nodes levels'.indices) (Some x) ≡ taken_by cs us b (walks_of w) n
unfolding taken_by
takes_one cs us b w levels' n r v s x p f e q t =
    let t' : took levels' x ≡ taken_of cs us b (walks_of w) n = t ∙ taken_is cs us b w n v s e q in
    rw (← p, f, number-place n s b q, ← t')

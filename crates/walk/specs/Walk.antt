-- What the code does to the three lists that hold the walk records.
use Rattle.std.specs.Prelude.{◌≡◌, Bool, cond, List, ℕ, zero, suc, ◌+◌, ◌*◌, ◌^◌, ◌<◌, ◌≤◌, eqb, get_or, set, replicate, ℤ, pos, Option, Some, None}
use Rattle.meaning.specs.Limits.{node_cells, walk_count, word_width, walk_levels, walk_numbers, all_numbers, places}
use Rattle.meaning.specs.Counting.{bit}
use Rattle.meaning.specs.Lent.{VersionRecord, empty_record, WalkSlices}
use Rattle.meaning.specs.Trees.{height_of}
use Rattle.shape.specs.Legal.{Legal}
use Rattle.index.specs.Index.{along, Within}
use Rattle.level.specs.declared.Levels.{Levels}
use Rattle.level.specs.Level.{levels, popped, place_at, passed_at}
use Rattle.levels.specs.Levels.{Taken, one_taken}
use Rattle.walk.specs.declared.Walks.{Walks}

abbrev pub slices : List ℕ → List ℕ → List ℤ → WalkSlices
slices numbers nodes indices = record { numbers = numbers; nodes = nodes; indices = indices }

abbrev pub walks_of : Walks → WalkSlices
walks_of w = slices w.numbers w.levels.nodes w.levels.indices

abbrev pub levels_of : WalkSlices → Levels
levels_of ws = levels ws.nodes ws.indices

-- ---- the numbers of walk n

abbrev pub number_at : (numbers : List ℕ) → (n k : ℕ) → ℕ
number_at ns n k = get_or ns (walk_numbers * n + k) 0

unfoldable pub version_of_walk : (numbers : List ℕ) → (n : ℕ) → VersionRecord
version_of_walk ns n = record { live = number_at ns n 0; root = number_at ns n 1; bits = number_at ns n 2; length = number_at ns n 3 }

-- what is asked of callers
pub record Walkable (numbers : List ℕ) (n : ℕ) : Type 0 where
  pub walk : n < walk_count
  pub legal : Legal (number_at numbers n 2) (number_at numbers n 3)
  pub taken : number_at numbers n 4 + number_at numbers n 5 ≤ number_at numbers n 3

-- a version of which nothing is taken
unfoldable pub stored : (numbers : List ℕ) → (n : ℕ) → VersionRecord → List ℕ
stored ns n v =
    let put : ℕ → ℕ → List ℕ → List ℕ = λ k x xs. set xs (walk_numbers * n + k) x in
    put 5 0 (put 4 0 (put 3 v.length (put 2 v.bits (put 1 v.root (put 0 v.live ns)))))

-- ---- opening and closing

abbrev pub all_closed : WalkSlices
all_closed = slices (replicate all_numbers 0) (replicate places 0) (replicate places (pos 0))

abbrev pub open_record : VersionRecord → VersionRecord
open_record v = record { live = 1; root = v.root; bits = v.bits; length = v.length }

unfoldable pub opened : WalkSlices → (n : ℕ) → VersionRecord → WalkSlices
opened ws n v = slices (stored ws.numbers n (open_record v)) ws.nodes ws.indices

-- so many levels from place k are 0
unfoldable pub cleared_from : (count : ℕ) → Levels → (k : ℕ) → Levels
cleared_from zero w k = w
cleared_from (suc c) w k = cleared_from c (popped w k) (k + 1)

unfoldable pub closed : WalkSlices → (n : ℕ) → WalkSlices
closed ws n =
    let w = cleared_from (2 * walk_levels) (levels_of ws) (2 * walk_levels * n) in
    slices (stored ws.numbers n empty_record) w.nodes w.indices

-- ---- taking

unfoldable pub is_ended : (numbers : List ℕ) → (n : ℕ) → Bool
is_ended ns n = eqb (number_at ns n 4 + number_at ns n 5) (number_at ns n 3)

-- the slices afterwards, and the answer
pub record Step : Type 0 where
  pub slices : WalkSlices
  pub answer : Option ℕ

abbrev pub stepped : WalkSlices → Option ℕ → Step
stepped ws g = record { slices = ws; answer = g }

-- how many are taken from an end
abbrev pub taken_at : (numbers : List ℕ) → (n : ℕ) → (back : Bool) → ℕ
taken_at ns n b = number_at ns n (4 + bit b)

-- the place where the stack of an end begins
abbrev pub stack_at : (n : ℕ) → (back : Bool) → ℕ
stack_at n b = walk_levels * (2 * n + bit b)

unfoldable pub taken_of : (cells used : List ℕ) → (back : Bool) → WalkSlices → (n : ℕ) → Taken
taken_of cs us b ws n =
    let v = version_of_walk ws.numbers n in
    one_taken cs us b (taken_at ws.numbers n b) v.root (height_of v) (levels_of ws) (stack_at n b)

unfoldable pub taken_by : (cells used : List ℕ) → (back : Bool) → WalkSlices → (n : ℕ) → Step
taken_by cs us b ws n =
    let t = taken_of cs us b ws n in
    let counted = set ws.numbers (walk_numbers * n + (4 + bit b)) (taken_at ws.numbers n b + 1) in
    cond (is_ended ws.numbers n) (stepped ws None) (stepped (slices counted t.levels.nodes t.levels.indices) (Some t.element))

-- ---- so many at once

-- walk n after m elements from an end that are cells of one leaf
unfoldable pub passed_on : (back : Bool) → WalkSlices → (n m : ℕ) → WalkSlices
passed_on b ws n m =
    let counted = set ws.numbers (walk_numbers * n + (4 + bit b)) (taken_at ws.numbers n b + m) in
    slices counted ws.nodes (passed_at b ws.indices (stack_at n b) m)

-- what is stored of that fits
pub record Passable (back : Bool) (numbers : List ℕ) (indices : List ℤ) (n m : ℕ) : Type 0 where
  pub walk : n < walk_count
  pub counts : taken_at numbers n back + m < 2 ^ word_width
  pub within : Within back (place_at indices (stack_at n back)) m

-- the next so many elements of walk n from an end are cells of one leaf, from a place on
pub record Staying (used : List ℕ) (back : Bool) (ws : WalkSlices) (n node place most : ℕ) : Type 0 where
  pub here : place ≡ place_at ws.indices (stack_at n back)
  pub passable : Passable back ws.numbers ws.indices n most
  pub none : passed_on back ws n 0 ≡ ws
  pub next : (cells : List ℕ) (m : ℕ) → m < most
      → taken_by cells used back (passed_on back ws n m) n ≡ stepped (passed_on back ws n (m + 1)) (Some (get_or cells (node_cells * node + along back place m) 0))

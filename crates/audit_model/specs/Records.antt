-- The version and walk records: empty and closed ones are 0, live and open ones are descended into, and a walk agrees with its numbers.
use Rattle.std.specs.Prelude.{Bool, true, false, cond, ◌&&◌, ◌||◌, List, ℕ, zero, suc, ◌+◌, ◌-◌, ◌*◌, eqb, leb, ltb, ℤ, pos, negsuc, get_or}
use Rattle.meaning.specs.Limits.{node_cells, max_bits, max_length, walk_levels}
use Rattle.meaning.specs.Lent.{Nodes, VersionRecord, WalkSlices, walk_record}
use Rattle.meaning.specs.Shape.{bucket}
use Rattle.meaning.specs.Trees.{height_of}
use Rattle.audit_model.specs.Descent.{Answer, answer, pick, and_then, visit}

-- test 0 to test (n - 1)
unfoldable pub all_to : (n : ℕ) → (ℕ → Bool) → Bool
all_to zero test = true
all_to (suc n) test = all_to n test && test n

-- the tests from a place up to the end
unfoldable pub all_from : (start end : ℕ) → (ℕ → Bool) → Bool
all_from start end test = all_to end (λ i. ltb i start || test i)

-- ---- versions

unfoldable pub empty_ok : VersionRecord → Bool
empty_ok v = (eqb v.root 0 && eqb v.bits 0) && eqb v.length 0

unfoldable pub legal_ok : VersionRecord → Bool
legal_ok v = ((eqb v.live 1 && leb 1 v.bits) && leb v.bits max_bits) && leb v.length max_length

unfoldable pub version_step : Nodes → VersionRecord → List ℕ → Answer
version_step s v t =
    pick (eqb v.live 0) (answer (empty_ok v) t)
    (pick (legal_ok v) (visit s v.bits (height_of v) v.length v.root t) (answer false t))

-- ---- walks

-- whether a signed number is that one
unfoldable pub is_index : ℤ → (index : ℕ) → Bool
is_index (pos k) i = eqb k i
is_index (negsuc k) i = false

-- place k of a stack holds that node and index
unfoldable pub level_is : (nodes : List ℕ) → (indices : List ℤ) → (stack k node index : ℕ) → Bool
level_is ns is st k n i = eqb (get_or ns (walk_levels * st + k) 0) n && is_index (get_or is (walk_levels * st + k) (pos 0)) i

-- the levels of a stack are the way down from node n of height h to the element at an index
unfoldable pub way_ok : (cells nodes : List ℕ) → (indices : List ℤ) → (stack bits h n index : ℕ) → Bool
way_ok cs ns is st bits zero n index = level_is ns is st 0 n (bucket bits 0 index)
way_ok cs ns is st bits (suc h) n index =
    let b = bucket bits (suc h) index in
    level_is ns is st (suc h) n b && way_ok cs ns is st bits h (get_or cs (node_cells * n + b) 0) index

unfoldable pub blank_from : (nodes : List ℕ) → (indices : List ℤ) → (stack start : ℕ) → Bool
blank_from ns is st start = all_from start walk_levels (λ k. level_is ns is st k 0 0)

unfoldable pub stack_ok : (cells nodes : List ℕ) → (indices : List ℤ) → (stack : ℕ) → VersionRecord → (taken index : ℕ) → Bool
stack_ok cs ns is st v taken index =
    cond (eqb taken 0 || eqb taken v.length) (blank_from ns is st 0)
    (way_ok cs ns is st v.bits (height_of v) v.root index && blank_from ns is st (suc (height_of v)))

-- walk n: no more is taken than there is, and both stacks are right. Of a closed record it says that the rest is 0.
unfoldable pub walk_agrees : (cells : List ℕ) → WalkSlices → (n : ℕ) → Bool
walk_agrees cs w n =
    let r = walk_record w n in
    let v = r.version in
    ((leb r.front v.length && leb r.back (v.length - r.front)) && stack_ok cs w.nodes w.indices (2 * n) v r.front r.front)
    && stack_ok cs w.nodes w.indices (2 * n + 1) v r.back (v.length - 1 - r.back)

unfoldable pub walk_step : Nodes → WalkSlices → (n : ℕ) → List ℕ → Answer
walk_step s w n t = and_then (version_step s (walk_record w n).version t) (answer (walk_agrees s.cells w n))

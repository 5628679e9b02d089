-- A walk's record, read from the lists: what one element taken changes of it, and what it leaves of the others.
use Rattle.std.specs.Prelude.{Some}
use mathlib.Core.Path.{◌≡◌, refl, sym, ◌∙◌}
use mathlib.Core.Logic.{◌≢◌}
use mathlib.Core.Bool.{Bool, true, false}
use mathlib.Core.List.{List}
use Prim.Native.Nat.{ℕ, zero, ◌+◌, ◌*◌, ◌≤◌, ◌<◌}
use native.Mathlib.Nat.{lt_irrefl}
use native.Mathlib.Omega.{arith}
use lib.ListN.{set, length-set}
use lib.Seq.{get_or-set_same, get_or-set_other}
use Rattle.meaning.specs.Limits.{walk_count, walk_levels, walk_numbers}
use Rattle.meaning.specs.Counting.{bit, rows}
use Rattle.meaning.specs.Lent.{Lent, WalkSlices, WalkRecord, Level, level_of, walk_record}
use Rattle.meaning.specs.Trees.{height_of}
use Rattle.meaning.specs.WellFormed.{SizesFit}
use Rattle.level.specs.declared.Levels.{Levels}
use Rattle.levels.specs.Levels.{Taken}
use Rattle.walk.specs.Walk.{slices, levels_of, number_at, version_of_walk, is_ended, stepped, taken_at, stack_at, taken_of, taken_by}
use Rattle.walk_laws.specs.Took.{SlicesFit}
use Rattle.walk_laws.proofs.Places.{taken-sized, taken-outside}
use Rattle.walk_laws.proofs.Seen.{stack_in, stack_same, stack_rows}

-- of a well-formed state
pub slices-fit : (st : Lent) → SizesFit st → SlicesFit st.walks
slices-fit st z = record { numbers = z.walk_numbers; levels = record { nodes = z.walk_nodes; indices = z.walk_indices } }

-- stack q of all
abbrev pub stack_of : Levels → (q : ℕ) → List Level
stack_of w q = stack_in walk_levels w (walk_levels * q)

abbrev pub read_record : WalkSlices → (n : ℕ) → WalkRecord
read_record ws n =
    record {
      version = version_of_walk ws.numbers n;
      front = number_at ws.numbers n 4;
      back = number_at ws.numbers n 5;
      forward = stack_of (levels_of ws) (2 * n + 0);
      backward = stack_of (levels_of ws) (2 * n + 1);
    }

rows_are : (ws : WalkSlices) (q p : ℕ) → q ≡ p → rows walk_levels (level_of ws q) ≡ stack_of (levels_of ws) p
rows_are ws q p e = stack_rows walk_levels (level_of ws q) (levels_of ws) (walk_levels * p) (λ i. rw e)

pub record-read : (ws : WalkSlices) (n : ℕ) → walk_record ws n ≡ read_record ws n
unfolding walk_record version_of_walk
record-read ws n =
    let f : 2 * n ≡ 2 * n + 0 = omega arith in
    rw (rows_are ws (2 * n) (2 * n + 0) f, rows_are ws (2 * n + 1) (2 * n + 1) refl)

-- ---- other records

-- two walks are read alike if their numbers and levels are
pub same_read : (v w : WalkSlices) (n : ℕ) → ((k : ℕ) → k < walk_numbers → number_at v.numbers n k ≡ number_at w.numbers n k)
    → ((q : ℕ) → 2 * n ≤ q → q ≤ 2 * n + 1 → stack_of (levels_of v) q ≡ stack_of (levels_of w) q) → read_record v n ≡ read_record w n
unfolding version_of_walk
same_read v w n f g =
    rw (f 0 (omega arith), f 1 (omega arith), f 2 (omega arith), f 3 (omega arith), f 4 (omega arith), f 5 (omega arith), g (2 * n + 0) (omega arith) (omega arith), g (2 * n + 1) (omega arith) (omega arith))

pub bit-small : (b : Bool) → bit b ≤ 1
bit-small true = omega arith
bit-small false = omega arith

-- ---- one element taken

module _ (cs us : List ℕ) (b : Bool) (ws : WalkSlices) (n : ℕ) (fits : SlicesFit ws) (in-range : n < walk_count) (low : height_of (version_of_walk ws.numbers n) < walk_levels) where
  abbrev pub taken : Taken
  taken = taken_of cs us b ws n

  abbrev pub after : WalkSlices
  after = slices (set ws.numbers (walk_numbers * n + (4 + bit b)) (taken_at ws.numbers n b + 1)) taken.levels.nodes taken.levels.indices

  pub takes : is_ended ws.numbers n ≡ false → taken_by cs us b ws n ≡ stepped after (Some taken.element)
  unfolding taken_by
  takes e = rw e

  pub number-counted : number_at after.numbers n (4 + bit b) ≡ taken_at ws.numbers n b + 1
  number-counted = get_or-set_same ws.numbers (walk_numbers * n + (4 + bit b)) _ 0 (omega (arith, fits.numbers, bit-small b))

  pub number-other : (m k : ℕ) → walk_numbers * m + k ≢ walk_numbers * n + (4 + bit b) → number_at after.numbers m k ≡ number_at ws.numbers m k
  number-other m k ne = get_or-set_other ws.numbers (walk_numbers * n + (4 + bit b)) (walk_numbers * m + k) _ 0 ne

  pub stack-other : (q : ℕ) → q ≢ 2 * n + bit b → stack_of (levels_of after) q ≡ stack_of (levels_of ws) q
  unfolding taken_of
  stack-other q ne =
      stack_same walk_levels (levels_of after) (levels_of ws) (walk_levels * q)
      (λ i l g. taken-outside cs us b (taken_at ws.numbers n b) (version_of_walk ws.numbers n).root (height_of (version_of_walk ws.numbers n)) (levels_of ws) (stack_at n b) i
      (λ j a c e. ne (omega (arith, low))))

  pub version-kept : version_of_walk after.numbers n ≡ version_of_walk ws.numbers n
  unfolding version_of_walk
  version-kept =
      rw (number-other n 0 (λ e. lt_irrefl zero (omega arith)), number-other n 1 (λ e. lt_irrefl zero (omega arith)), number-other n 2 (λ e. lt_irrefl zero (omega arith)), number-other n 3 (λ e. lt_irrefl zero (omega arith)))

  pub others-kept : (m : ℕ) → m ≢ n → walk_record after m ≡ walk_record ws m
  others-kept m ne =
      record-read after m
      ∙ (same_read after ws m (λ k l. number-other m k (λ e. ne (omega (arith, bit-small b)))) (λ q l g. stack-other q (λ e. ne (omega (arith, bit-small b))))
      ∙ sym (record-read ws m))

  pub sizes-kept : SlicesFit after
  unfolding taken_of
  sizes-kept =
      record {
        numbers = length-set ws.numbers (walk_numbers * n + (4 + bit b)) _ ∙ fits.numbers;
        levels = taken-sized cs us b (taken_at ws.numbers n b) (version_of_walk ws.numbers n).root (height_of (version_of_walk ws.numbers n)) (levels_of ws) (stack_at n b) fits.levels;
      }

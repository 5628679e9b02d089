-- The promises of `open` and `close`: an opened walk has the whole version left, a closed one has a record of zeros, and no other walk is touched.
use mathlib.Core.Path.{◌≡◌, refl, sym, ap, ap₂, ◌∙◌}
use mathlib.Core.Logic.{◌≢◌, ⊎_elim}
use mathlib.Core.List.{List, ◌∷◌}
use Prim.Native.Nat.{ℕ, zero, suc, ◌+◌, ◌-◌, ◌*◌, ◌≤◌, ◌<◌}
use native.Mathlib.Nat.{lt_irrefl, eq-or-lt_of_le}
use native.Mathlib.Omega.{arith}
use lib.ListN.{replicate}
use lib.Seq.{take_all}
use Rattle.meaning.specs.Limits.{walk_count, walk_levels, places}
use Rattle.meaning.specs.Lent.{Nodes, VersionRecord, empty_record, Level, no_level, WalkSlices, WalkRecord, closed_record, walk_record}
use Rattle.meaning.specs.Trees.{contents}
use Rattle.meaning.specs.Walks.{stack, padded, forward_stack, backward_stack}
use Rattle.meaning.specs.WellFormed.{Live, Open}
use Rattle.meaning.specs.Table.{taking}
use Rattle.meaning.specs.Stands.{left_between}
use Rattle.lookup.proofs.Found.{contents-length}
use Rattle.level.specs.declared.Levels.{Levels}
use Rattle.level.specs.Level.{popped}
use Rattle.walk.specs.Walk.{levels_of, open_record, opened, cleared_from, closed}
use Rattle.walk_laws.specs.Took.{LevelsFit, SlicesFit, Opened, Closed}
use Rattle.walk_laws.proofs.Places.{level_in, Outside, put-here, put_other, put-sized, popped-put}
use Rattle.walk_laws.proofs.Seen.{stack_in, stack_same}
use Rattle.walk_laws.proofs.Records.{stack_of, read_record, record-read, same_read}
use Rattle.walk_laws.proofs.Stored.{stored-far, stored-length, stored-version, stored-front, stored_back}
use Rattle.walk_laws.proofs.Takes.{left_is}

-- ---- opening

module _ (s : Nodes) (ws : WalkSlices) (n : ℕ) (v : VersionRecord) (fits : SlicesFit ws) (in-range : n < walk_count) (live : Live s v) (is : walk_record ws n ≡ closed_record) where
  abbrev fresh : WalkRecord
  fresh = record { version = v; front = 0; back = 0; forward = replicate walk_levels no_level; backward = replicate walk_levels no_level }

  fresh-open : Open s fresh
  unfolding forward_stack backward_stack stack padded
  fresh-open = record { version = live; taken = omega arith; forward = refl; backward = refl }

  live-again : open_record v ≡ v
  live-again = rw (← live.live)

  bare : read_record ws n ≡ closed_record
  bare = sym (record-read ws n) ∙ is

  opened-read : walk_record (opened ws n v) n ≡ fresh
  unfolding opened
  opened-read =
      record-read (opened ws n v) n
      ∙ rw (
        stored-version ws.numbers n (open_record v) fits.numbers in-range,
        stored-front ws.numbers n (open_record v) fits.numbers in-range,
        stored_back ws.numbers n (open_record v) fits.numbers in-range,
        ap (λ (w : WalkRecord). w.forward) bare,
        ap (λ (w : WalkRecord). w.backward) bare,
        live-again,
      )

  whole : left_between 0 0 v.length (contents s v) ≡ contents s v
  unfolding left_between
  whole = let z : v.length - 0 - 0 ≡ v.length = omega arith in rw z (take_all v.length (contents s v) (omega (arith, contents-length s v)))

  pub open-takes : Opened s v ws n (opened ws n v)
  unfolding opened
  open-takes =
      record {
        legal = rw opened-read fresh-open;
        walk = rw opened-read (left_is s fresh live.live ∙ ap taking whole);
        others = λ m ne. record-read (opened ws n v) m ∙ (same_read (opened ws n v) ws m (λ k l. stored-far ws.numbers n (open_record v) m k ne l) (λ q a c. refl) ∙ sym (record-read ws m));
        sizes = record { numbers = stored-length ws.numbers n (open_record v) fits.numbers in-range; levels = fits.levels };
      }

-- ---- closing

cleared-sized : (c : ℕ) (w : Levels) (k : ℕ) → LevelsFit w → LevelsFit (cleared_from c w k)
unfolding cleared_from
cleared-sized zero w k z = z
cleared-sized (suc c) w k z = cleared-sized c (popped w k) (k + 1) (rw (popped-put w k) (put-sized w k no_level z))

cleared-outside : (c : ℕ) (w : Levels) (k i : ℕ) → Outside k c i → level_in (cleared_from c w k) i ≡ level_in w i
unfolding cleared_from
cleared-outside zero w k i o = refl
cleared-outside (suc c) w k i o =
    cleared-outside c (popped w k) (k + 1) i (λ j a e. o j (omega arith) (omega arith)) ∙ rw (popped-put w k) (put_other w k i no_level (o k (omega arith) (omega arith)))

cleared-inside : (c : ℕ) (w : Levels) (k i : ℕ) → LevelsFit w → k + c ≤ places → k ≤ i → i < k + c → level_in (cleared_from c w k) i ≡ no_level
unfolding cleared_from
cleared-inside zero w k i z r l g = absurd (lt_irrefl zero (omega arith))
cleared-inside (suc c) w k i z r l g =
    let zp : LevelsFit (popped w k) = rw (popped-put w k) (put-sized w k no_level z) in
    ⊎_elim
    (λ e. cleared-outside c (popped w k) (k + 1) i (λ j a b f. lt_irrefl zero (omega arith)) ∙ rw (← e, popped-put w k) (put-here w k no_level z (omega arith)))
    (λ h. cleared-inside c (popped w k) (k + 1) i zp (omega arith) (omega arith) (omega arith))
    (eq-or-lt_of_le l)

stack-blank : (m : ℕ) (w : Levels) (k : ℕ) → ((i : ℕ) → k ≤ i → i < k + m → level_in w i ≡ no_level) → stack_in m w k ≡ replicate m no_level
unfolding stack_in
stack-blank zero w k h = refl
stack-blank (suc m) w k h =
    ap₂ (λ (l : Level) (ls : List Level). l ∷ ls) (h k (omega arith) (omega arith)) (stack-blank m w (k + 1) (λ i a c. h i (omega arith) (omega arith)))

module _ (ws : WalkSlices) (n : ℕ) (fits : SlicesFit ws) (in-range : n < walk_count) where
  stack-cleared : (q : ℕ) → 2 * n ≤ q → q ≤ 2 * n + 1 → stack_of (levels_of (closed ws n)) q ≡ replicate walk_levels no_level
  unfolding closed
  stack-cleared q a c =
      stack-blank walk_levels _ (walk_levels * q) (λ i l g. cleared-inside (2 * walk_levels) (levels_of ws) (2 * walk_levels * n) i fits.levels (omega arith) (omega arith) (omega arith))

  stack-left : (m q : ℕ) → m ≢ n → 2 * m ≤ q → q ≤ 2 * m + 1 → stack_of (levels_of (closed ws n)) q ≡ stack_of (levels_of ws) q
  unfolding closed
  stack-left m q ne a c =
      stack_same walk_levels _ (levels_of ws) (walk_levels * q) (λ i l g. cleared-outside (2 * walk_levels) (levels_of ws) (2 * walk_levels * n) i (λ j d e f. ne (omega arith)))

  pub close-clears : Closed ws n (closed ws n)
  unfolding closed
  close-clears =
      record {
        record_is =
            record-read (closed ws n) n
            ∙ rw (
              stored-version ws.numbers n empty_record fits.numbers in-range,
              stored-front ws.numbers n empty_record fits.numbers in-range,
              stored_back ws.numbers n empty_record fits.numbers in-range,
              stack-cleared (2 * n + 0) (omega arith) (omega arith),
              stack-cleared (2 * n + 1) (omega arith) (omega arith),
            );
        others = λ m ne. record-read (closed ws n) m ∙ (same_read (closed ws n) ws m (λ k l. stored-far ws.numbers n empty_record m k ne l) (λ q a c. stack-left m q ne a c) ∙ sym (record-read ws m));
        sizes = record { numbers = stored-length ws.numbers n empty_record fits.numbers in-range; levels = cleared-sized (2 * walk_levels) (levels_of ws) (2 * walk_levels * n) fits.levels };
      }

-- A running state meets what a turn of the code requires.
use mathlib.Core.Path.{◌≡◌, refl, ap}
use mathlib.Core.Logic.{◌≢◌, ◌⊎◌, inl, inr}
use mathlib.Core.Bool.{Bool, true, false, cond, ◌&&◌, false≢true}
use Prim.Native.Nat.{ℕ}
use native.Mathlib.Decide.{ℕ_discrete}
use native.Mathlib.Omega.{arith}
use lib.Dec.{ltb, eqb}
use lib.ListN.{get_or}
use borrow.Author.Tests.{ne_eqb}
use Rattle.meaning.specs.Limits.{parties, party_walks, open_walk_code, next_code, next_back_code, close_walk_code, compare_code}
use Rattle.meaning.specs.Lent.{VersionRecord, closed_record, walk_record}
use Rattle.meaning.specs.WellFormed.{Live, Open}
use Rattle.meaning.specs.Frames.{Frame}
use Rattle.meaning.specs.Operations.{Op, Role, unused, source, filled, walked, opened, owner, bits, position, element, operations, unknown, op_of, anyone, uses, owner_or, giver, taker}
use Rattle.shape.specs.Legal.{Legal}
use Rattle.sweep.specs.Ready.{Releasable}
use Rattle.walk.specs.Walk.{number_at, version_of_walk, Walkable}
use Rattle.frames.specs.Run.{Run, source_in, target_in, walk_place, walk_in, seen_in}
use Rattle.edits.specs.Edits.{Able}
use Rattle.calls.specs.Reads.{is_source, sourced}
use Rattle.calls.specs.Walks.{used_place, OnWalk}
use Rattle.calls.specs.Calls.{is_walk, Sources}
use Rattle.turns.specs.Turns.{is_open_at, standing_in, Turnable}
use Rattle.able.proofs.Calls.{steady, linkable, root-releasable, set-able, push-able, drop-able}
use Rattle.serving.specs.States.{Runs}
use Rattle.serving.specs.Passed.{Entered}
use Rattle.serving.proofs.Seeing.{walk_here, version-legal, live-is}
use Rattle.serving.proofs.Passing.{entered, giver-below}
use Rattle.serving.proofs.Sources.{source-live, other-lives, walked-within, walked-open}

-- ---- what the code looks at is what the model looks at

open-seen : (r : Run) (p n : ℕ) → is_open_at r.walks.numbers p n ≡ eqb (walk_in r p n).version.live 1
unfolding walk_in walk_record
open-seen r p n = pick (ltb p parties && ltb n party_walks)
  where
    pick : (b : Bool) → cond b (eqb (number_at r.walks.numbers (walk_place p n) 0) 1) false ≡ eqb (cond b (walk_record r.walks (walk_place p n)) closed_record).version.live 1
    pick true = refl
    pick false = refl

pub standing-seen : (r : Run) (f : Frame) → standing_in r.walks f (source_in r f) (target_in r f) ≡ (seen_in r f).standing
unfolding standing_in seen_in
standing-seen r f = rw (open-seen r (giver f) f.slot, open-seen r (taker f) f.destination)

-- ---- an operation by its number

op-is : (f : Frame) (n : ℕ) → f.operation ≡ n → op_of f ≡ get_or operations n unknown
unfolding op_of
op-is f n e = ap (λ (m : ℕ). get_or operations m unknown) e

source-role : (o : Role) → is_source o ≡ true → o ≡ source
unfolding is_source
source-role source e = refl
source-role unused e = absurd (false≢true e)
source-role filled e = absurd (false≢true e)
source-role walked e = absurd (false≢true e)
source-role opened e = absurd (false≢true e)
source-role owner e = absurd (false≢true e)
source-role bits e = absurd (false≢true e)
source-role position e = absurd (false≢true e)
source-role element e = absurd (false≢true e)

sourced-role : (f : Frame) → sourced f.operation ≡ true → (uses (op_of f)).slot ≡ source
unfolding sourced op_of
sourced-role f e = source-role _ e

-- a walk that does not open or close takes an element
takes : (n : ℕ) → is_walk n ≡ true → n ≢ open_walk_code → n ≢ close_walk_code → (n ≡ next_code) ⊎ (n ≡ next_back_code)
takes n w o c = pick (ℕ_discrete n next_code) (ℕ_discrete n next_back_code)
  where
    pick : Dec (n ≡ next_code) → Dec (n ≡ next_back_code) → (n ≡ next_code) ⊎ (n ≡ next_back_code)
    pick (yes e) d = inl e
    pick (no a) (yes e) = inr e
    pick (no a) (no b) = absurd (false≢true (rw (ne_eqb n next_code a, ne_eqb n next_back_code b, ne_eqb n open_walk_code o, ne_eqb n close_walk_code c) at w))

-- a walk of the caller's own
record OnOwnWalk (o : Op) : Type 0 where
  slot : (uses o).slot ≡ walked
  index : (uses o).index ≡ unused

own-walk : (f : Frame) (n : ℕ) → f.operation ≡ n → OnOwnWalk (get_or operations n unknown) → OnOwnWalk (op_of f)
own-walk f n e h = rw (op-is f n e) h

module _ (r : Run) (f : Frame) (k : Runs r) where
  able : (v : VersionRecord) → Live r.store.nodes v → Able r.store v
  able v l = record {
    legal = record { bits = l.bits; length = l.length };
    link = linkable r.store r.versions r.walks k v l;
    release = root-releasable r.store r.versions r.walks k v l;
    set = set-able r.store r.versions r.walks k v l;
    push = push-able r.store r.versions r.walks k v l;
    drop = drop-able r.store r.versions r.walks k v l;
  }

  module _ (p : Entered (op_of f) f (seen_in r f).standing) where
    -- ---- the versions

    other-legal : (uses (op_of f)).destination ≡ source → Legal (target_in r f).bits (target_in r f).length
    other-legal e =
        let l = live-is r.store.nodes (version-legal r (taker f) f.destination k) (other-lives (op_of f) r f k p e) in
        record { bits = l.bits; length = l.length }

    compared : f.operation ≡ compare_code → (uses (op_of f)).destination ≡ source
    unfolding operations uses anyone
    compared e = rw (op-is f compare_code e)

    sources : Sources r.store f (source_in r f) (target_in r f)
    sources = record {
      few = omega arith;
      steady = steady r.store r.versions r.walks k;
      source = λ e. able (source_in r f) (source-live (op_of f) r f k p (sourced-role f e));
      other = λ e. other-legal (compared e);
    }

    -- ---- the walks

    module _ (w : OnOwnWalk (op_of f)) where
      giver-own : giver f ≡ f.party
      unfolding giver owner_or
      giver-own = rw w.index

      used-is : used_place f ≡ walk_place (giver f) f.slot
      used-is = omega (arith, giver-own, giver-below f _ p, walked-within (op_of f) r f k p w.slot)

      used-open : Open r.store.nodes (walk_record r.walks (used_place f))
      used-open = rw (used-is, ← walk_here r (giver f) f.slot (giver-below f _ p) (walked-within (op_of f) r f k p w.slot)) (walked-open (op_of f) r f k p w.slot)

      used-releasable : Releasable r.store (version_of_walk r.walks.numbers (used_place f)).root
      unfolding version_of_walk walk_record
      used-releasable = root-releasable r.store r.versions r.walks k (walk_record r.walks (used_place f)).version used-open.version

      used-walkable : Walkable r.walks.numbers (used_place f)
      unfolding walk_record
      used-walkable = record {
        walk = omega (arith, giver-below f _ p, walked-within (op_of f) r f k p w.slot, used-is);
        legal = record { bits = used-open.version.bits; length = used-open.version.length };
        taken = used-open.taken;
      }

    opens : f.operation ≡ open_walk_code → (uses (op_of f)).slot ≡ source
    unfolding operations uses anyone
    opens e = rw (op-is f open_walk_code e)

    closes : f.operation ≡ close_walk_code → OnOwnWalk (op_of f)
    unfolding operations uses anyone
    closes e = own-walk f close_walk_code e (record { slot = refl; index = refl })

    steps : (f.operation ≡ next_code) ⊎ (f.operation ≡ next_back_code) → OnOwnWalk (op_of f)
    unfolding operations uses anyone
    steps (inl e) = own-walk f next_code e (record { slot = refl; index = refl })
    steps (inr e) = own-walk f next_back_code e (record { slot = refl; index = refl })

    on-walk : is_walk f.operation ≡ true → OnWalk r.store r.walks f (source_in r f)
    on-walk e = record {
      opening = λ o. linkable r.store r.versions r.walks k (source_in r f) (source-live (op_of f) r f k p (opens o));
      closing = λ c. used-releasable (closes c);
      taking = λ o c. used-walkable (steps (takes f.operation e o c));
    }

pub turn-able : (r : Run) (f : Frame) → Runs r → Turnable r.store r.walks f (source_in r f) (target_in r f)
turn-able r f k e =
    let p = entered (op_of f) f (seen_in r f).standing (rw (standing-seen r f) at e) in
    record { sources = sources r f k p; walks = on-walk r f k p }

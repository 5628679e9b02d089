-- A running state meets what every call on one of its live versions requires: none of them needs more than this to be made.
use mathlib.Core.Path.{◌≡◌}
use mathlib.Core.Logic.{◌≢◌}
use mathlib.Core.Bool.{Bool, true, false, cond}
use mathlib.Core.List.{List, [], ◌∷◌, map}
use Prim.Native.Nat.{ℕ, suc, ◌+◌, ◌-◌, ◌*◌, ◌^◌, ◌≤◌}
use native.Mathlib.Nat.{mod-le, le_trans}
use native.Mathlib.Omega.{arith}
use lib.Dec.{eqb}
use lib.ListN.{length, length-append, length-map}
use Rattle.meaning.specs.Limits.{node_cells, walk_levels, free_kind, parties, party_walks}
use Rattle.meaning.specs.Lent.{kind_of, VersionRecord, WalkSlices, WalkRecord, Lent, walk_record, walk_records}
use Rattle.meaning.specs.Shape.{degree}
use Rattle.meaning.specs.Trees.{height_of}
use Rattle.meaning.specs.Links.{live_roots, roots}
use Rattle.meaning.specs.WellFormed.{Live}
use Rattle.meaning.proofs.Reaching.{shaped-used}
use Rattle.meaning.proofs.Rows.{rows-length}
use Rattle.meaning.proofs.Nodes.{used-inside}
use Rattle.store.specs.Store.{Store}
use Rattle.sweep.specs.Ready.{Releasable}
use Rattle.ledger.proofs.Ready.{order_below, counts-room, releasable}
use Rattle.shape.specs.Legal.{Legal}
use Rattle.shape.proofs.Capacity.{full-exactly, height-holds}
use Rattle.vector.specs.Ready.{Linkable, Steady, Editable, SetWay, PushWay, DropWay}
use Rattle.trees.specs.Elements.{inside}
use Rattle.trees.proofs.Digits.{inside_is}
use Rattle.upkeep.specs.Running.{state_of, Running}
use Rattle.able.proofs.Ways.{way-found, way-beyond, way-last}

-- ---- at most 80 links from slots and walks

live-few : (vs : List VersionRecord) → length (live_roots vs) ≤ length vs
unfolding live_roots
live-few [] = omega arith
live-few (v ∷ vs) = pick (eqb v.live 1) (live-few vs)
  where
    pick : (b : Bool) → length (live_roots vs) ≤ length vs → length (cond b (v.root ∷ live_roots vs) (live_roots vs)) ≤ suc (length vs)
    pick true l = omega arith
    pick false l = omega arith

walks-sixteen : (s : Lent) → length (walk_records s) ≡ parties * party_walks
unfolding walk_records
walks-sixteen s = rows-length (parties * party_walks) (walk_record s.walks)

module _ (s : Store) (vs : List VersionRecord) (ws : WalkSlices) (r : Running s vs ws) where
  pub roots_few : length (roots (state_of s vs ws)) ≤ 80
  unfolding roots
  roots_few =
      let walked = map (λ (w : WalkRecord). w.version) (walk_records (state_of s vs ws)) in
      rw length-append
      (omega (arith, live-few vs, live-few walked, length-map (walk_records (state_of s vs ws)) (λ (w : WalkRecord). w.version), walks-sixteen (state_of s vs ws), r.fits.versions))

  pub steady : Steady s
  steady = record {
    sized = r.kept.sized;
    most = r.kept.room;
    free = order_below r.kept;
    room = counts-room r.kept r.fits.most (omega (arith, roots_few)) (node_cells * suc walk_levels) (omega arith);
  }

  module _ (v : VersionRecord) (live : Live s.nodes v) where
    legal : Legal v.bits v.length
    legal = record { bits = live.bits; length = live.length }

    root-used : kind_of s.nodes v.root ≢ free_kind
    root-used = shaped-used s.nodes v.bits (height_of v) v.length v.root live.shape

    pub linkable : Linkable s.counts v.root
    linkable = record {
      below = omega (arith, used-inside s.nodes v.root root-used, r.kept.sized.counts);
      room = counts-room r.kept r.fits.most (omega (arith, roots_few)) 1 (omega arith);
    }

    pub root-releasable : Releasable s v.root
    root-releasable = releasable r.kept v.root root-used

    to-index : (i : ℕ) → i ≤ v.length → inside v.bits (height_of v) i ≤ v.length
    to-index i l = le_trans (mod-le i (degree v.bits ^ suc (height_of v))) l

    pub set-able : (i : ℕ) → Editable s v (SetWay s v i)
    set-able i = record {
      legal = legal;
      steady = steady;
      way = λ l. way-found s v.bits (height_of v) true v.length v.root i live.bits r.kept.sized live.shape (to-index i (omega arith));
    }

    pub push-able : Editable s v (PushWay s v)
    push-able = record {
      legal = legal;
      steady = steady;
      way = record {
        within = λ l f. way-found s v.bits (height_of v) true v.length v.root v.length live.bits r.kept.sized live.shape (to-index v.length (omega arith));
        beyond = λ l e. way-beyond s v.bits (height_of v) v.root v.length live.bits r.kept.sized root-used ((full-exactly v.bits v.length).0 e);
      };
    }

    pub drop-able : Editable s v (DropWay s v)
    drop-able = record {
      legal = legal;
      steady = steady;
      way = λ l.
          let holds = height-holds v.bits v.length live.bits.least (omega (arith, live.length)) in
          let at : inside v.bits (height_of v) (v.length - 1) ≡ v.length - 1 = inside_is v.bits (height_of v) (v.length - 1) (omega arith) in
          let whole : inside v.bits (height_of v) (v.length - 1) + 1 ≡ v.length = omega arith in
          way-last s v.bits (height_of v) v.root (v.length - 1) live.bits r.kept.sized (rw whole live.shape);
    }

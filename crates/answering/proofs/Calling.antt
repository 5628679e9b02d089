-- A turn that is refused, that only answers, that fills or empties a slot.
use mathlib.Core.Path.{◌≡◌, sym, ap}
use Prim.Native.Nat.{ℕ, suc, ◌-◌, ◌<◌}
use native.Mathlib.Nat.{mod-eq_of_lt}
use native.Mathlib.Omega.{arith}
use lib.Dec.{ltb}
use mathlib.Core.Bool.{false}
use lib.ListN.{set}
use lib.Seq.{set-get_or}
use borrow.Author.Tests.{le-ltb}
use Rattle.meaning.specs.Limits.{parties, party_slots, party_walks}
use Rattle.meaning.specs.Lent.{VersionRecord, empty_record}
use Rattle.meaning.specs.Frames.{Frame}
use Rattle.meaning.specs.Operations.{taker}
use Rattle.meaning.specs.Serve.{refused}
use Rattle.paths.specs.Edits.{Edit, share_edit}
use Rattle.vector.specs.Calls as vector
use Rattle.vector.specs.declared.Refused.TheVariants.{BadBits, NothingThere, Full, NoNodes}
use Rattle.frames.specs.Run.{Run, slot_place, walk_place}
use Rattle.frames.specs.Serve.{Served, answers, fills, fresh_in, respond}
use Rattle.served.specs.Acted.{edited}
use Rattle.edits.specs.Edits.{valued, shared_act}
use Rattle.calls.specs.Walks.{acted}
use Rattle.calls.specs.Walks as walks
use Rattle.calls.specs.Calls.{with_walks}
use Rattle.turns.specs.Turns.{place_of}
use Rattle.answering.specs.Turned.{changed_place, old_in, turned}

-- ---- places

pub place_here : (p n : ℕ) → p < parties → n < party_slots → place_of p n ≡ slot_place p n
place_here p n a b = rw (mod-eq_of_lt a, mod-eq_of_lt b)

pub walk-place-here : (p n : ℕ) → p < parties → n < party_walks → walks.place_of p n ≡ walk_place p n
walk-place-here p n a b = rw (mod-eq_of_lt a, mod-eq_of_lt b)

-- ---- any turn

pub no-charge : (free : ℕ) → ltb free 0 ≡ false
no-charge free = le-ltb free 0 (omega arith)

module _ (r : Run) (f : Frame) where
  pub stays : set r.versions (changed_place f) (old_in r f) ≡ r.versions
  stays = set-get_or r.versions (changed_place f) empty_record

  module _ (d : Served) where
    pub refuses : (n : ℕ) → respond (suc n) r d ≡ turned r f (with_walks (acted r.store (old_in r f) (refused (suc n))) r.walks)
    unfolding respond
    refuses n = rw stays

    pub only-answers : (x : ℕ) → d ≡ answers r x → respond 0 r d ≡ turned r f (with_walks (acted r.store (old_in r f) (valued x)) r.walks)
    unfolding respond fresh_in
    only-answers x e = let none : r.store.free - r.store.free ≡ 0 = omega arith in rw (e, stays, none)

    -- ---- a call of the vector that refuses

    pub bad-bits : respond 7 r d ≡ turned r f (with_walks (edited (old_in r f) (vector.refused r.store BadBits)) r.walks)
    unfolding edited refused
    bad-bits = refuses 6

    pub nothing-there : respond 8 r d ≡ turned r f (with_walks (edited (old_in r f) (vector.refused r.store NothingThere)) r.walks)
    unfolding edited refused
    nothing-there = refuses 7

    pub full : respond 9 r d ≡ turned r f (with_walks (edited (old_in r f) (vector.refused r.store Full)) r.walks)
    unfolding edited refused
    full = refuses 8

    pub no-nodes : respond 10 r d ≡ turned r f (with_walks (edited (old_in r f) (vector.refused r.store NoNodes)) r.walks)
    unfolding edited refused
    no-nodes = refuses 9

    -- ---- and one that is done

    module _ (here : changed_place f ≡ slot_place (taker f) f.destination) where
      pub call-fills : (e : Edit) → d ≡ fills r f e → e.version.live ≡ 1 → r.store.free - e.store.free < 256
          → respond 0 r d ≡ turned r f (with_walks (edited (old_in r f) (vector.done r.store.free e)) r.walks)
      unfolding respond fills fresh_in edited
      call-fills e h live small =
          let version : record { live = 1; root = e.version.root; bits = e.version.bits; length = e.version.length } ≡ e.version =
          ap (λ (n : ℕ). record { live = n; root = e.version.root; bits = e.version.bits; length = e.version.length }) (sym live) in
          rw (h, here, version, mod-eq_of_lt small)

      pub share-fills : (v : VersionRecord) → d ≡ fills r f (share_edit r.store v) → respond 0 r d ≡ turned r f (with_walks (shared_act r.store v) r.walks)
      unfolding respond fills fresh_in shared_act share_edit
      share-fills v h = let none : r.store.free - r.store.free ≡ 0 = omega arith in rw (h, here, none)

-- Length, get, first, last, compare and free nodes: nothing changes but the answer.
use mathlib.Core.Path.{◌≡◌, refl, sym, ◌∙◌}
use mathlib.Core.Logic.{◌≢◌}
use Prim.Native.Nat.{ℕ, ◌-◌, ◌<◌}
use native.Mathlib.Omega.{arith}
use lib.ListN.{get_or, set}
use lib.Seq.{set-get_or}
use borrow.Author.Tests.{leb-false, eqb-false}
use Rattle.meaning.specs.Lent.{VersionRecord}
use Rattle.meaning.specs.Trees.{height_of, contents}
use Rattle.meaning.specs.Table.{fresh_party, party_at, slot_at, version}
use Rattle.meaning.specs.Frames.{Frame}
use Rattle.meaning.specs.Operations.{Op, len, get, free_nodes, first, last, compare, unknown, anyone, host_alone, uses, taker}
use Rattle.meaning.specs.Costs.{plain, priced, cost}
use Rattle.meaning.specs.Checks.{nothing_there}
use Rattle.meaning.specs.Effects.{first_item, last_item, effect}
use Rattle.lookup.proofs.Found.{element-in, contents-length, contents-at}
use Rattle.frames.specs.Run.{Run, source_in, target_in, seen_in, supply_in}
use Rattle.frames.specs.Serve.{answers, item_at, done, fresh_in}
use Rattle.serving.specs.States.{Runs, table_in}
use Rattle.serving.specs.Passed.{Passed}
use Rattle.serving.specs.Does.{taker_in, effect_on, Does}
use Rattle.serving.proofs.Seeing.{slot_seen, version-seen}
use Rattle.serving.proofs.Sources.{source_is, other-lives}

-- ---- any answer

module _ (r : Run) (f : Frame) (k : Runs r) where
  same-table : table_in r ≡ set (table_in r) (taker f) (taker_in r f)
  unfolding party_at
  same-table = sym (set-get_or (table_in r) (taker f) fresh_party)

  same-fresh : fresh_in r r ≡ 0
  unfolding fresh_in
  same-fresh = omega arith

  reads : (o : Op) (x : ℕ) → done o r f ≡ answers r x → effect_on o r f ≡ (taker_in r f, x) → (cost o (seen_in r f).bits (seen_in r f).length).fresh ≡ 0 → Does o r f
  reads o x h e c = record {
    runs = rw h k;
    table = rw (h, e) same-table;
    value = rw (h, e);
    fresh = rw (h, c) same-fresh;
    falls = λ _ _. rw h (omega arith);
  }

  item-is : (v : VersionRecord) (i : ℕ) → i < v.length → item_at r v i ≡ get_or (contents r.store.nodes v) i 0
  unfolding item_at
  item-is v i l = sym (element-in r.store.nodes v.bits (height_of v) v.root i) ∙ contents-at r.store.nodes v i l

  -- ---- each operation

  pub len-does : Passed len (supply_in r) f (seen_in r f) → Does len r f
  unfolding uses anyone done effect cost priced plain
  len-does p = reads len (source_in r f).length refl (rw (source_is len r f k p.entered refl, contents-length r.store.nodes (source_in r f))) refl

  pub get-does : Passed get (supply_in r) f (seen_in r f) → Does get r f
  unfolding uses anyone done effect cost priced plain nothing_there seen_in
  get-does p =
      let v : VersionRecord = source_in r f in
      reads get (item_at r v f.index) refl (rw (source_is get r f k p.entered refl, item-is v f.index (leb-false v.length f.index p.there))) refl

  pub first_does : Passed first (supply_in r) f (seen_in r f) → Does first r f
  unfolding uses anyone done effect cost priced plain nothing_there seen_in first_item
  first_does p =
      let v : VersionRecord = source_in r f in
      let some : v.length ≢ 0 = eqb-false v.length 0 p.there in
      reads first (item_at r v 0) refl (rw (source_is first r f k p.entered refl, item-is v 0 (omega arith))) refl

  pub last-does : Passed last (supply_in r) f (seen_in r f) → Does last r f
  unfolding uses anyone done effect cost priced plain nothing_there seen_in last_item
  last-does p =
      let v : VersionRecord = source_in r f in
      let some : v.length ≢ 0 = eqb-false v.length 0 p.there in
      reads last (item_at r v (v.length - 1)) refl
      (rw (source_is last r f k p.entered refl, contents-length r.store.nodes v, item-is v (v.length - 1) (omega arith))) refl

  pub compare-does : Passed compare (supply_in r) f (seen_in r f) → Does compare r f
  unfolding uses anyone done effect cost priced plain
  compare-does p =
      let other : version (slot_at (taker_in r f) f.destination) ≡ record { bits = (target_in r f).bits; items = contents r.store.nodes (target_in r f) } =
      rw (slot_seen r (taker f) f.destination) (version-seen r.store.nodes (target_in r f) (other-lives compare r f k p.entered refl)) in
      reads compare _ refl (rw (source_is compare r f k p.entered refl, other)) refl

  pub free-nodes-does : Does free_nodes r f
  unfolding uses anyone host_alone done effect cost priced plain
  free-nodes-does = reads free_nodes r.store.free refl refl refl

  pub unknown-does : Does unknown r f
  unfolding uses anyone host_alone done effect cost priced plain
  unknown-does = reads unknown 0 refl refl refl

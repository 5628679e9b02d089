-- What the state stands for after a slot was filled or emptied: the plain table with that one slot changed.
use mathlib.Core.Path.{◌≡◌, refl, ap, ◌∙◌}
use mathlib.Core.Logic.{◌≢◌, inl}
use mathlib.Core.List.{List}
use Prim.Native.Nat.{ℕ, ◌+◌, ◌*◌, ◌<◌}
use native.Mathlib.Omega.{arith}
use lib.ListN.{length, get_or, set}
use lib.Seq.{get_or-set_same, get_or-set_other}
use Rattle.meaning.specs.Limits.{parties, party_slots, party_walks}
use Rattle.meaning.specs.Lent.{VersionRecord, empty_record, WalkSlices, walk_record, walk_records}
use Rattle.meaning.specs.WellFormed.{LegalVersion, LegalWalk}
use Rattle.meaning.specs.Table.{empty, live, party_at, put_slot}
use Rattle.meaning.specs.Stands.{slot_of, table_of}
use Rattle.meaning.proofs.Lists.{each-getD, each_row}
use Rattle.store.specs.Store.{Store}
use Rattle.sweep.specs.Sweep.{release}
use Rattle.paths.specs.Edits.{Edit}
use Rattle.trees.specs.Agreeing.{RecordsStay}
use Rattle.trees.specs.Edited.{Edited}
use Rattle.upkeep.specs.Running.{state_of, Running}
use Rattle.upkeep.proofs.Filling.{extended-stays}
use Rattle.upkeep.proofs.Emptying.{emptied-stays}
use Rattle.upkeep.proofs.Tables.{slot-stays, walk-stays, SlotsAgree, WalksAgree, nowhere, table-slot}

module _ (s : Store) (vs : List VersionRecord) (ws : WalkSlices) (r : Running s vs ws) where
  pub legal-at : (i : ℕ) → LegalVersion s.nodes (get_or vs i empty_record)
  legal-at i = each-getD (LegalVersion s.nodes) vs i empty_record r.versions (inl refl)

  pub legal-walk : (i : ℕ) → i < parties * party_walks → LegalWalk s.nodes (walk_record ws i)
  unfolding walk_records
  legal-walk i l = each_row (LegalWalk s.nodes) (parties * party_walks) (walk_record ws) r.walks i l

module _ (s : Store) (vs : List VersionRecord) (ws : WalkSlices) (r : Running s vs ws) (p n : ℕ) (lp : p < parties) (ln : n < party_slots)
    (vacant : (get_or vs (party_slots * p + n) empty_record).live ≢ 1) (fresh k : ℕ) (items : List ℕ) (e : Edit) (d : Edited s fresh k items e) where
  inside : party_slots * p + n < length vs
  inside = omega (arith, r.fits.versions)

  filled-slots : SlotsAgree (state_of s vs ws) (state_of e.store (set vs (party_slots * p + n) e.version) ws) (party_slots * p + n)
  filled-slots q m lq lm f =
      rw (get_or-set_other vs (party_slots * p + n) (party_slots * q + m) e.version empty_record f)
      (slot-stays s.nodes e.store.nodes (state_of s vs ws) (extended-stays r d.extends) q m)

  filled-walks : WalksAgree (state_of s vs ws) (state_of e.store (set vs (party_slots * p + n) e.version) ws) nowhere
  filled-walks q m lq lm f = walk-stays s.nodes e.store.nodes (state_of s vs ws) (extended-stays r d.extends) q m lq lm

  here : slot_of e.store.nodes (get_or (set vs (party_slots * p + n) e.version) (party_slots * p + n) empty_record) ≡ live (record { bits = e.version.bits; items = items })
  unfolding slot_of
  here = rw (get_or-set_same vs (party_slots * p + n) e.version empty_record inside, d.holds, d.live.live)

  pub filled-table : table_of (state_of e.store (set vs (party_slots * p + n) e.version) ws)
      ≡ set (table_of (state_of s vs ws)) p (put_slot (party_at (table_of (state_of s vs ws)) p) n (live (record { bits = e.version.bits; items = items })))
  filled-table =
      table-slot (state_of s vs ws) (state_of e.store (set vs (party_slots * p + n) e.version) ws) p n _ lp ln filled-slots filled-walks here

module _ (s : Store) (vs : List VersionRecord) (ws : WalkSlices) (r : Running s vs ws) (p n : ℕ) (lp : p < parties) (ln : n < party_slots)
    (alive : (get_or vs (party_slots * p + n) empty_record).live ≡ 1) where
  abbrev root : ℕ
  root = (get_or vs (party_slots * p + n) empty_record).root

  abbrev left : List VersionRecord
  left = set vs (party_slots * p + n) empty_record

  within : party_slots * p + n < length vs
  within = omega (arith, r.fits.versions)

  stays : RecordsStay s.nodes (release s root).nodes (state_of (release s root) left ws)
  stays = emptied-stays s vs ws r (party_slots * p + n) within alive

  emptied-slots : SlotsAgree (state_of s vs ws) (state_of (release s root) left ws) (party_slots * p + n)
  emptied-slots q m lq lm f =
      slot-stays s.nodes (release s root).nodes (state_of (release s root) left ws) stays q m
      ∙ ap (slot_of s.nodes) (get_or-set_other vs (party_slots * p + n) (party_slots * q + m) empty_record empty_record f)

  emptied-walks : WalksAgree (state_of s vs ws) (state_of (release s root) left ws) nowhere
  emptied-walks q m lq lm f = walk-stays s.nodes (release s root).nodes (state_of (release s root) left ws) stays q m lq lm

  gone : slot_of (release s root).nodes (get_or left (party_slots * p + n) empty_record) ≡ empty
  unfolding slot_of
  gone = rw (get_or-set_same vs (party_slots * p + n) empty_record empty_record within)

  pub emptied-table : table_of (state_of (release s root) left ws) ≡ set (table_of (state_of s vs ws)) p (put_slot (party_at (table_of (state_of s vs ws)) p) n empty)
  emptied-table = table-slot (state_of s vs ws) (state_of (release s root) left ws) p n empty lp ln emptied-slots emptied-walks gone

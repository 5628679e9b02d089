-- The plain table and the records that it is read from, at every party and number: what is not there reads empty or closed in both.
use mathlib.Core.Path.{◌≡◌, refl, sym, ap, ◌∙◌}
use mathlib.Core.Logic.{◌≢◌, inl, inr}
use mathlib.Core.Bool.{Bool, true, false, cond, ◌&&◌}
use Prim.Native.Nat.{ℕ, zero, ◌+◌, ◌-◌, ◌≤◌, ◌<◌}
use native.Mathlib.Nat.{lt_irrefl}
use native.Mathlib.Decide.{dec_lt}
use native.Mathlib.Omega.{arith}
use lib.Dec.{ltb, eqb}
use lib.ListN.{length, get_or, get_or-eq_default}
use borrow.Author.Tests.{lt-ltb, le-ltb, eq-eqb, ne_eqb}
use Rattle.meaning.specs.Limits.{parties, party_slots, party_walks}
use Rattle.meaning.specs.Counting.{rows}
use Rattle.meaning.specs.Lent.{Nodes, VersionRecord, empty_record, WalkRecord, closed_record, walk_record, Lent, version_at, walk_at}
use Rattle.meaning.specs.Trees.{contents}
use Rattle.meaning.specs.WellFormed.{Live, LegalVersion, Open, LegalWalk}
use Rattle.meaning.specs.Table.{empty, live, closed, taking, fresh_party, party_at, slot_at, is_live, is_open, version, rest}
use Rattle.meaning.specs.Table as table
use Rattle.meaning.specs.Stands.{slot_of, left_between, walk_of, party_of, table_of}
use Rattle.meaning.proofs.Lists.{replicate-at}
use Rattle.meaning.proofs.Rows.{rows-length, rows_at}
use Rattle.lookup.proofs.Found.{contents-length}
use Rattle.walk_laws.proofs.Left.{left-length}
use Rattle.upkeep.proofs.Tables.{table_at}
use Rattle.upkeep.proofs.Stands.{legal-at, legal-walk}
use Rattle.frames.specs.Run.{Run, slot_place, walk_place, version_in, walk_in}
use Rattle.serving.specs.States.{lent_in, Runs, table_in}

-- ---- in range and out of it

party-out : (a : Lent) (p : ℕ) → parties ≤ p → party_at (table_of a) p ≡ fresh_party
unfolding party_at table_of
party-out a p l = get_or-eq_default (rows parties (party_of a)) fresh_party {n = p} (omega (arith, rows-length parties (party_of a)))

module _ (r : Run) (p n : ℕ) where
  pub version-here : p < parties → n < party_slots → version_in r p n ≡ get_or r.versions (slot_place p n) empty_record
  unfolding version_in
  version-here lp ln = rw (lt-ltb p parties lp, lt-ltb n party_slots ln)

  pub walk_here : p < parties → n < party_walks → walk_in r p n ≡ walk_record r.walks (walk_place p n)
  unfolding walk_in
  walk_here lp ln = rw (lt-ltb p parties lp, lt-ltb n party_walks ln)

  slot-in : p < parties → n < party_slots → slot_at (party_at (table_in r) p) n ≡ slot_of r.store.nodes (version_in r p n)
  unfolding slot_at party_of
  slot-in lp ln = rw (table_at (lent_in r) p lp, version-here lp ln) (rows_at party_slots n (λ m. slot_of r.store.nodes (version_at (lent_in r) p m)) empty ln)

  slot-past : p < parties → party_slots ≤ n → slot_at (party_at (table_in r) p) n ≡ slot_of r.store.nodes (version_in r p n)
  unfolding slot_at party_of version_in slot_of
  slot-past lp ln = rw (table_at (lent_in r) p lp, lt-ltb p parties lp, le-ltb n party_slots ln)
      (get_or-eq_default (rows party_slots (λ m. slot_of r.store.nodes (version_at (lent_in r) p m))) empty {n = n} (omega (arith, rows-length party_slots (λ m. slot_of r.store.nodes (version_at (lent_in r) p m)))))

  slot-out : parties ≤ p → slot_at (party_at (table_in r) p) n ≡ slot_of r.store.nodes (version_in r p n)
  unfolding slot_at fresh_party version_in slot_of
  slot-out lp = rw (party-out (lent_in r) p lp, le-ltb p parties lp) (replicate-at party_slots n empty)

  pub slot_seen : slot_at (party_at (table_in r) p) n ≡ slot_of r.store.nodes (version_in r p n)
  slot_seen = pick (dec_lt p parties) (dec_lt n party_slots)
    where
      pick : Dec (p < parties) → Dec (n < party_slots) → slot_at (party_at (table_in r) p) n ≡ slot_of r.store.nodes (version_in r p n)
      pick (yes lp) (yes ln) = slot-in lp ln
      pick (yes lp) (no ln) = slot-past lp (omega arith)
      pick (no lp) d = slot-out (omega arith)

  walk-in : p < parties → n < party_walks → table.walk_at (party_at (table_in r) p) n ≡ walk_of r.store.nodes (walk_in r p n)
  unfolding table.walk_at party_of
  walk-in lp ln = rw (table_at (lent_in r) p lp, walk_here lp ln) (rows_at party_walks n (λ m. walk_of r.store.nodes (walk_at (lent_in r) p m)) closed ln)

  walk-past : p < parties → party_walks ≤ n → table.walk_at (party_at (table_in r) p) n ≡ walk_of r.store.nodes (walk_in r p n)
  unfolding table.walk_at party_of walk_in walk_of
  walk-past lp ln = rw (table_at (lent_in r) p lp, lt-ltb p parties lp, le-ltb n party_walks ln)
      (get_or-eq_default (rows party_walks (λ m. walk_of r.store.nodes (walk_at (lent_in r) p m))) closed {n = n} (omega (arith, rows-length party_walks (λ m. walk_of r.store.nodes (walk_at (lent_in r) p m)))))

  walk-out : parties ≤ p → table.walk_at (party_at (table_in r) p) n ≡ walk_of r.store.nodes (walk_in r p n)
  unfolding table.walk_at fresh_party walk_in walk_of
  walk-out lp = rw (party-out (lent_in r) p lp, le-ltb p parties lp) (replicate-at party_walks n closed)

  pub walk-seen : table.walk_at (party_at (table_in r) p) n ≡ walk_of r.store.nodes (walk_in r p n)
  walk-seen = pick (dec_lt p parties) (dec_lt n party_walks)
    where
      pick : Dec (p < parties) → Dec (n < party_walks) → table.walk_at (party_at (table_in r) p) n ≡ walk_of r.store.nodes (walk_in r p n)
      pick (yes lp) (yes ln) = walk-in lp ln
      pick (yes lp) (no ln) = walk-past lp (omega arith)
      pick (no lp) d = walk-out (omega arith)

  -- ---- what is named is legal

  pub version-legal : Runs r → LegalVersion r.store.nodes (version_in r p n)
  unfolding version_in
  version-legal k = pick (ltb p parties && ltb n party_slots)
    where
      pick : (b : Bool) → LegalVersion r.store.nodes (cond b (get_or r.versions (slot_place p n) empty_record) empty_record)
      pick true = legal-at r.store r.versions r.walks k (slot_place p n)
      pick false = inl refl

  pub walk-legal : Runs r → LegalWalk r.store.nodes (walk_in r p n)
  unfolding walk_in
  walk-legal k = pick (dec_lt p parties) (dec_lt n party_walks)
    where
      pick : Dec (p < parties) → Dec (n < party_walks) → LegalWalk r.store.nodes (cond (ltb p parties && ltb n party_walks) (walk_record r.walks (walk_place p n)) closed_record)
      pick (yes lp) (yes ln) = rw (lt-ltb p parties lp, lt-ltb n party_walks ln) (legal-walk r.store r.versions r.walks k (walk_place p n) (omega arith))
      pick (yes lp) (no ln) = rw (lt-ltb p parties lp, le-ltb n party_walks (omega arith)) (inl refl)
      pick (no lp) d = rw (le-ltb p parties (omega arith)) (inl refl)

-- ---- what a record is seen as

module _ (s : Nodes) where
  pub live-seen : (v : VersionRecord) → eqb v.live 1 ≡ is_live (slot_of s v)
  unfolding slot_of is_live
  live-seen v = pick (eqb v.live 1)
    where
      pick : (b : Bool) → b ≡ is_live (cond b (live (record { bits = v.bits; items = contents s v })) empty)
      pick true = refl
      pick false = refl

  pub open-seen : (w : WalkRecord) → eqb w.version.live 1 ≡ is_open (walk_of s w)
  unfolding walk_of is_open
  open-seen w = pick (eqb w.version.live 1)
    where
      pick : (b : Bool) → b ≡ is_open (cond b (taking (left_between w.front w.back w.version.length (contents s w.version))) closed)
      pick true = refl
      pick false = refl

  pub version-seen : (v : VersionRecord) → v.live ≡ 1 → version (slot_of s v) ≡ record { bits = v.bits; items = contents s v }
  unfolding slot_of version
  version-seen v e = rw (eq-eqb v.live 1 e)

  pub live-is : {v : VersionRecord} → LegalVersion s v → v.live ≡ 1 → Live s v
  live-is (inl d) e = absurd (lt_irrefl zero (omega (arith, sym e ∙ ap (λ (x : VersionRecord). x.live) d)))
  live-is (inr l) e = l

  pub open_is : {w : WalkRecord} → LegalWalk s w → w.version.live ≡ 1 → Open s w
  open_is (inl d) e = absurd (lt_irrefl zero (omega (arith, sym e ∙ ap (λ (x : WalkRecord). x.version.live) d)))
  open_is (inr o) e = o

  pub closed_is : {w : WalkRecord} → LegalWalk s w → w.version.live ≢ 1 → w ≡ closed_record
  closed_is (inl d) f = d
  closed_is (inr o) f = absurd (f o.version.live)

  pub length_seen : (v : VersionRecord) → LegalVersion s v → v.length ≡ length (version (slot_of s v)).items
  unfolding slot_of version
  length_seen v (inl d) = rw d
  length_seen v (inr l) = rw (eq-eqb v.live 1 l.live) (sym (contents-length s v))

pub ended-seen : (s : Nodes) (w : WalkRecord) → LegalWalk s w → eqb (w.front + w.back) w.version.length ≡ eqb (length (rest (walk_of s w))) 0
unfolding walk_of rest
ended-seen s w (inl d) = rw d
ended-seen s w (inr o) =
    rw (eq-eqb w.version.live 1 o.version.live, left-length w.front w.back w.version.length (contents s w.version) (contents-length s w.version) o.taken)
    (pick (dec_lt (w.front + w.back) w.version.length))
  where
    pick : Dec (w.front + w.back < w.version.length) → eqb (w.front + w.back) w.version.length ≡ eqb (w.version.length - w.front - w.back) 0
    pick (yes l) = ne_eqb (w.front + w.back) w.version.length (λ e. lt_irrefl zero (omega arith)) ∙ sym (ne_eqb (w.version.length - w.front - w.back) 0 (λ e. lt_irrefl zero (omega arith)))
    pick (no g) = eq-eqb (w.front + w.back) w.version.length (omega (arith, o.taken)) ∙ sym (eq-eqb (w.version.length - w.front - w.back) 0 (omega (arith, o.taken)))

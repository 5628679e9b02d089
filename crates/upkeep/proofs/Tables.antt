-- The plain table of a state in which one slot or one walk has changed.
use mathlib.Core.Path.{◌≡◌, refl, sym, ap, ap₂, ◌∙◌}
use mathlib.Core.Logic.{◌≢◌, inl}
use mathlib.Core.List.{List}
use Prim.Native.Nat.{ℕ, ◌+◌, ◌*◌, ◌<◌}
use native.Mathlib.Omega.{arith}
use lib.ListN.{set}
use Rattle.meaning.specs.Limits.{parties, party_slots, party_walks}
use Rattle.meaning.specs.Lent.{Nodes, empty_record, Lent, version_at, walk_record, walk_at, walk_records}
use Rattle.meaning.specs.Table.{Slot, Walk, Party, fresh_party, party_at, put_slot, put_walk}
use Rattle.meaning.specs.Stands.{slot_of, walk_of, party_of, table_of}
use Rattle.meaning.proofs.Lists.{each-getD, each_row}
use Rattle.meaning.proofs.Rows.{rows_at, rows_agree, rows-set}
use Rattle.trees.specs.Agreeing.{SlotStays, WalkStays, RecordsStay}

-- ---- one record

pub slot-stays : (s t : Nodes) (x : Lent) → RecordsStay s t x → (p n : ℕ) → slot_of t (version_at x p n) ≡ slot_of s (version_at x p n)
unfolding slot_of
slot-stays s t x h p n = (each-getD (SlotStays s t) x.versions (party_slots * p + n) empty_record h.0 (inl refl, refl)).1

pub walk-stays : (s t : Nodes) (x : Lent) → RecordsStay s t x → (p n : ℕ) → p < parties → n < party_walks → walk_of t (walk_at x p n) ≡ walk_of s (walk_at x p n)
unfolding walk_records
walk-stays s t x h p n lp ln = (each_row (WalkStays s t) (parties * party_walks) (walk_record x.walks) h.1 (party_walks * p + n) (omega arith)).1

-- ---- one place of the table

-- the places of the table in two states
abbrev pub SlotsAgree : Lent → Lent → (but : ℕ) → Type 0
SlotsAgree a b but = (p n : ℕ) → p < parties → n < party_slots → party_slots * p + n ≢ but → slot_of b.nodes (version_at b p n) ≡ slot_of a.nodes (version_at a p n)

abbrev pub WalksAgree : Lent → Lent → (but : ℕ) → Type 0
WalksAgree a b but = (p n : ℕ) → p < parties → n < party_walks → party_walks * p + n ≢ but → walk_of b.nodes (walk_at b p n) ≡ walk_of a.nodes (walk_at a p n)

-- past every slot or walk
abbrev pub nowhere : ℕ
nowhere = parties * party_slots

party-alike : (a b : Lent) (i j p : ℕ) → p < parties → SlotsAgree a b i → WalksAgree a b j → ((n : ℕ) → n < party_slots → party_slots * p + n ≢ i)
    → ((n : ℕ) → n < party_walks → party_walks * p + n ≢ j) → party_of b p ≡ party_of a p
unfolding party_of
party-alike a b i j p l hs hw f g =
    ap₂ (λ (xs : List Slot) (ys : List Walk). record { slots = xs; walks = ys })
    (rows_agree party_slots _ _ (λ n m. hs p n l m (f n m))) (rows_agree party_walks _ _ (λ n m. hw p n l m (g n m)))

pub table_at : (a : Lent) (p : ℕ) → p < parties → party_at (table_of a) p ≡ party_of a p
unfolding party_at table_of
table_at a p l = rows_at parties p (party_of a) fresh_party l

slot-party : (a b : Lent) (p n : ℕ) (x : Slot) → p < parties → n < party_slots → SlotsAgree a b (party_slots * p + n) → WalksAgree a b nowhere
    → slot_of b.nodes (version_at b p n) ≡ x → party_of b p ≡ put_slot (party_of a p) n x
unfolding party_of put_slot
slot-party a b p n x lp ln hs hw e =
    ap₂ (λ (xs : List Slot) (ys : List Walk). record { slots = xs; walks = ys })
    (rows-set party_slots _ _ n x ln e (λ m l f. hs p m lp l (λ q. f (omega arith)))) (rows_agree party_walks _ _ (λ m l. hw p m lp l (omega arith)))

-- one slot has changed
pub table-slot : (a b : Lent) (p n : ℕ) (x : Slot) → p < parties → n < party_slots → SlotsAgree a b (party_slots * p + n) → WalksAgree a b nowhere
    → slot_of b.nodes (version_at b p n) ≡ x → table_of b ≡ set (table_of a) p (put_slot (party_at (table_of a) p) n x)
unfolding table_of
table-slot a b p n x lp ln hs hw e =
    rows-set parties (party_of a) (party_of b) p _ lp (slot-party a b p n x lp ln hs hw e ∙ ap (λ (y : Party). put_slot y n x) (sym (table_at a p lp)))
    (λ q m f. party-alike a b (party_slots * p + n) nowhere q m hs hw (λ k l. omega arith) (λ k l. omega arith))

walk-party : (a b : Lent) (p n : ℕ) (x : Walk) → p < parties → n < party_walks → SlotsAgree a b nowhere → WalksAgree a b (party_walks * p + n)
    → walk_of b.nodes (walk_at b p n) ≡ x → party_of b p ≡ put_walk (party_of a p) n x
unfolding party_of put_walk
walk-party a b p n x lp ln hs hw e =
    ap₂ (λ (xs : List Slot) (ys : List Walk). record { slots = xs; walks = ys })
    (rows_agree party_slots _ _ (λ m l. hs p m lp l (omega arith))) (rows-set party_walks _ _ n x ln e (λ m l f. hw p m lp l (λ q. f (omega arith))))

-- one walk has changed
pub table-walk : (a b : Lent) (p n : ℕ) (x : Walk) → p < parties → n < party_walks → SlotsAgree a b nowhere → WalksAgree a b (party_walks * p + n)
    → walk_of b.nodes (walk_at b p n) ≡ x → table_of b ≡ set (table_of a) p (put_walk (party_at (table_of a) p) n x)
unfolding table_of
table-walk a b p n x lp ln hs hw e =
    rows-set parties (party_of a) (party_of b) p _ lp (walk-party a b p n x lp ln hs hw e ∙ ap (λ (y : Party). put_walk y n x) (sym (table_at a p lp)))
    (λ q m f. party-alike a b nowhere (party_walks * p + n) q m hs hw (λ k l. omega arith) (λ k l. omega arith))

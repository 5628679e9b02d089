-- A call promises of the records that are lent what it does of the table that they were copied into, where the table is stored if the call is done.
use mathlib.Core.Path.{◌≡◌, refl, sym, ap, ◌∙◌, subst}
use mathlib.Core.Logic.{◌≢◌}
use mathlib.Core.Bool.{Bool, true, false, cond, false≢true}
use mathlib.Core.List.{List}
use Prim.Native.Nat.{ℕ}
use lib.Dec.{eqb}
use lib.ListN.{length, length-map}
use borrow.Author.Tests.{eq-eqb}
use Rattle.meaning.specs.Limits.{done_number}
use Rattle.meaning.specs.Lent.{VersionRecord, Lent}
use Rattle.records.specs.declared.Version.{Version}
use Rattle.records.specs.Records.{record_of, records_of}
use Rattle.version_table.specs.Tables.{blanks, table_of, stored}
use Rattle.host.specs.declared.Done.{Done}

-- a state with other records
abbrev pub holding : Lent → List VersionRecord → Lent
holding s vs = record { nodes = s.nodes; counts = s.counts; order = s.order; versions = vs; walks = s.walks }

-- ---- of 64 records

whole-table : (ys : List Version) → eqb (length ys) 64 ≡ true → table_of ys ≡ ys
whole-table ys e = ap (λ (t : Bool). cond t ys blanks) e

whole-stored : (w : Bool) (vs ys : List Version) → eqb (length ys) 64 ≡ true → stored w vs ys ≡ cond w vs ys
whole-stored true vs ys e = ap (λ (t : Bool). cond t vs ys) e
whole-stored false vs ys e = refl

-- ---- of another number

other-stored : (w : Bool) (vs ys : List Version) → eqb (length ys) 64 ≡ false → stored w vs ys ≡ ys
other-stored true vs ys e = ap (λ (t : Bool). cond t vs ys) e
other-stored false vs ys e = refl

pub other_length : (ys : List Version) → eqb (length ys) 64 ≡ false → length (records_of ys) ≢ 64
other_length ys e h = false≢true (sym e ∙ eq-eqb (length ys) 64 (sym (length-map ys record_of) ∙ h))

-- ---- what holds of the table holds of the records

module _ (P : Lent → Lent → Type 0) (s after : Lent) (ys vs : List Version) (before : s.versions ≡ records_of ys) (at-end : after.versions ≡ records_of vs) where
  same_start : s ≡ holding s (records_of ys)
  same_start = ap (holding s) before

  settled_at : (t : Bool) → (t ≡ false → after ≡ s) → P s after → P s (holding after (records_of (cond t vs ys)))
  settled_at true h p = subst (P s) (ap (holding after) at-end) p
  settled_at false h p = subst (P s) (h refl ∙ same_start ∙ ap (λ (x : Lent). holding x (records_of ys)) (sym (h refl))) p

  -- the table is stored if the number is 0
  settled-by : (number : ℕ) → (number ≢ done_number → after ≡ s) → P s after → P (holding s (records_of ys)) (holding after (records_of (cond (eqb number done_number) vs ys)))
  settled-by n h p =
      subst (λ (x : Lent). P x (holding after (records_of (cond (eqb n done_number) vs ys)))) same_start
      (settled_at (eqb n done_number) (λ e. h (λ z. false≢true (sym e ∙ eq-eqb n done_number z))) p)

-- of a table and the records that it was copied from, where these are 64
module _ (ys table us : List Version) (s after : Lent) (r : Done) (copied : table ≡ table_of ys) (before : s.versions ≡ records_of table) (at-end : after.versions ≡ records_of r.versions)
    (stores : r.stores ≡ eqb r.report.number done_number) (back : us ≡ stored r.stores r.versions ys) where
  pub settled-whole : (P : Lent → Lent → Type 0) → eqb (length ys) 64 ≡ true → (r.report.number ≢ done_number → after ≡ s) → P s after → P (holding s (records_of ys)) (holding after (records_of us))
  settled-whole P e h p =
      subst (λ (l : List Version). P (holding s (records_of ys)) (holding after (records_of l))) (sym us-is)
      (settled-by P s after ys r.versions (before ∙ ap records_of (copied ∙ whole-table ys e)) at-end r.report.number h p)
    where
      us-is : us ≡ cond (eqb r.report.number done_number) r.versions ys
      us-is = back ∙ whole-stored r.stores r.versions ys e ∙ ap (λ (t : Bool). cond t r.versions ys) stores

  -- where they are not, nothing changed
  pub settled-other : eqb (length ys) 64 ≡ false → after ≡ s → holding after (records_of us) ≡ holding s (records_of ys)
  settled-other e h = ap (λ (l : List Version). holding after (records_of l)) (back ∙ other-stored r.stores r.versions ys e) ∙ ap (λ (x : Lent). holding x (records_of ys)) h

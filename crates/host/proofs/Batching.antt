-- A batch, of a table that was copied out of the records that are lent, and of these.
use mathlib.Core.Path.{◌≡◌, refl, sym, ◌∙◌, subst}
use mathlib.Core.Logic.{◌≢◌}
use mathlib.Core.Bool.{Bool, true, false, not, cond, false≢true}
use mathlib.Core.List.{List}
use Prim.Native.Nat.{ℕ, zero, suc, ◌*◌, ◌/◌, ◌%◌}
use lib.Dec.{T as Holds, eqb, eqb→eq, ltb, ltb→lt, nltb→le}
use lib.ListN.{length}
use borrow.Author.Tests.{eq-eqb}
use Rattle.meaning.specs.Limits.{frame_size, answer_size, done_number}
use Rattle.meaning.specs.Lent.{Lent}
use Rattle.meaning.specs.WellFormed.{WellFormed}
use Rattle.audit.specs.Audited.{Judged}
use Rattle.records.specs.declared.Version.{Version}
use Rattle.records.specs.Records.{records_of}
use Rattle.version_table.specs.Tables.{table_of, stored}
use Rattle.lending.specs.Lending.{refusal_of}
use Rattle.batch.specs.Batched.{state_after, Batches}
use Rattle.batch.proofs.Batching.{ragged, no_room, ill-formed}
use Rattle.host.specs.declared.Done.{Done}
use Rattle.host.specs.Reports.{reported_with, BatchesOf}
use Rattle.host.proofs.Settled.{holding, other_length, settled-whole, settled-other}

-- ---- a state that can't be well-formed

module _ (s : Lent) (requests room : List ℕ) (ill : WellFormed s → ⊥) where
  judged : Judged s false 0
  judged = record { ok = ((λ e. absurd (false≢true e)), λ w. absurd (ill w)); free = refl }

  of_room : length requests % frame_size ≡ 0 → (t : Bool) → ltb (length room) (answer_size * (length requests / frame_size)) ≡ t → Batches s s requests room room (cond t 12 11) 0
  of_room whole true e = no_room s requests room whole (ltb→lt (length room) (answer_size * (length requests / frame_size)) (subst Holds (sym e) tt))
  of_room whole false e = ill-formed s requests room whole (nltb→le (length room) (answer_size * (length requests / frame_size)) (subst (λ (t : Bool). Holds (not t)) (sym e) tt)) false 0 judged refl

  of-requests : (t : Bool) → eqb (length requests % frame_size) 0 ≡ t → Batches s s requests room room (cond t (cond (ltb (length room) (answer_size * (length requests / frame_size))) 12 11) 13) 0
  of-requests true e = of_room (eqb→eq (length requests % frame_size) 0 (subst Holds (sym e) tt)) (ltb (length room) (answer_size * (length requests / frame_size))) refl
  of-requests false e = ragged s requests room (λ h. false≢true (sym e ∙ eq-eqb (length requests % frame_size) 0 h))

  pub refused-sizes : Batches s s requests room room (refusal_of (length requests) (length room)) 0
  refused-sizes = of-requests (eqb (length requests % frame_size) 0) refl

-- ---- of the table

pub batch-refused : (count : ℕ) (s : Lent) (requests room : List ℕ) (number : ℕ) (vs : List Version) → count ≢ 64 → number ≡ refusal_of (length requests) (length room)
    → BatchesOf count s s requests room room (reported_with number 0 vs)
batch-refused count s requests room number vs n e = record { whole = λ h. absurd (n h); other = λ h. (e, refl, refl, refl); stores = refl }

pub batch-done : (count : ℕ) (s after : Lent) (requests room room_after : List ℕ) (number frames : ℕ) (vs : List Version) → count ≡ 64 → Batches s after requests room room_after number frames
    → BatchesOf count s after requests room room_after (reported_with number frames vs)
batch-done count s after requests room room_after number frames vs e f = record { whole = λ h. f; other = λ h. absurd (h e); stores = refl }

-- ---- of the records

unchanged : (s after : Lent) (requests room room_after : List ℕ) (number frames : ℕ) → Batches s after requests room room_after number frames → number ≢ done_number → after ≡ s
unfolding state_after
unchanged s after requests room room_after zero frames f n = absurd (n refl)
unchanged s after requests room room_after (suc m) frames f n = f.state

pub batch-settled : (ys table us : List Version) (s after : Lent) (requests room room_after : List ℕ) (r : Done) → table ≡ table_of ys → s.versions ≡ records_of table → after.versions ≡ records_of r.versions
    → BatchesOf (length ys) s after requests room room_after r → us ≡ stored r.stores r.versions ys
    → Batches (holding s (records_of ys)) (holding after (records_of us)) requests room room_after r.report.number r.report.frames
batch-settled ys table us s after requests room room_after r copied before at-end f back = by_length (eqb (length ys) 64) refl
  where
    Promise : Lent → Lent → Type 0
    Promise x y = Batches x y requests room room_after r.report.number r.report.frames

    by_length : (t : Bool) → eqb (length ys) 64 ≡ t → Promise (holding s (records_of ys)) (holding after (records_of us))
    by_length true e =
        let served : Promise s after = f.whole (eqb→eq (length ys) 64 (subst Holds (sym e) tt)) in
        settled-whole ys table us s after r copied before at-end f.stores back Promise e (unchanged s after requests room room_after r.report.number r.report.frames served) served
    by_length false e =
        let refused = f.other (λ h. false≢true (sym e ∙ eq-eqb (length ys) 64 h)) in
        let same : holding after (records_of us) ≡ holding s (records_of ys) = settled-other ys table us s after r copied before at-end f.stores back e refused.2 in
        rw (same, refused.0, refused.1, refused.3) (refused-sizes (holding s (records_of ys)) requests room (λ w. other_length ys e w.sizes.versions))

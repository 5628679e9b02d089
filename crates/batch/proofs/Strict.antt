-- How strict the contract of a batch is: any two outcomes that meet it are equal; one that is refused has changed nothing.
use mathlib.Core.Path.{◌≡◌, sym, ap, ◌∙◌}
use mathlib.Core.Bool.{Bool}
use mathlib.Core.List.{List}
use Prim.Native.Nat.{ℕ, zero, suc}
use native.Mathlib.Nat.{lt_irrefl}
use native.Mathlib.Omega.{arith}
use lib.ListN.{replicate}
use Rattle.meaning.specs.Lent.{Lent, size}
use Rattle.meaning.specs.Table.{Table}
use Rattle.meaning.specs.Stands.{table_of}
use Rattle.meaning.specs.Serve.{Reply}
use Rattle.meaning.specs.Batch.{Outcome, outcome, batch}
use Rattle.audit_model.specs.Audit.{audit_ok}
use Rattle.audit_model.proofs.Sizes.{audit-judges}
use Rattle.batch.specs.Batched.{all_frames, state_after, Batches}

pub batches-once : (s : Lent) (requests room : List ℕ) (a b : Lent) (p q : List ℕ) (n m k j : ℕ) → Batches s a requests room p n k → Batches s b requests room q m j
    → (a ≡ b) × (p ≡ q) × (n ≡ m) × (k ≡ j)
batches-once s requests room a b p q n m k j x y =
    let well : Bool = audit_ok s (replicate (size s) 0) in
    let same = x.plain well (audit-judges s) ∙ sym (y.plain well (audit-judges s)) in
    let number : n ≡ m = ap (λ (o : Outcome). o.number) same in (
      x.state ∙ (ap (λ (i : ℕ). state_after i s (all_frames requests)) number ∙ sym y.state),
      ap (λ (o : Outcome). o.room) same,
      number,
      ap (λ (o : Outcome). o.frames) same,
    )

-- DEMAND 1, of a batch: refused, it writes nothing and reports no frame
told : (m n k : ℕ) (room room_after : List ℕ) (t u : Table) (count : ℕ) (ran : Table × List Reply)
    → record { number = suc n; frames = k; room = room_after; table = t } ≡ outcome m count room u ran → (room_after ≡ room) × (k ≡ 0)
unfolding outcome
told zero n k room room_after t u count ran e = absurd (lt_irrefl zero (omega (arith, ap (λ (o : Outcome). o.number) e)))
told (suc m) n k room room_after t u count ran e = (ap (λ (o : Outcome). o.room) e, ap (λ (o : Outcome). o.frames) e)

pub refused-batch : (s after : Lent) (requests room room_after : List ℕ) (n k : ℕ) → Batches s after requests room room_after (suc n) k → (after ≡ s) × (room_after ≡ room) × (k ≡ 0)
unfolding state_after batch
refused-batch s after requests room room_after n k x =
    let (a, b) = told _ n k room room_after (table_of after) _ _ _ (x.plain (audit_ok s (replicate (size s) 0)) (audit-judges s)) in
    (x.state, a, b)

-- Nothing is empty: document 01's example session through the contract of a batch.
use mathlib.Core.Path.{◌≡◌, refl, ap, ◌∙◌}
use mathlib.Core.Bool.{true}
use mathlib.Core.List.{List, ◌++◌}
use Prim.Native.Nat.{ℕ, ◌*◌, ◌≤◌}
use native.Mathlib.Omega.{arith}
use lib.ListN.{length, replicate, drop, length-replicate}
use Rattle.meaning.specs.Limits.{node_cells, program_nodes, answer_size, done_number}
use Rattle.meaning.specs.Lent.{Lent, free_nodes}
use Rattle.meaning.specs.WellFormed.{WellFormed}
use Rattle.meaning.specs.Batch.{Outcome}
use Rattle.meaning.proofs.FreshLaws.{fresh-well-formed}
use Rattle.audit.specs.Audited.{Judged}
use Rattle.serving.proofs.Sessions.{bytes, answers_to, example_requests, example_answers, example_state, example}
use Rattle.batch.specs.Batched.{Batches}
use Rattle.batch.proofs.Batching.{served-as}

state-formed : WellFormed example_state
state-formed = fresh-well-formed program_nodes (replicate (node_cells * program_nodes) 0) (omega arith) (omega arith) (length-replicate {A = ℕ} (node_cells * program_nodes) 0)

judged : Judged example_state true (free_nodes example_state.nodes)
judged = record { ok = (λ _. state-formed, λ _. refl); free = refl }

-- the number, the count of frames and every byte of the answer room
pub example-batch : (after : Lent) (room room_after : List ℕ) (number frames : ℕ) → answer_size * 8 ≤ length room → Batches example_state after example_requests room room_after number frames
    → (number ≡ done_number) × (frames ≡ 8) × (room_after ≡ example_answers ++ drop (answer_size * 8) room)
unfolding example_requests bytes answers_to
example-batch after room room_after number frames l x =
    let all = x.plain true judged.ok ∙ served-as example_state example_requests room refl l true _ judged refl in
    (ap (λ (o : Outcome). o.number) all, ap (λ (o : Outcome). o.frames) all, ap (λ (o : Outcome). o.room) all ∙ ap (λ (a : List ℕ). a ++ drop (answer_size * 8) room) example)

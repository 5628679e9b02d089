use mathlib.Core.Path.{refl}
use native.Mathlib.Omega.{arith}
use Rattle.batch.proofs.Batching.{ragged, no_room, ill-formed, can-run, served, loads, stores, moved}
use Rattle.batch.proofs.batch.Goals as goal

pub returns-then-asked-ne0 : goal.returns-then-asked-ne0
returns-then-asked-ne0 c = rw c.refused.ensures (ragged _ _ _ c.if-asked-ne0.true)

pub returns-then-room-answer_place : goal.returns-then-room-answer_place
returns-then-room-answer_place c = rw c.refused-then-room-answer_place.ensures (no_room _ _ _ c.if-asked-ne0.false (rw c.answer_place.ensures at c.if-room-answer_place.true))

pub returns-in_default : goal.returns-in_default
returns-in_default c = rw c.refused-in_default.ensures (ill-formed _ _ _ c.if-asked-ne0.false (rw c.answer_place.ensures at c.if-room-answer_place.false) _ _ c.in_default.ensures refl)

pub run-requires : goal.run-requires
run-requires c = loads _ _ _ _ _ _ _ c.load-walks.ensures (can-run _ _ _ c.if-asked-ne0.false (rw c.answer_place.ensures at c.if-room-answer_place.false) _ _ c.in-Some.ensures refl (omega arith))

pub returns : goal.returns
returns c =
    let ran = stores _ _ _ _ _ _ _ c.load-walks.ensures _ _ _ _ _ c.store.ensures c.run.ensures.ran in
    moved _ _ _ _ _ _ _ _ (grind arith) (served _ _ _ c.if-asked-ne0.false (rw c.answer_place.ensures at c.if-room-answer_place.false) _ _ c.in-Some.ensures refl _ _ ran)

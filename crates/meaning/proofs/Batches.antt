-- Batches by computation: the order of the checks, the room that stays, the empty batch.
use mathlib.Core.Path.{◌≡◌, refl}
use mathlib.Core.Bool.{true, false}
use mathlib.Core.List.{List, [], ◌∷◌, ◌++◌}
use Prim.Native.Nat.{ℕ}
use lib.ListN.{replicate}
use Rattle.meaning.specs.Table.{fresh_table}
use Rattle.meaning.specs.Frames.{to_bytes}
use Rattle.meaning.specs.Supply.{all_free}
use Rattle.meaning.specs.Batch.{batch_checks, calls_in, answer_bytes, outcome, batch}
use Rattle.meaning.proofs.Sessions.{session}

unfoldable pub ask : List ℕ → List ℕ → ℕ × ℕ × List ℕ
unfolding session batch_checks calls_in answer_bytes outcome batch
ask requests room = let o = batch true requests room (λ n. all_free 9) fresh_table in (o.number, o.frames, o.room)

pub batches
    : (ask [] (1 ∷ 2 ∷ []) ≡ (0, 0, 1 ∷ 2 ∷ []))
    × (ask (replicate 13 0) [] ≡ (13, 0, []))
    × (ask (replicate 24 0) (replicate 11 5) ≡ (12, 0, replicate 11 5))
    × (ask (to_bytes 12 0x010000000000000500000000 ++ to_bytes 12 0x010000000000000500000000) (replicate 14 5) ≡ (0, 2, 0 ∷ 1 ∷ 0 ∷ 0 ∷ 0 ∷ 0 ∷ 6 ∷ 0 ∷ 0 ∷ 0 ∷ 0 ∷ 0 ∷ 5 ∷ 5 ∷ []))
    × ((batch false [] [] (λ n. all_free 9) fresh_table).number ≡ 11)
    × ((batch false (replicate 24 0) [] (λ n. all_free 9) fresh_table).number ≡ 12)
unfolding ask
batches = (refl, refl, refl, refl, refl, refl)

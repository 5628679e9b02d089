-- A conversation is the plain table's, with the nodes that are free at each line; so the program's answers are those of its fresh state.
use mathlib.Core.Path.{◌≡◌, refl, sym, ap, ◌∙◌}
use mathlib.Core.List.{List, [], ◌∷◌}
use Prim.Native.Nat.{ℕ, ◌*◌}
use native.Mathlib.Omega.{arith}
use lib.ListN.{length}
use Rattle.meaning.specs.Limits.{node_cells, program_nodes, not_a_frame_number}
use Rattle.meaning.specs.Fresh.{fresh_state}
use Rattle.meaning.specs.Table.{Table}
use Rattle.meaning.specs.Frames.{Answer}
use Rattle.meaning.specs.Serve.{refused}
use Rattle.meaning.specs.Program.{Line, frame, other, lines_of, talk, write, program}
use Rattle.meaning.proofs.FreshLaws.{fresh-free, fresh-table, fresh-well-formed}
use Rattle.upkeep.proofs.Doors.{well-formed-runs}
use Rattle.frames.specs.Run.{Run}
use Rattle.frames.specs.Serve.{serve}
use Rattle.serving.specs.States.{Runs, table_in}
use Rattle.serving.proofs.Serving.{frame-serves}
use Rattle.conversation.specs.Conversing.{talk_on, free_on, start_on}

pub talk-runs : (r : Run) (ls : List Line) → Runs r → Runs (talk_on r ls).0
unfolding talk_on
talk-runs r [] k = k
talk-runs r (frame f ∷ ls) k = talk-runs (serve r f).0 ls (frame-serves r f k).runs
talk-runs r (other ∷ ls) k = talk-runs r ls k

pub talk-plain : (r : Run) (ls : List Line) → Runs r → talk ls (free_on r ls) (table_in r) ≡ (talk_on r ls).1
unfolding talk talk_on free_on
talk-plain r [] k = refl
talk-plain r (frame f ∷ ls) k =
    let one = frame-serves r f k in
    rw one.plain (ap {B = List Answer} (λ as'. (serve r f).1 ∷ as') (talk-plain (serve r f).0 ls one.runs))
talk-plain r (other ∷ ls) k = ap {B = List Answer} (λ as'. refused not_a_frame_number ∷ as') (talk-plain r ls k)

-- ---- the program

pub start-free : (cells : List ℕ) → (start_on cells).store.free ≡ program_nodes
start-free cells = fresh-free program_nodes cells

module _ (cells : List ℕ) (fits : length cells ≡ node_cells * program_nodes) where
  pub start-runs : Runs (start_on cells)
  start-runs = well-formed-runs (fresh_state program_nodes cells) (fresh-well-formed program_nodes cells (omega arith) (omega arith) fits)

  pub program-answers : (input : List ℕ) → program input (free_on (start_on cells) (lines_of [] input)) ≡ write (talk_on (start_on cells) (lines_of [] input)).1
  unfolding program
  program-answers input =
      let r : Run = start_on cells in
      let ls : List Line = lines_of [] input in
      ap (λ (t : Table). write (talk ls (free_on r ls) t)) (sym (fresh-table program_nodes cells)) ∙ ap write (talk-plain r ls start-runs)

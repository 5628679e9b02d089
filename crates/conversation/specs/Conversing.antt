-- Lines in order on a running state, the nodes that are free when each comes, and the state that the program starts with.
use Rattle.std.specs.Prelude.{List, [], ◌∷◌, ℕ, zero, suc}
use Rattle.meaning.specs.Limits.{not_a_frame_number, program_nodes}
use Rattle.meaning.specs.Fresh.{fresh_state}
use Rattle.meaning.specs.Frames.{Answer}
use Rattle.meaning.specs.Supply.{Supply}
use Rattle.meaning.specs.Serve.{refused}
use Rattle.meaning.specs.Program.{Line, frame, other}
use Rattle.frames.specs.Run.{Run, supply_in}
use Rattle.frames.specs.Serve.{serve}
use Rattle.serving.specs.States.{run_in}

-- each frame served, any other line answered 14
unfoldable pub talk_on : Run → List Line → Run × List Answer
talk_on r [] = (r, [])
talk_on r (frame f ∷ ls) =
    let x = serve r f in
    let more = talk_on x.0 ls in
    (more.0, x.1 ∷ more.1)
talk_on r (other ∷ ls) = let more = talk_on r ls in (more.0, refused not_a_frame_number ∷ more.1)

-- the nodes that are free when line n of them comes
unfoldable pub free_on : Run → List Line → (n : ℕ) → Supply
free_on r [] n = supply_in r
free_on r (l ∷ ls) zero = supply_in r
free_on r (frame f ∷ ls) (suc n) = free_on (serve r f).0 ls n
free_on r (other ∷ ls) (suc n) = free_on r ls n

-- before the first line, over cells that stay as they were
abbrev pub start_on : (cells : List ℕ) → Run
start_on cells = run_in (fresh_state program_nodes cells)

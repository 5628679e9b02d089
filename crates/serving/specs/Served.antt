-- Frames served on a running state beside the plain table, one and many.
use Rattle.std.specs.Prelude.{◌≡◌, ◌≢◌, List, [], ◌∷◌, ◌≤◌}
use Rattle.meaning.specs.Frames.{Frame}
use Rattle.meaning.specs.Operations.{release, close_walk, op_of}
use Rattle.meaning.specs.Serve.{Call, Reply, run}
use Rattle.meaning.specs.Serve as plain
use Rattle.frames.specs.Run.{Run, supply_in}
use Rattle.frames.specs.Serve.{serve}
use Rattle.serving.specs.States.{Runs, table_in}

-- the state runs on, and the table and the answer are the plain table's
pub record Serves (r : Run) (f : Frame) : Type 0 where
  pub runs : Runs (serve r f).0
  pub plain : plain.serve (supply_in r) f (table_in r) ≡ (table_in (serve r f).0, (serve r f).1)
  -- free nodes rise with a release or a close alone
  pub falls : op_of f ≢ release → op_of f ≢ close_walk → (serve r f).0.store.free ≤ r.store.free

-- ---- frames in order

unfoldable pub serve_all : Run → List Frame → Run × List Reply
serve_all r [] = (r, [])
serve_all r (f ∷ fs) =
    let x = serve r f in
    let more = serve_all x.0 fs in
    (more.0, record { frame = f; answer = x.1 } ∷ more.1)

-- the same frames, each with the nodes that are free when it comes
unfoldable pub calls_from : Run → List Frame → List Call
calls_from r [] = []
calls_from r (f ∷ fs) = record { supply = supply_in r; frame = f } ∷ calls_from (serve r f).0 fs

pub record ServesAll (r : Run) (fs : List Frame) : Type 0 where
  pub runs : Runs (serve_all r fs).0
  pub plain : run (calls_from r fs) (table_in r) ≡ (table_in (serve_all r fs).0, (serve_all r fs).1)

-- What frames make of a lent state, one and many, and what they are answered.
use Rattle.std.specs.Prelude.{List, [], ◌∷◌, ℕ, zero, suc, take, drop}
use Rattle.meaning.specs.Limits.{frame_size}
use Rattle.meaning.specs.Lent.{Lent, free_nodes}
use Rattle.meaning.specs.Frames.{Frame, Answer, decode}
use Rattle.meaning.specs.Supply.{Supply, all_free}
use Rattle.meaning.specs.Serve.{Call, Reply}
use Rattle.frames.specs.Serve.{serve}
use Rattle.serving.specs.States.{lent_in, run_in}
use Rattle.serving.specs.Served.{serve_all}

-- ---- one frame

abbrev pub after : Lent → Frame → Lent
after s f = lent_in (serve (run_in s) f).0

abbrev pub answer : Lent → Frame → Answer
answer s f = (serve (run_in s) f).1

-- ---- frames in order

abbrev pub after_all : Lent → List Frame → Lent
after_all s fs = lent_in (serve_all (run_in s) fs).0

abbrev pub replies : Lent → List Frame → List Reply
replies s fs = (serve_all (run_in s) fs).1

-- the free nodes of a state, as the plain table is told of them
abbrev pub supply_of : Lent → Supply
supply_of s = all_free (free_nodes s.nodes)

-- each frame, with the nodes that are free when it comes
unfoldable pub calls : Lent → List Frame → List Call
calls s [] = []
calls s (f ∷ fs) = record { supply = supply_of s; frame = f } ∷ calls (after s f) fs

-- ---- a batch

-- the first k frames of the request bytes
unfoldable pub frames_in : (k : ℕ) → (requests : List ℕ) → List Frame
frames_in zero bs = []
frames_in (suc k) bs = decode (take frame_size bs) ∷ frames_in k (drop frame_size bs)

-- the nodes that are free when frame n of them comes
unfoldable pub free_at : Lent → List Frame → (n : ℕ) → Supply
free_at s [] n = supply_of s
free_at s (f ∷ fs) zero = supply_of s
free_at s (f ∷ fs) (suc n) = free_at (after s f) fs n

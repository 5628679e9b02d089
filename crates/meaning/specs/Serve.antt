-- What a frame does to the plain table and what it is answered; frames in order.
use Rattle.std.specs.Prelude.{List, [], ◌∷◌, ℕ, zero, suc, set}
use Rattle.meaning.specs.Limits.{done_number}
use Rattle.meaning.specs.Table.{Party, Table, party_at}
use Rattle.meaning.specs.Frames.{Frame, Answer}
use Rattle.meaning.specs.Operations.{op_of, giver, taker}
use Rattle.meaning.specs.Costs.{cost}
use Rattle.meaning.specs.Supply.{Supply}
use Rattle.meaning.specs.Checks.{source_of, left_of, seen_by, checks, first_of}
use Rattle.meaning.specs.Effects.{effect}

-- ---- one frame

-- fresh and value are 0
unfoldable pub refused : (number : ℕ) → Answer
refused n = record { number = n; fresh = 0; value = 0 }

-- a refusal writes only its own answer
unfoldable pub respond : (number : ℕ) → (taker : Party) → (done : Party × Answer) → Party × Answer
respond zero t done = done
respond (suc n) t done = (t, refused (suc n))

-- on the slots and walks of the parties that it names: the taker's afterwards, and the answer
unfoldable pub step : Supply → Frame → (giver taker : Party) → Party × Answer
step s f g t =
    let o = op_of f in
    let x = seen_by f g t in
    let e = effect o s f (source_of g f) (left_of g f) t in
    respond (first_of (checks o s f x)) t (e.0, record { number = done_number; fresh = (cost o x.bits x.length).fresh; value = e.1 })

-- on the table
unfoldable pub serve : Supply → Frame → Table → Table × Answer
serve s f t =
    let r = step s f (party_at t (giver f)) (party_at t (taker f)) in
    (set t (taker f) r.0, r.1)

-- ---- frames in order

-- a frame, and how many nodes are free when it comes
pub record Call : Type 0 where
  pub supply : Supply
  pub frame : Frame

pub record Reply : Type 0 where
  pub frame : Frame
  pub answer : Answer

unfoldable pub run : List Call → Table → Table × List Reply
run [] t = (t, [])
run (c ∷ cs) t =
    let r = serve c.supply c.frame t in
    let more = run cs r.0 in
    (more.0, record { frame = c.frame; answer = r.1 } ∷ more.1)

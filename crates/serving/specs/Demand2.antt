-- Demand 2: what a frame makes of a well-formed state and what it is answered are the plain table's; so for any number of frames, and for a batch.
use Rattle.std.specs.Prelude.{◌≡◌, ◌≢◌, ◌↔◌, Bool, true, not, List, ℕ, ◌+◌, ◌-◌, ◌/◌, ◌<◌, eqb, length}
use Rattle.meaning.specs.Limits.{frame_size, free_kind, done_number, no_nodes_number}
use Rattle.meaning.specs.Counting.{how_many}
use Rattle.meaning.specs.Lent.{kind_of, Lent, size, free_nodes}
use Rattle.meaning.specs.Links.{roots, Reached}
use Rattle.meaning.specs.WellFormed.{WellFormed}
use Rattle.meaning.specs.Table.{Table, party_at}
use Rattle.meaning.specs.Stands.{table_of}
use Rattle.meaning.specs.Frames.{Frame}
use Rattle.meaning.specs.Operations.{release, close_walk, op_of, giver}
use Rattle.meaning.specs.Costs.{cost}
use Rattle.meaning.specs.Supply.{no_limit}
use Rattle.meaning.specs.Checks.{first_of, source_of}
use Rattle.meaning.specs.Serve.{serve, run}
use Rattle.meaning.specs.Batch.{batch_checks, outcome, batch}
use Rattle.serving.specs.Lending.{after, answer, after_all, replies, supply_of, calls, frames_in, free_at}

-- ---- one frame

pub record Answered (s : Lent) (f : Frame) : Type 0 where
  pub formed : WellFormed (after s f)
  pub plain : serve (supply_of s) f (table_of s) ≡ (table_of (after s f), answer s f)
  -- free nodes fall by fresh; with a release or a close they don't fall, and fresh is 0
  pub fresh : (answer s f).fresh ≡ free_nodes s.nodes - free_nodes (after s f).nodes
  pub falls : op_of f ≢ release → op_of f ≢ close_walk → free_nodes (after s f).nodes + (answer s f).fresh ≡ free_nodes s.nodes

-- what a frame is charged
abbrev pub charge_for : Table → Frame → ℕ
charge_for t f = let v = source_of (party_at t (giver f)) f in (cost (op_of f) v.bits (length v.items)).charge

-- 10 is given exactly if all earlier checks pass and fewer nodes are free than the charge
abbrev pub ShortExactly : Lent → Frame → Type 0
ShortExactly s f = ((answer s f).number ≡ no_nodes_number) ↔ (((serve no_limit f (table_of s)).1.number ≡ done_number) × (free_nodes s.nodes < charge_for (table_of s) f))

-- ---- frames in order

pub record AllAnswered (s : Lent) (fs : List Frame) : Type 0 where
  pub formed : WellFormed (after_all s fs)
  pub plain : run (calls s fs) (table_of s) ≡ (table_of (after_all s fs), replies s fs)

-- as a batch
abbrev pub BatchAnswered : Lent → (requests room : List ℕ) → Type 0
BatchAnswered s requests room =
    let k = length requests / frame_size in
    let fs = frames_in k requests in
    batch true requests room (free_at s fs) (table_of s) ≡ outcome (first_of (batch_checks true requests room)) k room (table_of s) (table_of (after_all s fs), replies s fs)

-- ---- free nodes

abbrev pub in_use : Lent → (n : ℕ) → Bool
in_use s n = not (eqb (kind_of s.nodes n) free_kind)

pub record FreeAreRest (s : Lent) : Type 0 where
  -- a node is free exactly if no live slot or open walk reaches it
  pub unreached : (n : ℕ) → (kind_of s.nodes n ≡ free_kind) ↔ (Reached s.nodes (roots s) n → ⊥)
  pub reached : (n : ℕ) → (in_use s n ≡ true) ↔ Reached s.nodes (roots s) n
  -- N less the nodes reached
  pub rest : free_nodes s.nodes + how_many (size s) (in_use s) ≡ size s

-- ---- the statement

pub record Demand2 : Type 0 where
  pub one : (s : Lent) (f : Frame) → WellFormed s → Answered s f
  pub short : (s : Lent) (f : Frame) → WellFormed s → ShortExactly s f
  pub all : (s : Lent) (fs : List Frame) → WellFormed s → AllAnswered s fs
  pub batches : (s : Lent) (requests room : List ℕ) → WellFormed s → BatchAnswered s requests room
  -- after each call
  pub free : (s : Lent) (fs : List Frame) → WellFormed s → FreeAreRest (after_all s fs)

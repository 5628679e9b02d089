-- Demand 3, of frames served on a lent state: what a party is answered, and what it has in the end, is what it gets from the plain table when it runs apart from all others.
use Rattle.std.specs.Prelude.{◌≡◌, List, ℕ, ◌≤◌}
use Rattle.meaning.specs.Limits.{last_party, parties}
use Rattle.meaning.specs.Counting.{Each}
use Rattle.meaning.specs.Lent.{Lent}
use Rattle.meaning.specs.WellFormed.{WellFormed}
use Rattle.meaning.specs.Table.{Table}
use Rattle.meaning.specs.Stands.{table_of}
use Rattle.meaning.specs.Frames.{Frame}
use Rattle.meaning.specs.Serve.{Reply, run}
use Rattle.isolation.specs.Demand3.{answers_to, strike_out, frames_asked, party_by_party, without_limit, Own}
use Rattle.serving.specs.Lending.{after_all, replies}

module _ (s : Lent) (fs : List Frame) where
  -- the replies to all parties' frames, mixed, but for those answered 10
  abbrev pub left : List Reply
  left = strike_out (replies s fs)

  -- the frames of those on the plain table, party by party, with no limit of nodes
  abbrev pub apart : Table × List Reply
  apart = run (without_limit (party_by_party parties (frames_asked left))) (table_of s)

  pub record Isolated : Type 0 where
    pub tables : table_of (after_all s fs) ≡ apart.0
    pub answers : (p : ℕ) → p ≤ last_party → answers_to p left ≡ answers_to p apart.1

abbrev pub Demand3 : Type 0
Demand3 = (s : Lent) (fs : List Frame) → WellFormed s → Each Own fs → Isolated s fs

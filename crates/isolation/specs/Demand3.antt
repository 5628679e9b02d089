-- Demand 3: what a party is answered, and what it has in the end, does not depend on what other parties do. The statement.
use Rattle.std.specs.Prelude.{◌≡◌, ◌≢◌, Bool, cond, not, List, [], ◌∷◌, ◌++◌, map, ℕ, zero, suc, ◌≤◌, eqb, length}
use Rattle.meaning.specs.Limits.{last_party, no_nodes_number}
use Rattle.meaning.specs.Table.{Table}
use Rattle.meaning.specs.Frames.{Frame, Answer}
use Rattle.meaning.specs.Counting.{Each}
use Rattle.meaning.specs.Supply.{no_limit}
use Rattle.meaning.specs.Serve.{Call, Reply, run}

-- ---- the words of the statement

-- those that pass the test, in their order
unfoldable pub keep : {A : Type 0} → (A → Bool) → List A → List A
keep test [] = []
keep test (x ∷ xs) = cond (test x) (x ∷ keep test xs) (keep test xs)

-- a party's frames, in their order
unfoldable pub frames_of : (party : ℕ) → List Frame → List Frame
unfolding keep
frames_of p fs = keep (λ (f : Frame). eqb f.party p) fs

-- what a party is answered, in its order
unfoldable pub answers_to : (party : ℕ) → List Reply → List Answer
unfolding keep
answers_to p rs = map (λ (r : Reply). r.answer) (keep (λ (r : Reply). eqb r.frame.party p) rs)

-- the frames answered 10 are struck out
unfoldable pub strike_out : List Reply → List Reply
unfolding keep
strike_out rs = keep (λ (r : Reply). not (eqb r.answer.number no_nodes_number)) rs

abbrev pub frames_asked : List Reply → List Frame
frames_asked rs = map (λ (r : Reply). r.frame) rs

-- all frames of party 0, then all of party 1, and so on below party n
unfoldable pub party_by_party : (n : ℕ) → List Frame → List Frame
party_by_party zero fs = []
party_by_party (suc n) fs = party_by_party n fs ++ frames_of n fs

-- with no limit of nodes
abbrev pub without_limit : List Frame → List Call
without_limit fs = map (λ (f : Frame). record { supply = no_limit; frame = f }) fs

-- of parties 0 to 7, without the operations 0C and 0D
pub record Own (f : Frame) : Type 0 where
  pub party : f.party ≤ last_party
  pub not_hand_over : f.operation ≢ 0x0C
  pub not_free_nodes : f.operation ≢ 0x0D

-- ---- the statement

module _ (calls : List Call) (t : Table) where
  -- frames of all parties run mixed, with any number of nodes free at each of them
  abbrev pub mixed : Table × List Reply
  mixed = run calls t

  -- what is left of them when those answered 10 are struck out
  abbrev pub left : List Reply
  left = strike_out mixed.1

  -- the rest run again, party by party, with no limit
  abbrev pub apart : Table × List Reply
  apart = run (without_limit (party_by_party (suc last_party) (frames_asked left))) t

  -- then all slots and walks are the same, and each party is answered the same in its own order
  pub record Isolated : Type 0 where
    pub tables : mixed.0 ≡ apart.0
    pub answers : (p : ℕ) → p ≤ last_party → answers_to p left ≡ answers_to p apart.1

abbrev pub Demand3 : Type 0
Demand3 = (calls : List Call) (t : Table) → length t ≡ suc last_party → Each (λ (c : Call). Own c.frame) calls → Isolated calls t

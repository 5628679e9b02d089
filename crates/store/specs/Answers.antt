-- What the functions of the store answer, where that is more than one equation.
use Rattle.std.specs.Prelude.{◌≡◌, List, ◌++◌, ℕ, ◌+◌, set}
use Rattle.std.proofs.Math.Seq.{slice}
use Rattle.meaning.specs.Lent.{Nodes}
use Rattle.store.specs.Store.{Store, write_node, top, make}

-- node n is written, with a count of 1
pub record Written (s : Nodes) (counts : List ℕ) (n kind used : ℕ) (a : List ℕ) (s' : Nodes) (counts' : List ℕ) : Type 0 where
  pub node : s' ≡ write_node s n kind used a
  pub count : counts' ≡ set counts n 1

-- the free node on top is made, and the answer is its number
pub record Makes (s : Store) (kind used : ℕ) (a : List ℕ) (s' : Store) (node : ℕ) : Type 0 where
  pub made : s' ≡ make s kind used a
  pub taken : node ≡ top s

-- the first len of a, but the one at `but`
abbrev pub others : (a : List ℕ) → (len but : ℕ) → List ℕ
others a len but = slice 0 but a ++ slice (but + 1) len a

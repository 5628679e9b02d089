-- What is right about an edit.
use Rattle.std.specs.Prelude.{◌≡◌, ◌≢◌, List, ℕ, ◌+◌}
use Rattle.meaning.specs.Limits.{free_kind}
use Rattle.meaning.specs.Lent.{kind_of, VersionRecord}
use Rattle.meaning.specs.Trees.{contents}
use Rattle.meaning.specs.WellFormed.{Live}
use Rattle.store.specs.Store.{Store}
use Rattle.paths.specs.Paths.{Made}
use Rattle.paths.specs.Edits.{Edit, edit, share_edit}
use Rattle.trees.specs.Stock.{Stock}
use Rattle.trees.specs.Extends.{Extends}
use Rattle.trees.specs.Climbs.{Climb}

-- an edit makes a root, or shares one that is in use
pub data Rooted (s : Store) : (fresh : ℕ) → Edit → Type 0 where
  made : {taken : ℕ} {r : Made} (bits n : ℕ) → Climb s taken r → Rooted s taken (edit r bits n)
  shared : (v : VersionRecord) → kind_of s.nodes v.root ≢ free_kind → Rooted s 0 (share_edit s v)

-- so many fresh nodes are taken and k are left, nothing in use is changed, and the version that is answered stands for the items
pub record Edited (s : Store) (fresh k : ℕ) (items : List ℕ) (e : Edit) : Type 0 where
  pub rooted : Rooted s fresh e
  pub extends : Extends s.nodes e.store.nodes
  pub stock : Stock e.store k
  pub order : e.store.order ≡ s.order
  pub free : e.store.free + fresh ≡ s.free
  pub live : Live e.store.nodes e.version
  pub holds : contents e.store.nodes e.version ≡ items

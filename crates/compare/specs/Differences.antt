-- Where two trees of one height first differ.
use Rattle.std.specs.Prelude.{◌≡◌, ◌≢◌, List, ℕ, ◌+◌, ◌*◌, ◌/◌, ◌^◌, ◌≤◌, ◌<◌, min}
use Rattle.records.specs.declared.Version.{Version}
use Rattle.lookup.specs.Lookup.{element_in}

-- the elements below two nodes of height h are the same at every index of a range
abbrev pub SameIn : (cells : List ℕ) → (bits h n m from to : ℕ) → Type 0
SameIn cells bits h n m from to = (j : ℕ) → from ≤ j → j < to → element_in cells bits h n j ≡ element_in cells bits h m j

-- r is the first index of a range at which they differ, or the range's end
pub record FirstDifference (cells : List ℕ) (bits h n m from to r : ℕ) : Type 0 where
  pub least : from ≤ r
  pub most : r ≤ to
  pub same : SameIn cells bits h n m from r
  pub differs : r < to → element_in cells bits h n r ≢ element_in cells bits h m r

-- where the child ends that index i of a range is in: the first index of the next child, or the range's end
unfoldable pub child_end : (bits h i to : ℕ) → ℕ
child_end bits h i to = min ((i / 2 ^ (h * bits) + 1) * 2 ^ (h * bits)) to

-- before index r the two versions have the same elements, by their heights
abbrev pub AlikeUntil : (cells : List ℕ) → (a b : Version) → (h k r : ℕ) → Type 0
AlikeUntil cells a b h k r = (j : ℕ) → j < r → element_in cells a.bits h a.root j ≡ element_in cells b.bits k b.root j

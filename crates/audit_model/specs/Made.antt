-- The lent state of its slices.
use Rattle.std.specs.Prelude.{List, [], ℕ, ◌+◌, ◌*◌, ℤ, get_or}
use Rattle.meaning.specs.Limits.{walk_numbers}
use Rattle.meaning.specs.Lent.{Nodes, VersionRecord, WalkSlices, Lent}

abbrev pub nodes_of : (kinds used cells : List ℕ) → Nodes
nodes_of k u c = record { kinds = k; used = u; cells = c }

-- where kinds alone are read
abbrev pub kinds_of : (kinds : List ℕ) → Nodes
kinds_of k = nodes_of k [] []

abbrev pub walks_of : (numbers nodes : List ℕ) → (indices : List ℤ) → WalkSlices
walks_of a b i = record { numbers = a; nodes = b; indices = i }

abbrev pub lent_of : Nodes → (counts order : List ℕ) → List VersionRecord → WalkSlices → Lent
lent_of s c o v w = record { nodes = s; counts = c; order = o; versions = v; walks = w }

-- number k of walk n
abbrev pub walk_number : (numbers : List ℕ) → (n k : ℕ) → ℕ
walk_number a n k = get_or a (walk_numbers * n + k) 0

-- the version of walk n
abbrev pub walk_version : (numbers : List ℕ) → (n : ℕ) → VersionRecord
walk_version a n = record { live = walk_number a n 0; root = walk_number a n 1; bits = walk_number a n 2; length = walk_number a n 3 }

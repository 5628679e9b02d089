-- The descent into a version, with the code under which each node was already found right.
use Rattle.std.specs.Prelude.{Bool, true, false, ◌&&◌, List, ℕ, zero, suc, ◌+◌, ◌-◌, ◌*◌, ◌^◌, min, eqb, leb, ltb, length, get_or, set}
use Rattle.meaning.specs.Limits.{leaf_kind, branch_kind}
use Rattle.meaning.specs.Lent.{Nodes, kind_of, used_of, cell_of}
use Rattle.meaning.specs.Shape.{degree}

-- room for a size in a code: lengths of up to 20 bits, their limit included
abbrev pub size_room : ℕ
size_room = 2_097_152

-- room for a height in a code
abbrev pub height_room : ℕ
height_room = 32

-- bits, height and size as one number, which is not 0
unfoldable pub code : (bits h m : ℕ) → ℕ
code bits h m = (bits * height_room + h) * size_room + m

-- whether all was right so far, and the codes
pub record Answer : Type 0 where
  pub ok : Bool
  pub codes : List ℕ

abbrev pub answer : Bool → List ℕ → Answer
answer o t = record { ok = o; codes = t }

unfoldable pub pick : Bool → Answer → Answer → Answer
pick true a c = a
pick false a c = c

unfoldable pub go_on : Bool → List ℕ → (List ℕ → Answer) → Answer
go_on true t f = f t
go_on false t f = answer false t

-- the second where the first was right
abbrev pub and_then : Answer → (List ℕ → Answer) → Answer
and_then a f = go_on a.ok a.codes f

-- f 0 to f (k - 1), as long as each is right
unfoldable pub through : (k : ℕ) → (ℕ → List ℕ → Answer) → List ℕ → Answer
through zero f t = answer true t
through (suc k) f t = and_then (through k f t) (f k)

unfoldable pub marked : (n x : ℕ) → List ℕ → Answer
marked n x t = answer true (set t n x)

unfoldable pub leaf_ok : (kind used bits m : ℕ) → Bool
leaf_ok k u bits m = (eqb k leaf_kind && eqb u m) && leb m (degree bits)

unfoldable pub branch_ok : (kind used bits c m : ℕ) → Bool
branch_ok k u bits c m = ((eqb k branch_kind && leb u (degree bits)) && leb m (u * c)) && ltb (u * c) (m + c)

-- a number that is no node is refused, and a node that is marked with this code is right
unfoldable pub known : Nodes → (x n : ℕ) → List ℕ → Answer → Answer
known s x n t rest = pick (ltb n (length s.kinds)) (pick (eqb (get_or t n 0) x) (answer true t) rest) (answer false t)

-- child i of node n, by a visitor of children
abbrev pub child : ((m n : ℕ) → List ℕ → Answer) → Nodes → (c m n : ℕ) → (i : ℕ) → List ℕ → Answer
child f s c m n i t = f (min c (m - i * c)) (cell_of s n i) t

-- whether node n is a tree of height h that holds m elements; what is found right is marked, after its children
unfoldable pub visit : Nodes → (bits h m n : ℕ) → List ℕ → Answer
visit s bits zero m n t =
    known s (code bits 0 m) n t
    (pick (leaf_ok (kind_of s n) (used_of s n) bits m) (marked n (code bits 0 m) t) (answer false t))
visit s bits (suc h) m n t =
    known s (code bits (suc h) m) n t
    (pick (branch_ok (kind_of s n) (used_of s n) bits (degree bits ^ suc h) m)
    (and_then (through (used_of s n) (child (visit s bits h) s (degree bits ^ suc h) m n) t) (marked n (code bits (suc h) m)))
    (answer false t))

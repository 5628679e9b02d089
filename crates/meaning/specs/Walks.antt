-- "The record of an open walk agrees with its taken numbers from each end": the stacks of levels, as a function of the version and the numbers.
use Rattle.std.specs.Prelude.{cond, ◌||◌, List, [], ◌∷◌, ◌++◌, ℕ, zero, suc, ◌-◌, eqb, pos, length, replicate}
use Rattle.meaning.specs.Limits.{walk_levels}
use Rattle.meaning.specs.Lent.{Nodes, cell_of, VersionRecord, Level, no_level, WalkRecord}
use Rattle.meaning.specs.Shape.{bucket}
use Rattle.meaning.specs.Trees.{height_of}

abbrev level : (node index : ℕ) → Level
level n i = record { node = n; index = pos i }

-- the way from node n of height h to the element at an index, the leaf first
unfoldable pub way : Nodes → (bits h n index : ℕ) → List Level
way s bits zero n index = level n (bucket bits 0 index) ∷ []
way s bits (suc h) n index =
    let b = bucket bits (suc h) index in
    way s bits h (cell_of s n b) index ++ (level n b ∷ [])

-- Before anything is taken from an end there is no stack, and when everything has been taken the stack is empty; in between it is the way to the element that comes next from that end.
unfoldable pub stack : Nodes → VersionRecord → (taken index : ℕ) → List Level
stack s v taken index = cond (eqb taken 0 || eqb taken v.length) [] (way s v.bits (height_of v) v.root index)

-- levels above a stack are 0
unfoldable pub padded : List Level → List Level
padded ls = ls ++ replicate (walk_levels - length ls) no_level

unfoldable pub forward_stack : Nodes → WalkRecord → List Level
unfolding padded stack
forward_stack s w = padded (stack s w.version w.front w.front)

unfoldable pub backward_stack : Nodes → WalkRecord → List Level
unfolding padded stack
backward_stack s w = padded (stack s w.version w.back (w.version.length - 1 - w.back))

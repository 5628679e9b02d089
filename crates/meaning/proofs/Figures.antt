-- "Figures from both sides", by computation.
use mathlib.Core.Path.{◌≡◌, refl}
use mathlib.Core.List.{[], ◌∷◌}
use Prim.Native.Nat.{ℕ, suc}
use lib.Count.{count_leading_zeros}
use lib.ListN.{length, get_or}
use Rattle.meaning.specs.Limits.{new_code, clone_code, release_code, len_code, get_code, set_code, push_back_code, drop_last_code, open_walk_code, next_code, next_back_code, close_walk_code, hand_over_code, free_nodes_code, first_code, last_code, compare_code, last_operation}
use Rattle.meaning.specs.Counting.{sum_to, how_many, divides}
use Rattle.meaning.specs.Shape.{degree, bits_to_write, if_left, levels, height}
use Rattle.meaning.specs.Operations.{Op, new, clone, release, len, get, set_at, push_back, drop_last, open_walk, next, next_back, close_walk, hand_over, free_nodes, first, last, compare, unknown, operations}
use Rattle.meaning.specs.Costs.{drop_fresh, drop_cost}
use Rattle.meaning.specs.Effects.{order, signed}

-- those marked *
pub figures : (height 5 0 ≡ 0) × (height 5 1 ≡ 0) × (height 5 32 ≡ 0) × (height 5 33 ≡ 1) × (height 5 1024 ≡ 1) × (height 5 1025 ≡ 2)
    × (height 1 2 ≡ 0) × (height 1 3 ≡ 1) × (height 1 5 ≡ 2)
    × (drop_fresh 5 33 ≡ 0) × (drop_fresh 5 34 ≡ 2) × (drop_fresh 5 65 ≡ 1) × (drop_fresh 5 1025 ≡ 0)
unfolding height drop_fresh degree bits_to_write if_left levels divides how_many sum_to count_leading_zeros
figures = (refl, refl, refl, refl, refl, refl, refl, refl, refl, refl, refl, refl, refl)

-- the others on heights and drops
pub unmarked : (height 5 32768 ≡ 2) × (height 1 32768 ≡ 14) × (drop_fresh 5 1 ≡ 1)
unfolding height drop_fresh degree bits_to_write if_left levels divides how_many sum_to count_leading_zeros
unmarked = (refl, refl, refl)

-- on compare: [1, 2] with [1, 2], [] with [0], [2] with [1, 9]
pub compares : (signed (order (1 ∷ 2 ∷ []) (1 ∷ 2 ∷ [])) ≡ 0) × (signed (order [] (0 ∷ [])) ≡ 0xFFFF_FFFF) × (signed (order (2 ∷ []) (1 ∷ 9 ∷ [])) ≡ 1)
unfolding order signed
compares = (refl, refl, refl)

-- unsigned: the largest value comes after 0
pub unsigned : signed (order (0xFFFF_FFFF ∷ []) (0 ∷ [])) ≡ 1
unfolding order signed
unsigned = refl

-- ---- "Errors that look right"

-- the root grows from 32 to 33 and at no other length nearby
pub growing : (height 5 31 ≡ 0) × (height 5 32 ≡ 0) × (height 5 33 ≡ 1) × (height 5 34 ≡ 1)
unfolding height bits_to_write if_left levels count_leading_zeros
growing = (refl, refl, refl, refl)

-- a leaf root stays: at length 1 it is copied without its element, and so it is at length 2
pub pruning : (drop_fresh 5 1 ≡ 1) × (drop_fresh 5 2 ≡ 1) × (height 5 1 ≡ 0)
unfolding height drop_fresh degree bits_to_write if_left levels divides how_many sum_to count_leading_zeros
pruning = (refl, refl, refl)

-- drop's charge is not its fresh count: at 33 and at 1025 nothing is fresh, and 2 and 3 are charged
pub dropping : (drop_cost 5 33 ≡ record { fresh = 0; charge = 2 }) × (drop_cost 5 1025 ≡ record { fresh = 0; charge = 3 }) × (drop_cost 5 65 ≡ record { fresh = 1; charge = 2 })
unfolding height drop_fresh drop_cost degree bits_to_write if_left levels divides how_many sum_to count_leading_zeros
dropping = (refl, refl, refl)

-- ---- the operations by their numbers

abbrev op_at : ℕ → Op
op_at n = get_or operations n unknown

-- a number is the place of its operation in the list, and there are no others
pub numbered : (op_at new_code ≡ new) × (op_at clone_code ≡ clone) × (op_at release_code ≡ release) × (op_at len_code ≡ len)
    × (op_at get_code ≡ get) × (op_at set_code ≡ set_at) × (op_at push_back_code ≡ push_back) × (op_at drop_last_code ≡ drop_last)
    × (op_at open_walk_code ≡ open_walk) × (op_at next_code ≡ next) × (op_at next_back_code ≡ next_back) × (op_at close_walk_code ≡ close_walk)
    × (op_at hand_over_code ≡ hand_over) × (op_at free_nodes_code ≡ free_nodes) × (op_at first_code ≡ first) × (op_at last_code ≡ last)
    × (op_at compare_code ≡ compare)
    × (length operations ≡ suc last_operation)
unfolding operations
numbered = (refl, refl, refl, refl, refl, refl, refl, refl, refl, refl, refl, refl, refl, refl, refl, refl, refl, refl)

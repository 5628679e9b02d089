-- "What a call costs in nodes": fresh, and the charge.
use Rattle.std.specs.Prelude.{Bool, cond, not, ◌&&◌, ℕ, ◌+◌, ◌-◌, ◌^◌, leb, eqb}
use Rattle.meaning.specs.Counting.{how_many, divides}
use Rattle.meaning.specs.Shape.{degree, height}
use Rattle.meaning.specs.Operations.{Op, Price, no_nodes, empty_leaf, path_set, path_pushed, path_dropped, uses}

-- h is 1 or more and n - 1 = d ^ h: a drop leaves the root one child, which takes its place
abbrev pub loses_root : (bits n : ℕ) → Bool
loses_root bits n = leb 1 (height bits n) && eqb (n - 1) (degree bits ^ height bits n)

-- Drop from n at height h: 1 if n = 1; 0 if h is 1 or more and n - 1 = d ^ h; otherwise the number of k in 0 to h for which d ^ (k + 1) doesn't divide n - 1.
unfoldable pub drop_fresh : (bits n : ℕ) → ℕ
drop_fresh bits n =
    cond (eqb n 1) 1
    (cond (loses_root bits n) 0
    (how_many (height bits n + 1) (λ k. not (divides (degree bits ^ (k + 1)) (n - 1)))))

pub record Cost : Type 0 where
  pub fresh : ℕ
  pub charge : ℕ

-- the charge equals fresh
unfoldable pub plain : ℕ → Cost
plain n = record { fresh = n; charge = n }

-- by the source's bits and length
unfoldable pub new_cost : Cost
unfolding plain
new_cost = plain 1

unfoldable pub push_cost : (bits length : ℕ) → Cost
unfolding plain
push_cost bits n = plain (height bits (n + 1) + 1)

unfoldable pub set_cost : (bits length : ℕ) → Cost
unfolding plain
set_cost bits n = plain (height bits n + 1)

-- the Rust first copies the whole path
unfoldable pub drop_cost : (bits length : ℕ) → Cost
drop_cost bits n = record { fresh = drop_fresh bits n; charge = height bits n + 1 }

unfoldable pub priced : Price → (bits length : ℕ) → Cost
unfolding plain new_cost push_cost set_cost drop_cost
priced no_nodes b n = plain 0
priced empty_leaf b n = new_cost
priced path_set b n = set_cost b n
priced path_pushed b n = push_cost b n
priced path_dropped b n = drop_cost b n

-- of an operation
unfoldable pub cost : Op → (bits length : ℕ) → Cost
unfolding priced
cost o b n = priced (uses o).price b n

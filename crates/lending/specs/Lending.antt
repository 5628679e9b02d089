-- How much a host lends, and the number of a batch that lends too much or too little.
use Rattle.std.specs.Prelude.{◌≡◌, ◌↔◌, cond, ℕ, ◌/◌, ◌%◌, ◌≤◌, eqb, ltb, length}
use Rattle.meaning.specs.Limits.{max_nodes, frame_size, ill_formed_number, no_room_number, ragged_number}
use Rattle.meaning.specs.Lent.{Lent, size}
use Rattle.meaning.specs.WellFormed.{SizesFit}
use Rattle.requests.specs.Requests.{answer_place}
use Rattle.lending.specs.declared.Sizes.{Sizes}

abbrev pub no_sizes : Sizes
no_sizes = record { nodes = 0; used = 0; cells = 0; counts = 0; order = 0; versions = 0; walk_numbers = 0; walk_nodes = 0; walk_indices = 0 }

-- what is lent
abbrev pub sizes_of : Lent → Sizes
sizes_of s = record {
  nodes = length s.nodes.kinds;
  used = length s.nodes.used;
  cells = length s.nodes.cells;
  counts = length s.counts;
  order = length s.order;
  versions = length s.versions;
  walk_numbers = length s.walks.numbers;
  walk_nodes = length s.walks.nodes;
  walk_indices = length s.walks.indices;
}

-- the sizes of a state of n nodes are these, and of no other
pub record RightSizes (n : ℕ) (r : Sizes) : Type 0 where
  pub fits : 1 ≤ n → n ≤ max_nodes → (s : Lent) → (sizes_of s ≡ r) ↔ (SizesFit s × (size s ≡ n))
  pub none : (1 ≤ n → n ≤ max_nodes → ⊥) → r ≡ no_sizes

-- a batch on a state that can't be well-formed: batch checks run 13, 12, 11
abbrev pub refusal_of : (asked room : ℕ) → ℕ
refusal_of asked room = cond (eqb (asked % frame_size) 0) (cond (ltb room (answer_place (asked / frame_size))) no_room_number ill_formed_number) ragged_number

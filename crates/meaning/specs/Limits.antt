-- The limits, the sizes and the numbers of document 01, each by one name.
use Rattle.std.specs.Prelude.{ℕ, suc, ◌*◌, ◌^◌}

-- ---- "The state the host lends"

-- N is from 1 to this
abbrev pub max_nodes : ℕ
max_nodes = 65_536

-- the cells of a node
abbrev pub node_cells : ℕ
node_cells = 32

-- the kinds of a node
abbrev pub free_kind : ℕ
free_kind = 0

abbrev pub leaf_kind : ℕ
leaf_kind = 1

abbrev pub branch_kind : ℕ
branch_kind = 2

-- parties 0 to 7, and the version slots 0 to 7 and walks 0 and 1 of each
abbrev pub last_party : ℕ
last_party = 7

abbrev pub last_slot : ℕ
last_slot = 7

abbrev pub last_walk : ℕ
last_walk = 1

abbrev pub parties : ℕ
parties = suc last_party

abbrev pub party_slots : ℕ
party_slots = suc last_slot

abbrev pub party_walks : ℕ
party_walks = suc last_walk

-- the version records and the walk records of all parties
abbrev pub version_count : ℕ
version_count = parties * party_slots

abbrev pub walk_count : ℕ
walk_count = parties * party_walks

-- the party that is the host
abbrev pub host : ℕ
host = 0

abbrev pub max_bits : ℕ
max_bits = 5

abbrev pub default_bits : ℕ
default_bits = 5

-- the limit of lengths is a power of 2; this is the one place that says which
abbrev pub length_bits : ℕ
length_bits = 15

-- 32,768
abbrev pub max_length : ℕ
max_length = 2 ^ length_bits

-- values, indices and lengths are numbers of so many bits
abbrev pub word_width : ℕ
word_width = 32

-- the levels that a walk has room for: a height times its bits is below length_bits, so no version has more
abbrev pub walk_levels : ℕ
walk_levels = length_bits

-- the numbers of a walk record beside its levels: live, root, bits, length, front, back
abbrev pub walk_numbers : ℕ
walk_numbers = 6

-- the numbers of all walks, and the places for levels in the two stacks of each
abbrev pub all_numbers : ℕ
all_numbers = walk_count * walk_numbers

abbrev pub places : ℕ
places = walk_count * (2 * walk_levels)

-- ---- "Requests, one frame each"

abbrev pub frame_size : ℕ
frame_size = 12

abbrev pub answer_size : ℕ
answer_size = 6

-- the operations by their numbers
abbrev pub new_code : ℕ
new_code = 0x00

abbrev pub clone_code : ℕ
clone_code = 0x01

abbrev pub release_code : ℕ
release_code = 0x02

abbrev pub len_code : ℕ
len_code = 0x03

abbrev pub get_code : ℕ
get_code = 0x04

abbrev pub set_code : ℕ
set_code = 0x05

abbrev pub push_back_code : ℕ
push_back_code = 0x06

abbrev pub drop_last_code : ℕ
drop_last_code = 0x07

abbrev pub open_walk_code : ℕ
open_walk_code = 0x08

abbrev pub next_code : ℕ
next_code = 0x09

abbrev pub next_back_code : ℕ
next_back_code = 0x0A

abbrev pub close_walk_code : ℕ
close_walk_code = 0x0B

abbrev pub hand_over_code : ℕ
hand_over_code = 0x0C

abbrev pub free_nodes_code : ℕ
free_nodes_code = 0x0D

abbrev pub first_code : ℕ
first_code = 0x0E

abbrev pub last_code : ℕ
last_code = 0x0F

abbrev pub compare_code : ℕ
compare_code = 0x10

abbrev pub last_operation : ℕ
last_operation = compare_code

-- ---- "Numbers given back"

abbrev pub done_number : ℕ
done_number = 0

-- party above 7
abbrev pub no_party_number : ℕ
no_party_number = 1

-- operation above 10 hexadecimal
abbrev pub no_operation_number : ℕ
no_operation_number = 2

-- 0C or 0D from a party other than 0
abbrev pub host_only_number : ℕ
host_only_number = 3

-- a slot above 7, walk above 1, or named party above 7
abbrev pub out_of_range_number : ℕ
out_of_range_number = 4

-- a named source slot is empty, or the walk is closed
abbrev pub empty_source_number : ℕ
empty_source_number = 5

-- slot to be filled is live, or walk to be opened is open
abbrev pub live_target_number : ℕ
live_target_number = 6

-- bits outside 1 to 5
abbrev pub bad_bits_number : ℕ
bad_bits_number = 7

-- no element there
abbrev pub nothing_there_number : ℕ
nothing_there_number = 8

-- push on length 32,768
abbrev pub full_number : ℕ
full_number = 9

-- fewer free nodes than the charge
abbrev pub no_nodes_number : ℕ
no_nodes_number = 10

-- state not well-formed
abbrev pub ill_formed_number : ℕ
ill_formed_number = 11

-- answer room below 6 bytes a frame
abbrev pub no_room_number : ℕ
no_room_number = 12

-- request bytes not a multiple of 12
abbrev pub ragged_number : ℕ
ragged_number = 13

-- program only: a line that isn't a frame
abbrev pub not_a_frame_number : ℕ
not_a_frame_number = 14

-- the nodes of the program's state
abbrev pub program_nodes : ℕ
program_nodes = 256

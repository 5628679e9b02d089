-- The number that stands for each refusal, and for what was done.
use Rattle.std.specs.Prelude.{ℕ, Result, Ok, Err}
use Rattle.meaning.specs.Limits.{done_number, no_party_number, no_operation_number, host_only_number, out_of_range_number, empty_source_number, live_target_number, bad_bits_number, nothing_there_number, full_number, no_nodes_number, ill_formed_number, no_room_number, ragged_number, not_a_frame_number}
use Rattle.limits.specs.declared.numbers.Refusal.{Refusal}
use Rattle.limits.specs.declared.numbers.Refusal.TheVariants.{NoParty, NoOperation, HostOnly, OutOfRange, EmptySource, LiveTarget, BadBits, NothingThere, Full, NoNodes, IllFormed, NoRoom, Ragged, NotAFrame}

abbrev pub number_of : Refusal → ℕ
number_of NoParty = no_party_number
number_of NoOperation = no_operation_number
number_of HostOnly = host_only_number
number_of OutOfRange = out_of_range_number
number_of EmptySource = empty_source_number
number_of LiveTarget = live_target_number
number_of BadBits = bad_bits_number
number_of NothingThere = nothing_there_number
number_of Full = full_number
number_of NoNodes = no_nodes_number
number_of IllFormed = ill_formed_number
number_of NoRoom = no_room_number
number_of Ragged = ragged_number
number_of NotAFrame = not_a_frame_number

abbrev pub outcome_number : {A : Type 0} → Result A Refusal → ℕ
outcome_number (Ok a) = done_number
outcome_number (Err refusal) = number_of refusal

-- The number that stands for each operation, and the operation that the meaning calls by its name.
use Rattle.std.specs.Prelude.{◌≡◌, ℕ, ◌<◌, Result, MatchResult}
use Rattle.meaning.specs.Limits.{new_code, clone_code, release_code, len_code, get_code, set_code, push_back_code, drop_last_code, open_walk_code, next_code, next_back_code, close_walk_code, hand_over_code, free_nodes_code, first_code, last_code, compare_code, last_operation}
use Rattle.meaning.specs.Operations as meaning
use Rattle.limits.specs.declared.numbers.Refusal.{Refusal}
use Rattle.limits.specs.declared.numbers.Refusal.TheVariants.{NoOperation}
use Rattle.limits.specs.declared.operations.Operation.{Operation}
use Rattle.limits.specs.declared.operations.Operation.TheVariants.{New, Clone, Release, Len, Get, Set, PushBack, DropLast, OpenWalk, Next, NextBack, CloseWalk, HandOver, FreeNodes, First, Last, Compare}

abbrev pub code_of : Operation → ℕ
code_of New = new_code
code_of Clone = clone_code
code_of Release = release_code
code_of Len = len_code
code_of Get = get_code
code_of Set = set_code
code_of PushBack = push_back_code
code_of DropLast = drop_last_code
code_of OpenWalk = open_walk_code
code_of Next = next_code
code_of NextBack = next_back_code
code_of CloseWalk = close_walk_code
code_of HandOver = hand_over_code
code_of FreeNodes = free_nodes_code
code_of First = first_code
code_of Last = last_code
code_of Compare = compare_code

abbrev pub op_named : Operation → meaning.Op
op_named New = meaning.new
op_named Clone = meaning.clone
op_named Release = meaning.release
op_named Len = meaning.len
op_named Get = meaning.get
op_named Set = meaning.set_at
op_named PushBack = meaning.push_back
op_named DropLast = meaning.drop_last
op_named OpenWalk = meaning.open_walk
op_named Next = meaning.next
op_named NextBack = meaning.next_back
op_named CloseWalk = meaning.close_walk
op_named HandOver = meaning.hand_over
op_named FreeNodes = meaning.free_nodes
op_named First = meaning.first
op_named Last = meaning.last
op_named Compare = meaning.compare

-- the operation with this code, or that there is none
abbrev pub Decodes : ℕ → Result Operation Refusal → Type 0
Decodes code r = MatchResult r (λ operation. code_of operation ≡ code) (λ refusal. (refusal ≡ NoOperation) × (last_operation < code))

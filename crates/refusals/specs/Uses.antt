-- What the checks 1 to 6 ask of an operation's fields, and how those of them that look at an operation answer.
use Rattle.std.specs.Prelude.{Bool, true, false, cond, not, ◌&&◌, ◌||◌, ℕ, eqb, ltb}
use Rattle.meaning.specs.Limits.{last_party, last_slot, last_walk, host, done_number, host_only_number, out_of_range_number, empty_source_number, live_target_number}
use Rattle.meaning.specs.Frames.{Frame}
use Rattle.meaning.specs.Operations.{Op, Role, unused, source, filled, walked, opened, owner, bits, position, element, uses}
use Rattle.meaning.specs.Checks as checks
use Rattle.refusals.specs.declared.Uses.{Uses}
use Rattle.refusals.specs.declared.Standing.{Standing}

abbrev pub standing : (source_live target_live walk_open opened_open : Bool) → checks.Standing
standing s t w o = record { source_live = s; target_live = t; walk_open = w; opened_open = o }

abbrev pub standing_of : Standing → checks.Standing
standing_of s = standing s.source_live s.target_live s.walk_open s.opened_open

-- of a field by its role, from the five roles that the checks 1 to 6 look at
abbrev pub is_role : (source walked filled opened owner : Bool) → Role → Bool
is_role s w f o p source = s
is_role s w f o p walked = w
is_role s w f o p filled = f
is_role s w f o p opened = o
is_role s w f o p owner = p
is_role s w f o p unused = false
is_role s w f o p bits = false
is_role s w f o p position = false
is_role s w f o p element = false

-- the index and the value are owners together
abbrev pub uses_in : Op → Uses
uses_in o =
    let u = uses o in
    record {
      source = is_role true false false false false u.slot;
      walked = is_role false true false false false u.slot;
      filled = is_role false false true false false u.destination;
      opened = is_role false false false true false u.destination;
      other = is_role true false false false false u.destination;
      owners = is_role false false false false true u.index;
      host_alone = u.host_only;
    }

-- ---- the checks 3 to 6, by what an operation uses

-- the last slot or walk that a field can name
abbrev pub last_of : (walk : Bool) → ℕ
last_of walk = cond walk last_walk last_slot

abbrev pub host_only : Uses → Frame → Bool
host_only u f = u.host_alone && not (eqb f.party host)

abbrev pub out_of_range : Uses → Frame → Bool
out_of_range u f =
    ((u.source || u.walked) && ltb (last_of u.walked) f.slot)
    || ((u.filled || u.opened || u.other) && ltb (last_of u.opened) f.destination)
    || (u.owners && ltb last_party f.index)
    || (u.owners && ltb last_party f.value)

abbrev pub empty_source : Uses → Standing → Bool
empty_source u s = (u.source && not s.source_live) || (u.walked && not s.walk_open) || (u.other && not s.target_live)

abbrev pub live_target : Uses → Standing → Bool
live_target u s = (u.filled && s.target_live) || (u.opened && s.opened_open)

-- the number of the first that applies, or 0
abbrev pub later_number : Uses → Frame → Standing → ℕ
later_number u f s =
    cond (host_only u f) host_only_number
    (cond (out_of_range u f) out_of_range_number
    (cond (empty_source u s) empty_source_number
    (cond (live_target u s) live_target_number done_number)))

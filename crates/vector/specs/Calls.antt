-- What each call answers and makes of the store: refused with nothing changed, or done.
use Rattle.std.specs.Prelude.{cond, not, ◌&&◌, Result, Ok, Err, ℕ, ◌-◌, leb, ltb, eqb}
use Rattle.meaning.specs.Limits.{max_bits, max_length, done_number, bad_bits_number, nothing_there_number, full_number, no_nodes_number}
use Rattle.meaning.specs.Lent.{VersionRecord}
use Rattle.meaning.specs.Costs.{new_cost, set_cost, push_cost, drop_cost}
use Rattle.store.specs.Store.{Store}
use Rattle.paths.specs.Edits as edits
use Rattle.vector.specs.declared.Edit.{Edit}
use Rattle.vector.specs.declared.Refused.{Refused}
use Rattle.vector.specs.declared.Refused.TheVariants.{BadBits, NothingThere, Full, NoNodes}

-- ---- answers

-- of a call: an edit, or why there is none
abbrev pub Answer : Type 0
Answer = Result Edit Refused

-- the numbers of document 01
abbrev pub refusal_number : Refused → ℕ
refusal_number BadBits = bad_bits_number
refusal_number NothingThere = nothing_there_number
refusal_number Full = full_number
refusal_number NoNodes = no_nodes_number

abbrev pub number_of : Answer → ℕ
number_of (Ok e) = done_number
number_of (Err r) = refusal_number r

-- a live version, and the fall in free nodes
abbrev pub edit_with : (root bits length free left : ℕ) → Edit
edit_with n bits m f g = record { version = record { live = 1; root = n; bits = bits; length = m }; copied = f - g }

-- ---- calls

-- a store and an answer
pub record Called : Type 0 where
  pub store : Store
  pub answer : Answer

abbrev pub called_of : Store → Answer → Called
called_of s r = record { store = s; answer = r }

abbrev pub refused : Store → Refused → Called
refused s r = called_of s (Err r)

-- with so many free before
abbrev pub done : (free : ℕ) → edits.Edit → Called
done f e = called_of e.store (Ok (edit_with e.version.root e.version.bits e.version.length f e.store.free))

-- done if there are free nodes enough for the charge
abbrev pub charged : Store → (charge : ℕ) → edits.Edit → Called
charged s k e = cond (ltb s.free k) (refused s NoNodes) (done s.free e)

unfoldable pub new_call : Store → (bits : ℕ) → Called
new_call s bits = cond (not (leb 1 bits && leb bits max_bits)) (refused s BadBits) (charged s new_cost.charge (edits.new_edit s bits))

unfoldable pub set_call : Store → VersionRecord → (index value : ℕ) → Called
set_call s v i x = cond (leb v.length i) (refused s NothingThere) (charged s (set_cost v.bits v.length).charge (edits.set_edit s v i x))

unfoldable pub push_call : Store → VersionRecord → (value : ℕ) → Called
push_call s v x = cond (leb max_length v.length) (refused s Full) (charged s (push_cost v.bits v.length).charge (edits.push_edit s v x))

unfoldable pub drop_call : Store → VersionRecord → Called
drop_call s v = cond (eqb v.length 0) (refused s NothingThere) (charged s (drop_cost v.bits v.length).charge (edits.drop_edit s v))

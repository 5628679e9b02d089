-- The operations 00 to 10 hexadecimal, and the one list of what each of them uses, needs and costs.
use Rattle.std.specs.Prelude.{Bool, true, false, List, [], ◌∷◌, ℕ, get_or}
use Rattle.meaning.specs.Frames.{Frame}

pub data Op : Type 0 where
  new clone release len get set_at push_back drop_last open_walk next next_back close_walk hand_over free_nodes first last compare : Op
  unknown : Op

-- in the order of their numbers
unfoldable pub operations : List Op
operations =
    new ∷ clone ∷ release ∷ len ∷ get ∷ set_at ∷ push_back ∷ drop_last
    ∷ open_walk ∷ next ∷ next_back ∷ close_walk ∷ hand_over ∷ free_nodes ∷ first ∷ last
    ∷ compare ∷ []

unfoldable pub op_of : Frame → Op
op_of f = get_or operations f.operation unknown

-- What a field of a frame is to an operation.
pub data Role : Type 0 where
  unused : Role
  source : Role  -- a slot that must be live
  filled : Role  -- a slot that must be empty, to be filled
  walked : Role  -- a walk that must be open
  opened : Role  -- a walk that must be closed, to be opened
  owner : Role  -- a party named in the caller's place: in the index whose slot is the source, in the value whose slot is filled
  bits : Role  -- must be 1 to 5
  position : Role
  element : Role

-- What an operation needs to find, beyond its fields (checks 8 and 9).
pub data Want : Type 0 where
  nothing : Want
  item_at_index : Want  -- an element of the source at the index
  an_item : Want  -- a source of length above 0
  item_left : Want  -- a walk that has not ended
  room : Want  -- a source of length below the limit

-- What an operation costs in nodes; how many each price is stands in Costs.
pub data Price : Type 0 where
  no_nodes : Price
  empty_leaf : Price
  path_set : Price  -- the way to an element, with another element there
  path_pushed : Price  -- the way to a new last element
  path_dropped : Price  -- the way to the last element, without it

-- Who may ask for an operation, what its four fields are, what it needs to find, and its price.
pub record Uses : Type 0 where
  pub host_only : Bool
  pub slot : Role
  pub destination : Role
  pub index : Role
  pub value : Role
  pub wants : Want
  pub price : Price

-- by slot, destination, index and value
unfoldable pub anyone : Role → Role → Role → Role → Want → Price → Uses
anyone s d i v w p = record { host_only = false; slot = s; destination = d; index = i; value = v; wants = w; price = p }

unfoldable pub host_alone : Role → Role → Role → Role → Want → Price → Uses
host_alone s d i v w p = record { host_only = true; slot = s; destination = d; index = i; value = v; wants = w; price = p }

unfoldable pub uses : Op → Uses
unfolding anyone host_alone
uses new = anyone unused filled bits unused nothing empty_leaf
uses clone = anyone source filled unused unused nothing no_nodes
uses release = anyone source unused unused unused nothing no_nodes
uses len = anyone source unused unused unused nothing no_nodes
uses get = anyone source unused position unused item_at_index no_nodes
uses set_at = anyone source filled position element item_at_index path_set
uses push_back = anyone source filled unused element room path_pushed
uses drop_last = anyone source filled unused unused an_item path_dropped
uses open_walk = anyone source opened unused unused nothing no_nodes
uses next = anyone walked unused unused unused item_left no_nodes
uses next_back = anyone walked unused unused unused item_left no_nodes
uses close_walk = anyone walked unused unused unused nothing no_nodes
uses hand_over = host_alone source filled owner owner nothing no_nodes
uses free_nodes = host_alone unused unused unused unused nothing no_nodes
uses first = anyone source unused unused unused an_item no_nodes
uses last = anyone source unused unused unused an_item no_nodes
uses compare = anyone source source unused unused nothing no_nodes
uses unknown = anyone unused unused unused unused nothing no_nodes

-- ---- whose slots and walks a frame names: the caller's own, but for hand-over

unfoldable pub owner_or : Role → (named caller : ℕ) → ℕ
owner_or owner named caller = named
owner_or unused named caller = caller
owner_or source named caller = caller
owner_or filled named caller = caller
owner_or walked named caller = caller
owner_or opened named caller = caller
owner_or bits named caller = caller
owner_or position named caller = caller
owner_or element named caller = caller

-- the party whose slot or walk is read
unfoldable pub giver : Frame → ℕ
giver f = owner_or (uses (op_of f)).index f.index f.party

-- the party whose slot or walk is changed
unfoldable pub taker : Frame → ℕ
taker f = owner_or (uses (op_of f)).value f.value f.party

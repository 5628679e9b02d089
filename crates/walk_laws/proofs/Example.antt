-- No law is empty: the open walk of a well-formed state, which has [8, 9] left, answers 8 from the front and 9 from the back, and then nothing from either end.
use Rattle.std.specs.Prelude.{Some, None}
use mathlib.Core.Path.{◌≡◌, refl}
use mathlib.Core.Logic.{◌≢◌}
use mathlib.Core.Bool.{Bool, true, false}
use mathlib.Core.List.{List, [], ◌∷◌}
use Prim.Native.Nat.{ℕ, zero}
use native.Mathlib.Nat.{lt_irrefl}
use native.Mathlib.Omega.{arith}
use lib.Count.{count_leading_zeros}
use Rattle.meaning.specs.Counting.{rows}
use Rattle.meaning.specs.Lent.{Nodes, walk_record, walk_records}
use Rattle.meaning.specs.Shape.{degree, bits_to_write, if_left, levels, height, bucket}
use Rattle.meaning.specs.Trees.{element, contents}
use Rattle.meaning.specs.WellFormed.{Open}
use Rattle.meaning.specs.Table.{taking}
use Rattle.meaning.specs.Stands.{left_between, walk_of}
use Rattle.meaning.specs.Effects.{first_item, last_item, without_first, without_last}
use Rattle.meaning.proofs.Shared.{shared, node, shared-well-formed}
use Rattle.walk.specs.Walk.{Step, stepped, taken_by}
use Rattle.walk_laws.specs.Took.{SlicesFit, front_taken, back_taken, Took}
use Rattle.walk_laws.proofs.Records.{slices-fit}
use Rattle.walk_laws.proofs.Takes.{legal-open, ended-stays, next-takes, next-back-takes}

abbrev s : Nodes
s = shared.nodes

shared-fits : SlicesFit shared.walks
shared-fits = slices-fit shared shared-well-formed.sizes

live-there : (walk_record shared.walks 5).version.live ≡ 1
unfolding shared walk_record
live-there = refl

shared-open : Open s (walk_record shared.walks 5)
unfolding walk_records rows
shared-open = legal-open s (walk_record shared.walks 5) shared-well-formed.walks.1.1.1.1.1.0 live-there

shared-left : walk_of s (walk_record shared.walks 5) ≡ taking (8 ∷ 9 ∷ [])
unfolding shared node walk_of left_between contents element rows walk_record height degree bucket levels if_left bits_to_write count_leading_zeros
shared-left = refl

some : (x : ℕ) (xs : List ℕ) → x ∷ xs ≢ []
some x xs e = let z : ◌≡◌ {A = ℕ} 0 1 = cc in lt_irrefl zero (omega arith)

abbrev first : Step
first = taken_by s.cells s.used false shared.walks 5

first-took : Took s shared.walks 5 8 (9 ∷ []) (front_taken s (walk_record shared.walks 5)) first
unfolding first_item without_first
first-took = next-takes s shared.walks 5 shared-fits (omega arith) shared-open (8 ∷ 9 ∷ []) shared-left (some 8 (9 ∷ []))

abbrev second : Step
second = taken_by s.cells s.used true first.slices 5

second-took : Took s first.slices 5 9 [] (back_taken s (walk_record first.slices 5)) second
unfolding last_item without_last
second-took = next-back-takes s first.slices 5 first-took.sizes (omega arith) first-took.legal (9 ∷ []) first-took.walk (some 9 [])

pub meets : (first.answer ≡ Some 8) × (second.answer ≡ Some 9) × ((b : Bool) → taken_by s.cells s.used b second.slices 5 ≡ stepped second.slices None)
meets = (
  first-took.answer,
  second-took.answer,
  λ b. ended-stays s second.slices 5 second-took.sizes (omega arith) second-took.legal [] second-took.walk b refl,
)

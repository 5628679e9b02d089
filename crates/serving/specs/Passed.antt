-- A frame that no check refuses: each of the ten by its name, the first six apart.
use Rattle.std.specs.Prelude.{◌≡◌, false, not, ◌&&◌, List, [], ◌∷◌, ◌++◌, ltb, eqb}
use Rattle.meaning.specs.Limits.{last_party, last_operation, host}
use Rattle.meaning.specs.Frames.{Frame}
use Rattle.meaning.specs.Operations.{Op, uses}
use Rattle.meaning.specs.Costs.{cost}
use Rattle.meaning.specs.Supply.{Supply, is_short}
use Rattle.meaning.specs.Checks.{Standing, Seen, any_field, nothing_there, is_full, Check, find_checks, nodes_check}

pub record Entered (o : Op) (f : Frame) (x : Standing) : Type 0 where
  pub party : ltb last_party f.party ≡ false
  pub operation : ltb last_operation f.operation ≡ false
  pub allowed : (uses o).host_only && not (eqb f.party host) ≡ false
  pub range : any_field (uses o) f x (λ y. y.out_of_range) ≡ false
  pub source : any_field (uses o) f x (λ y. y.empty_source) ≡ false
  pub target : any_field (uses o) f x (λ y. y.live_target) ≡ false

-- 7 to 10: what is left when the first six have passed
unfoldable pub later_checks : Op → Supply → Frame → Seen → List Check
unfolding find_checks
later_checks o s f x = find_checks o f x ++ (nodes_check o s x ∷ [])

pub record Passed (o : Op) (s : Supply) (f : Frame) (x : Seen) : Type 0 where
  pub entered : Entered o f x.standing
  pub bits : any_field (uses o) f x.standing (λ y. y.bad_bits) ≡ false
  pub there : nothing_there (uses o).wants f.index x ≡ false
  pub room : is_full (uses o).wants x ≡ false
  pub nodes : is_short s.spend (cost o x.bits x.length).charge ≡ false

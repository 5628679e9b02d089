-- What an operation uses says of its fields what the checks 1 to 6 ask.
use mathlib.Core.Path.{◌≡◌, refl, ◌∙◌}
use mathlib.Core.Bool.{cond, not, ◌&&◌}
use mathlib.Core.List.{[], ◌∷◌}
use Prim.Native.Nat.{ℕ, zero, suc, ◌≤◌, ◌<◌}
use mathlib.Core.Logic.{◌≢◌}
use native.Mathlib.Nat.{lt_irrefl}
use native.Mathlib.Omega.{arith}
use borrow.Author.Tests.{ne_eqb, lt-ltb, le-ltb}
use lib.Dec.{eqb}
use lib.ListN.{get_or}
use Rattle.meaning.specs.Limits.{last_party, host, hand_over_code, last_operation, no_party_number, no_operation_number, host_only_number, out_of_range_number, empty_source_number, live_target_number}
use Rattle.meaning.specs.Frames.{Frame}
use Rattle.meaning.specs.Operations.{Op, new, clone, release, len, get, set_at, push_back, drop_last, open_walk, next, next_back, close_walk, hand_over, free_nodes, first, last, compare, unknown, operations, op_of, anyone, host_alone, uses, owner_or, giver, taker}
use Rattle.meaning.specs.Checks.{no_fault, faults, any_field, ◌if◌, entry_checks, first_of}
use Rattle.meaning.proofs.Booleans.{or-none}
use Rattle.limits.specs.Operations.{code_of, op_named}
use Rattle.limits.specs.declared.operations.Operation.{Operation}
use Rattle.limits.specs.declared.operations.Operation.TheVariants.{New, Clone, Release, Len, Get, Set, PushBack, DropLast, OpenWalk, Next, NextBack, CloseWalk, HandOver, FreeNodes, First, Last, Compare}
use Rattle.refusals.specs.Uses.{standing_of, uses_in, later_number}
use Rattle.refusals.specs.declared.Standing.{Standing}

-- ---- the operation of a frame

op-listed : (o : Operation) → get_or operations (code_of o) unknown ≡ op_named o
unfolding operations
op-listed New = refl
op-listed Clone = refl
op-listed Release = refl
op-listed Len = refl
op-listed Get = refl
op-listed Set = refl
op-listed PushBack = refl
op-listed DropLast = refl
op-listed OpenWalk = refl
op-listed Next = refl
op-listed NextBack = refl
op-listed CloseWalk = refl
op-listed HandOver = refl
op-listed FreeNodes = refl
op-listed First = refl
op-listed Last = refl
op-listed Compare = refl

pub op-is : (f : Frame) (o : Operation) → code_of o ≡ f.operation → op_of f ≡ op_named o
unfolding op_of
op-is f o e = rw (← e) (op-listed o)

code-small : (o : Operation) → code_of o ≤ last_operation
code-small New = omega arith
code-small Clone = omega arith
code-small Release = omega arith
code-small Len = omega arith
code-small Get = omega arith
code-small Set = omega arith
code-small PushBack = omega arith
code-small DropLast = omega arith
code-small OpenWalk = omega arith
code-small Next = omega arith
code-small NextBack = omega arith
code-small CloseWalk = omega arith
code-small HandOver = omega arith
code-small FreeNodes = omega arith
code-small First = omega arith
code-small Last = omega arith
code-small Compare = omega arith

-- ---- the checks

later-checks : (o : Op) (f : Frame) (s : Standing)
    → later_number (uses_in o) f s
    ≡ first_of ((host_only_number if (uses o).host_only && not (eqb f.party host))
    ∷ (out_of_range_number if any_field (uses o) f (standing_of s) (λ y. y.out_of_range))
    ∷ (empty_source_number if any_field (uses o) f (standing_of s) (λ y. y.empty_source))
    ∷ (live_target_number if any_field (uses o) f (standing_of s) (λ y. y.live_target))
    ∷ [])
unfolding first_of ◌if◌ any_field faults no_fault uses anyone host_alone
later-checks new f s = simp or-none
later-checks clone f s = simp or-none
later-checks release f s = simp or-none
later-checks len f s = simp or-none
later-checks get f s = simp or-none
later-checks set_at f s = simp or-none
later-checks push_back f s = simp or-none
later-checks drop_last f s = simp or-none
later-checks open_walk f s = simp or-none
later-checks next f s = simp or-none
later-checks next_back f s = simp or-none
later-checks close_walk f s = simp or-none
later-checks hand_over f s = simp or-none
later-checks free_nodes f s = refl
later-checks first f s = simp or-none
later-checks last f s = simp or-none
later-checks compare f s = simp or-none
later-checks unknown f s = refl

module _ (f : Frame) (s : Standing) where
  pub no-party : last_party < f.party → no_party_number ≡ first_of (entry_checks (op_of f) f (standing_of s))
  unfolding first_of ◌if◌ entry_checks
  no-party h = rw (lt-ltb last_party f.party h)

  pub no-operation : f.party ≤ last_party → last_operation < f.operation → no_operation_number ≡ first_of (entry_checks (op_of f) f (standing_of s))
  unfolding first_of ◌if◌ entry_checks
  no-operation l h = rw (le-ltb last_party f.party l, lt-ltb last_operation f.operation h)

  pub later : (o : Operation) → f.party ≤ last_party → code_of o ≡ f.operation → later_number (uses_in (op_named o)) f s ≡ first_of (entry_checks (op_of f) f (standing_of s))
  unfolding first_of ◌if◌ entry_checks
  later o l e = rw (le-ltb last_party f.party l, ← e, le-ltb last_operation (code_of o) (code-small o), e, op-is f o e) (later-checks (op_named o) f s)

-- ---- whose slots and walks

owners : (n x c : ℕ)
    → (cond (eqb n hand_over_code) x c ≡ owner_or (uses (get_or operations n unknown)).index x c)
    × (cond (eqb n hand_over_code) x c ≡ owner_or (uses (get_or operations n unknown)).value x c)
unfolding operations owner_or uses anyone host_alone
owners zero x c = (refl, refl)
owners (suc zero) x c = (refl, refl)
owners (suc (suc zero)) x c = (refl, refl)
owners (suc (suc (suc zero))) x c = (refl, refl)
owners (suc (suc (suc (suc zero)))) x c = (refl, refl)
owners (suc (suc (suc (suc (suc zero))))) x c = (refl, refl)
owners (suc (suc (suc (suc (suc (suc zero)))))) x c = (refl, refl)
owners (suc (suc (suc (suc (suc (suc (suc zero))))))) x c = (refl, refl)
owners (suc (suc (suc (suc (suc (suc (suc (suc zero)))))))) x c = (refl, refl)
owners (suc (suc (suc (suc (suc (suc (suc (suc (suc zero))))))))) x c = (refl, refl)
owners (suc (suc (suc (suc (suc (suc (suc (suc (suc (suc zero)))))))))) x c = (refl, refl)
owners (suc (suc (suc (suc (suc (suc (suc (suc (suc (suc (suc zero))))))))))) x c = (refl, refl)
owners (suc (suc (suc (suc (suc (suc (suc (suc (suc (suc (suc (suc zero)))))))))))) x c = (refl, refl)
owners (suc (suc (suc (suc (suc (suc (suc (suc (suc (suc (suc (suc (suc zero))))))))))))) x c = (refl, refl)
owners (suc (suc (suc (suc (suc (suc (suc (suc (suc (suc (suc (suc (suc (suc zero)))))))))))))) x c = (refl, refl)
owners (suc (suc (suc (suc (suc (suc (suc (suc (suc (suc (suc (suc (suc (suc (suc zero))))))))))))))) x c = (refl, refl)
owners (suc (suc (suc (suc (suc (suc (suc (suc (suc (suc (suc (suc (suc (suc (suc (suc zero)))))))))))))))) x c = (refl, refl)
owners (suc (suc (suc (suc (suc (suc (suc (suc (suc (suc (suc (suc (suc (suc (suc (suc (suc n))))))))))))))))) x c = let other : suc (suc (suc (suc (suc (suc (suc (suc (suc (suc (suc (suc (suc (suc (suc (suc (suc n)))))))))))))))) ≢ hand_over_code = λ e. lt_irrefl 0 (omega arith) in rw (ne_eqb (suc (suc (suc (suc (suc (suc (suc (suc (suc (suc (suc (suc (suc (suc (suc (suc (suc n))))))))))))))))) hand_over_code other) (refl, refl)

pub giver-is : (f : Frame) (r : ℕ) → r ≡ cond (eqb f.operation hand_over_code) f.index f.party → r ≡ giver f
unfolding giver op_of
giver-is f r h = h ∙ (owners f.operation f.index f.party).0

pub taker-is : (f : Frame) (r : ℕ) → r ≡ cond (eqb f.operation hand_over_code) f.value f.party → r ≡ taker f
unfolding taker op_of
taker-is f r h = h ∙ (owners f.operation f.value f.party).1

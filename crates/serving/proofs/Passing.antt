-- A frame is done exactly if no check applies.
use mathlib.Core.Path.{◌≡◌, refl, sym, ◌∙◌}
use mathlib.Core.Logic.{◌≢◌}
use mathlib.Core.Bool.{Bool, true, false, cond, ◌||◌}
use mathlib.Core.List.{List, [], ◌∷◌, ◌++◌}
use Prim.Native.Nat.{ℕ, ◌<◌}
use native.Mathlib.Decide.{ℕ_discrete}
use native.Mathlib.Omega.{arith}
use borrow.Author.Tests.{ltb-false}
use Rattle.meaning.specs.Limits.{done_number, parties, last_party}
use Rattle.meaning.specs.Counting.{Each}
use Rattle.meaning.specs.Frames.{Frame}
use Rattle.meaning.specs.Operations.{Op, Role, unused, source, filled, walked, opened, owner, bits, position, element, Uses, uses, op_of, owner_or, giver, taker}
use Rattle.meaning.specs.Supply.{Supply}
use Rattle.meaning.specs.Checks.{Standing, Seen, Faults, no_fault, faults, any_field, Check, ◌if◌, entry_checks, find_checks, earlier_checks, nodes_check, checks, first_of}
use Rattle.meaning.proofs.Booleans.{both_false}
use Rattle.serving.specs.Passed.{Entered, later_checks, Passed}

none-applies : (cs : List Check) → Each (λ (c : Check). c.number ≢ done_number) cs → first_of cs ≡ done_number → Each (λ (c : Check). c.applies ≡ false) cs
unfolding first_of
none-applies [] h e = tt
none-applies (c ∷ cs) h e = pick c.applies refl e (none-applies cs h.1)
  where
    pick : (b : Bool) → c.applies ≡ b → cond b c.number (first_of cs) ≡ done_number
        → (first_of cs ≡ done_number → Each (λ (x : Check). x.applies ≡ false) cs) → (c.applies ≡ false) × Each (λ (x : Check). x.applies ≡ false) cs
    pick true a k ih = absurd (h.0 k)
    pick false a k ih = (a, ih k)

entry_named : (o : Op) (f : Frame) (x : Standing) → Each (λ (c : Check). c.number ≢ done_number) (entry_checks o f x)
unfolding entry_checks ◌if◌
entry_named o f x = omega arith

later-named : (o : Op) (s : Supply) (f : Frame) (x : Seen) → Each (λ (c : Check). c.number ≢ done_number) (later_checks o s f x)
unfolding later_checks find_checks nodes_check ◌if◌
later-named o s f x = omega arith

pub entered : (o : Op) (f : Frame) (x : Standing) → first_of (entry_checks o f x) ≡ done_number → Entered o f x
unfolding entry_checks ◌if◌
entered o f x e =
    let (a, (b, (c, (d, (i, (j, _)))))) = none-applies (entry_checks o f x) (entry_named o f x) e in
    record { party = a; operation = b; allowed = c; range = d; source = i; target = j }

pub enters : (o : Op) (f : Frame) (x : Standing) → Entered o f x → first_of (entry_checks o f x) ≡ done_number
unfolding entry_checks ◌if◌ first_of
enters o f x p = rw (p.party, p.operation, p.allowed, p.range, p.source, p.target)

later : (o : Op) (s : Supply) (f : Frame) (x : Seen) → Entered o f x.standing → first_of (later_checks o s f x) ≡ done_number → Passed o s f x
unfolding later_checks find_checks nodes_check ◌if◌
later o s f x p e =
    let (k, (l, (m, (n, _)))) = none-applies (later_checks o s f x) (later-named o s f x) e in
    record { entered = p; bits = k; there = l; room = m; nodes = n }

-- ---- the first six, then the other four

first_then : (cs ds : List Check) → first_of cs ≡ done_number → Each (λ (c : Check). c.number ≢ done_number) cs → first_of (cs ++ ds) ≡ first_of ds
unfolding first_of
first_then [] ds e h = refl
first_then (c ∷ cs) ds e h = pick c.applies e (λ k. first_then cs ds k h.1)
  where
    pick : (b : Bool) → cond b c.number (first_of cs) ≡ done_number → (first_of cs ≡ done_number → first_of (cs ++ ds) ≡ first_of ds) → cond b c.number (first_of (cs ++ ds)) ≡ first_of ds
    pick true k rest = absurd (h.0 k)
    pick false k rest = rest k

first_alone : (cs ds : List Check) → first_of cs ≢ done_number → first_of (cs ++ ds) ≡ first_of cs
unfolding first_of
first_alone [] ds e = absurd (e refl)
first_alone (c ∷ cs) ds e = pick c.applies e (λ k. first_alone cs ds k)
  where
    pick : (b : Bool) → cond b c.number (first_of cs) ≢ done_number → (first_of cs ≢ done_number → first_of (cs ++ ds) ≡ first_of cs)
        → cond b c.number (first_of (cs ++ ds)) ≡ cond b c.number (first_of cs)
    pick true k rest = refl
    pick false k rest = rest k

pub entry-passes : (o : Op) (s : Supply) (f : Frame) (x : Seen) → first_of (entry_checks o f x.standing) ≡ done_number → first_of (checks o s f x) ≡ first_of (later_checks o s f x)
unfolding checks earlier_checks entry_checks find_checks later_checks
entry-passes o s f x e = first_then (entry_checks o f x.standing) (later_checks o s f x) e (entry_named o f x.standing)

pub entry-refuses : (o : Op) (s : Supply) (f : Frame) (x : Seen) → first_of (entry_checks o f x.standing) ≢ done_number → first_of (checks o s f x) ≡ first_of (entry_checks o f x.standing)
unfolding checks earlier_checks entry_checks find_checks later_checks
entry-refuses o s f x e = first_alone (entry_checks o f x.standing) (later_checks o s f x) e

-- ---- all ten

pub passed : (o : Op) (s : Supply) (f : Frame) (x : Seen) → first_of (checks o s f x) ≡ done_number → Passed o s f x
passed o s f x e = pick (ℕ_discrete (first_of (entry_checks o f x.standing)) done_number)
  where
    pick : Dec (first_of (entry_checks o f x.standing) ≡ done_number) → Passed o s f x
    pick (yes p) = later o s f x (entered o f x.standing p) (sym (entry-passes o s f x p) ∙ e)
    pick (no n) = absurd (n (sym (entry-refuses o s f x n) ∙ e))

pub passes : (o : Op) (s : Supply) (f : Frame) (x : Seen) → Passed o s f x → first_of (checks o s f x) ≡ done_number
unfolding later_checks find_checks nodes_check ◌if◌ first_of
passes o s f x p = entry-passes o s f x (enters o f x.standing p.entered) ∙ rw (p.bits, p.there, p.room, p.nodes)

-- ---- what each field has been found to be

-- a fault that no field has
pub record NoField (u : Uses) (f : Frame) (x : Standing) (fault : Faults → Bool) : Type 0 where
  pub slot : fault (faults u.slot f.slot x.source_live x.walk_open) ≡ false
  pub destination : fault (faults u.destination f.destination x.target_live x.opened_open) ≡ false
  pub index : fault (faults u.index f.index false false) ≡ false
  pub value : fault (faults u.value f.value false false) ≡ false

pub no_field : (u : Uses) (f : Frame) (x : Standing) (fault : Faults → Bool) → any_field u f x fault ≡ false → NoField u f x fault
unfolding any_field
no_field u f x fault e =
    let a = fault (faults u.slot f.slot x.source_live x.walk_open) in
    let b = fault (faults u.destination f.destination x.target_live x.opened_open) in
    let c = fault (faults u.index f.index false false) in
    let d = fault (faults u.value f.value false false) in
    let four = both_false (a || b || c) d e in
    let three = both_false (a || b) c four.0 in
    let two = both_false a b three.0 in
    record { slot = two.0; destination = two.1; index = three.1; value = four.1 }

-- ---- the parties that a frame names are there

owner-below : (o : Role) (n caller : ℕ) → (faults o n false false).out_of_range ≡ false → caller < parties → owner_or o n caller < parties
unfolding faults no_fault owner_or
owner-below owner n c e l = omega (arith, ltb-false last_party n e)
owner-below unused n c e l = l
owner-below source n c e l = l
owner-below filled n c e l = l
owner-below walked n c e l = l
owner-below opened n c e l = l
owner-below bits n c e l = l
owner-below position n c e l = l
owner-below element n c e l = l

caller-below : (o : Op) (f : Frame) (x : Standing) → Entered o f x → f.party < parties
caller-below o f x p = omega (arith, ltb-false last_party f.party p.party)

pub giver-below : (f : Frame) (x : Standing) → Entered (op_of f) f x → giver f < parties
unfolding giver
giver-below f x p = owner-below (uses (op_of f)).index f.index f.party (no_field (uses (op_of f)) f x _ p.range).index (caller-below (op_of f) f x p)

pub taker-below : (f : Frame) (x : Standing) → Entered (op_of f) f x → taker f < parties
unfolding taker
taker-below f x p = owner-below (uses (op_of f)).value f.value f.party (no_field (uses (op_of f)) f x _ p.range).value (caller-below (op_of f) f x p)

-- a party's own call, known by its operation
pub own-party : (f : Frame) (o : Op) → op_of f ≡ o → owner_or (uses o).index f.index f.party ≡ owner_or (uses o).value f.value f.party → giver f ≡ taker f
unfolding giver taker
own-party f o e h = rw e h

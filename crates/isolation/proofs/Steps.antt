-- One frame: what its answer can be, and that the number of free nodes matters to number 10 and to the report of free nodes alone.
use mathlib.Core.Path.{◌≡◌, refl, ap₂, ◌∙◌}
use mathlib.Core.Logic.{◌≢◌}
use mathlib.Core.Bool.{Bool, true, false, cond}
use mathlib.Core.List.{List, [], ◌∷◌, ◌++◌}
use Prim.Native.Nat.{ℕ, zero, suc}
use native.Mathlib.Omega.{arith}
use lib.ListN.{set}
use lib.Seq.{set-get_or}
use Rattle.meaning.specs.Limits.{done_number, no_nodes_number}
use Rattle.meaning.specs.Table.{Version, Party, Table, party_at, fresh_party}
use Rattle.meaning.specs.Frames.{Frame, Answer}
use Rattle.meaning.specs.Operations.{Op, new, clone, release, len, get, set_at, push_back, drop_last, open_walk, next, next_back, close_walk, hand_over, free_nodes, first, last, compare, unknown, op_of, anyone, uses, owner_or, giver, taker}
use Rattle.meaning.specs.Costs.{cost}
use Rattle.meaning.specs.Supply.{Supply, no_limit, is_short}
use Rattle.meaning.specs.Checks.{Seen, Check, ◌if◌, earlier_checks, nodes_check, checks, first_of, source_of, left_of, seen_by}
use Rattle.meaning.specs.Effects.{effect}
use Rattle.meaning.specs.Serve.{respond, step, serve}
use Rattle.meaning.proofs.Answers.{respond-number}
use Rattle.isolation.specs.Demand3.{Own}
use Rattle.isolation.proofs.Operations.{code, op-number}

-- ---- answers

pub step-number : (s : Supply) (f : Frame) (g t : Party) → (step s f g t).1.number ≡ first_of (checks (op_of f) s f (seen_by f g t))
unfolding step
step-number s f g t = respond-number _ t _ refl

-- a refusal changes nothing
pub respond-refused : (n : ℕ) (t : Party) (r : Party × Answer) → n ≢ 0 → (respond n t r).0 ≡ t
unfolding respond
respond-refused zero t r h = absurd (h refl)
respond-refused (suc n) t r h = refl

pub step-refused : (s : Supply) (f : Frame) (g t : Party) → (step s f g t).1.number ≢ 0 → (step s f g t).0 ≡ t
unfolding step
step-refused s f g t h = respond-refused _ t _ (λ e. h (step-number s f g t ∙ e))

pub serve-refused : (s : Supply) (f : Frame) (t : Table) → (serve s f t).1.number ≢ 0 → (serve s f t).0 ≡ t
unfolding serve party_at
serve-refused s f t h = rw (step-refused s f _ _ h) (set-get_or t (taker f) fresh_party)

-- ---- the limit

-- the last check decides nothing if its number is not given
last-check : (l : List Check) (n : ℕ) (b : Bool) → first_of (l ++ ((n if b) ∷ [])) ≢ n → first_of (l ++ ((n if b) ∷ [])) ≡ first_of (l ++ ((n if false) ∷ []))
unfolding first_of ◌if◌
last-check [] n true h = absurd (h refl)
last-check [] n false h = refl
last-check (c ∷ l) n b h = pick c.applies (last-check l n b) h
  where
    pick : (a : Bool) → (first_of (l ++ ((n if b) ∷ [])) ≢ n → first_of (l ++ ((n if b) ∷ [])) ≡ first_of (l ++ ((n if false) ∷ [])))
        → cond a c.number (first_of (l ++ ((n if b) ∷ []))) ≢ n
        → cond a c.number (first_of (l ++ ((n if b) ∷ []))) ≡ cond a c.number (first_of (l ++ ((n if false) ∷ [])))
    pick true ih k = refl
    pick false ih k = ih k

checks-unlimited : (o : Op) (s : Supply) (f : Frame) (x : Seen) → first_of (checks o s f x) ≢ no_nodes_number → first_of (checks o s f x) ≡ first_of (checks o no_limit f x)
unfolding checks nodes_check is_short
checks-unlimited o s f x h = last-check (earlier_checks o f x) no_nodes_number (is_short s.spend (cost o x.bits x.length).charge) h

effect-unlimited : (o : Op) → o ≢ free_nodes → (s : Supply) (f : Frame) (v : Version) (w : List ℕ) (t : Party) → effect o s f v w t ≡ effect o no_limit f v w t
unfolding effect
effect-unlimited new h s f v w t = refl
effect-unlimited clone h s f v w t = refl
effect-unlimited release h s f v w t = refl
effect-unlimited len h s f v w t = refl
effect-unlimited get h s f v w t = refl
effect-unlimited set_at h s f v w t = refl
effect-unlimited push_back h s f v w t = refl
effect-unlimited drop_last h s f v w t = refl
effect-unlimited open_walk h s f v w t = refl
effect-unlimited next h s f v w t = refl
effect-unlimited next_back h s f v w t = refl
effect-unlimited close_walk h s f v w t = refl
effect-unlimited hand_over h s f v w t = refl
effect-unlimited free_nodes h s f v w t = absurd (h refl)
effect-unlimited first h s f v w t = refl
effect-unlimited last h s f v w t = refl
effect-unlimited compare h s f v w t = refl
effect-unlimited unknown h s f v w t = refl

pub step-unlimited : (s : Supply) (f : Frame) (g t : Party) → op_of f ≢ free_nodes → (step s f g t).1.number ≢ no_nodes_number → step s f g t ≡ step no_limit f g t
unfolding step
step-unlimited s f g t o h =
    ap₂ (λ (n : ℕ) (e : Party × ℕ). respond n t (e.0, record { number = done_number; fresh = (cost (op_of f) (seen_by f g t).bits (seen_by f g t).length).fresh; value = e.1 }))
    (checks-unlimited (op_of f) s f (seen_by f g t) (λ e. h (step-number s f g t ∙ e)))
    (effect-unlimited (op_of f) o s f (source_of g f) (left_of g f) t)

pub serve-unlimited : (s : Supply) (f : Frame) (t : Table) → op_of f ≢ free_nodes → (serve s f t).1.number ≢ no_nodes_number → serve s f t ≡ serve no_limit f t
unfolding serve
serve-unlimited s f t o h = rw (step-unlimited s f _ _ o h)

-- ---- whose slots

giver-of : (o : Op) → o ≢ hand_over → (i p : ℕ) → (owner_or (uses o).index i p ≡ p) × (owner_or (uses o).value i p ≡ p)
unfolding uses anyone owner_or
giver-of new h i p = (refl, refl)
giver-of clone h i p = (refl, refl)
giver-of release h i p = (refl, refl)
giver-of len h i p = (refl, refl)
giver-of get h i p = (refl, refl)
giver-of set_at h i p = (refl, refl)
giver-of push_back h i p = (refl, refl)
giver-of drop_last h i p = (refl, refl)
giver-of open_walk h i p = (refl, refl)
giver-of next h i p = (refl, refl)
giver-of next_back h i p = (refl, refl)
giver-of close_walk h i p = (refl, refl)
giver-of hand_over h i p = absurd (h refl)
giver-of free_nodes h i p = (refl, refl)
giver-of first h i p = (refl, refl)
giver-of last h i p = (refl, refl)
giver-of compare h i p = (refl, refl)
giver-of unknown h i p = (refl, refl)

pub own-op : (f : Frame) → Own f → (op_of f ≢ hand_over) × (op_of f ≢ free_nodes)
unfolding op_of code
own-op f w = (
  λ e. w.not_hand_over (op-number f.operation hand_over e (omega arith)),
  λ e. w.not_free_nodes (op-number f.operation free_nodes e (omega arith)),
)

-- a party's own call reads and changes its own slots and walks alone
pub serve-own : (s : Supply) (f : Frame) (t : Table) → Own f
    → serve s f t ≡ (set t f.party (step s f (party_at t f.party) (party_at t f.party)).0, (step s f (party_at t f.party) (party_at t f.party)).1)
unfolding serve giver taker
serve-own s f t w =
    let h : op_of f ≢ hand_over = (own-op f w).0 in
    rw ((giver-of (op_of f) h f.index f.party).0, (giver-of (op_of f) h f.value f.party).1)

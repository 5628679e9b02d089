-- What an answer can be: the number of the first check that applies; a refusal changes nothing; no call needs more fresh nodes than it is charged, and what it needs fits a byte.
use mathlib.Core.Path.{◌≡◌, refl, ap}
use mathlib.Core.Logic.{◌≢◌}
use mathlib.Core.Bool.{Bool, true, false, cond, ◌&&◌}
use mathlib.Core.List.{List, [], ◌∷◌}
use Prim.Native.Nat.{ℕ, zero, suc, ◌+◌, ◌-◌, ◌/◌, ◌%◌, ◌^◌, ◌≤◌}
use native.Mathlib.Nat.{le_trans, div-le_self}
use native.Mathlib.Omega.{arith}
use lib.Dec.{eqb, leb}
use lib.ListN.{get_or, set}
use Rattle.meaning.specs.Limits.{word_width, done_number, no_nodes_number}
use Rattle.meaning.specs.Counting.{Each}
use Rattle.meaning.specs.Shape.{degree, bits_to_write, if_left, levels, height}
use Rattle.meaning.specs.Table.{Party, Table, fresh_party, party_at}
use Rattle.meaning.specs.Frames.{Frame, Answer}
use Rattle.meaning.specs.Operations.{Op, Price, no_nodes, empty_leaf, path_set, path_pushed, path_dropped, uses, op_of, giver, taker}
use Rattle.meaning.specs.Costs.{drop_fresh, priced, cost}
use Rattle.meaning.specs.Supply.{Supply}
use Rattle.meaning.specs.Checks.{Seen, Check, ◌if◌, entry_checks, find_checks, earlier_checks, nodes_check, checks, first_of, seen_by}
use Rattle.meaning.specs.Serve.{refused, respond, step, serve}
use Rattle.meaning.proofs.Lists.{many-le}

-- ---- numbers

-- the number that a frame is answered: that of its first check that applies
abbrev pub verdict : Supply → Frame → Table → ℕ
verdict s f t = first_of (checks (op_of f) s f (seen_by f (party_at t (giver f)) (party_at t (taker f))))

pub respond-number : (n : ℕ) (t : Party) (r : Party × Answer) → r.1.number ≡ done_number → (respond n t r).1.number ≡ n
unfolding respond refused
respond-number zero t r e = e
respond-number (suc n) t r e = refl

pub serve-number : (s : Supply) (f : Frame) (t : Table) → (serve s f t).1.number ≡ verdict s f t
unfolding serve step
serve-number s f t = respond-number _ _ _ refl

first-le : (k : ℕ) (cs : List Check) → Each (λ (c : Check). c.number ≤ k) cs → first_of cs ≤ k
unfolding first_of
first-le k [] h = omega arith
first-le k (c ∷ cs) h = pick c.applies (first-le k cs h.1)
  where
    pick : (b : Bool) → first_of cs ≤ k → cond b c.number (first_of cs) ≤ k
    pick true l = h.0
    pick false l = l

checks-le : (o : Op) (s : Supply) (f : Frame) (x : Seen) → Each (λ (c : Check). c.number ≤ no_nodes_number) (checks o s f x)
unfolding entry_checks find_checks earlier_checks nodes_check checks ◌if◌
checks-le o s f x = omega arith

-- a frame is answered 0 to 10
pub number-le : (s : Supply) (f : Frame) (t : Table) → (serve s f t).1.number ≤ no_nodes_number
number-le s f t = rw serve-number (first-le no_nodes_number (checks (op_of f) s f _) (checks-le (op_of f) s f _))

-- ---- refusals

set_same : {A : Type 0} (xs : List A) (n : ℕ) (d : A) → set xs n (get_or xs n d) ≡ xs
set_same [] n d = refl
set_same (x ∷ xs) zero d = refl
set_same {A} (x ∷ xs) (suc n) d = ap (λ (ys : List A). x ∷ ys) (set_same xs n d)

respond-refused : (n : ℕ) (t : Party) (r : Party × Answer) → n ≢ done_number → respond n t r ≡ (t, refused n)
unfolding respond
respond-refused zero t r f = absurd (f refl)
respond-refused (suc n) t r f = refl

-- a refused frame changes nothing, and its answer is the number with fresh and value 0
pub refused-same : (s : Supply) (f : Frame) (t : Table) → verdict s f t ≢ done_number → serve s f t ≡ (t, refused (verdict s f t))
unfolding serve step party_at
refused-same s f t h = rw (respond-refused (verdict s f t) (party_at t (taker f)) _ h) (ap (λ (x : Table). (x, refused (verdict s f t))) (set_same t (taker f) fresh_party))

-- ---- costs

levels-le : (b c : ℕ) → levels b c ≤ c
unfolding levels if_left
levels-le b c = go (c % b)
  where
    go : (r : ℕ) → c / b + if_left r - 1 ≤ c
    go zero = omega (arith, div-le_self c b)
    go (suc r) = omega (arith, div-le_self c b)

-- on any length and bits at all, legal or not
pub height-le : (b n : ℕ) → height b n ≤ word_width
unfolding height bits_to_write
height-le b zero = omega arith
height-le b (suc zero) = omega arith
height-le b (suc (suc n)) = omega (arith, levels-le b (bits_to_write (suc n)))

cond-le : (b : Bool) {x y k : ℕ} → x ≤ k → y ≤ k → cond b x y ≤ k
cond-le true l m = l
cond-le false l m = m

-- a drop has at most its charge of fresh nodes
pub drop_le : (b n : ℕ) → drop_fresh b n ≤ height b n + 1
unfolding drop_fresh
drop_le b n = cond-le (eqb n 1) (omega arith) (cond-le (leb 1 (height b n) && eqb (n - 1) (degree b ^ height b n)) (omega arith) (many-le (height b n + 1) _))

price-le : (p : Price) (b n : ℕ) → ((priced p b n).fresh ≤ (priced p b n).charge) × ((priced p b n).charge ≤ suc word_width)
unfolding priced
price-le no_nodes b n = omega arith
price-le empty_leaf b n = omega arith
price-le path_set b n = omega (arith, height-le b n)
price-le path_pushed b n = omega (arith, height-le b (n + 1))
price-le path_dropped b n = omega (arith, height-le b n, drop_le b n)

pub cost-le : (o : Op) (b n : ℕ) → ((cost o b n).fresh ≤ (cost o b n).charge) × ((cost o b n).charge ≤ suc word_width)
unfolding cost
cost-le o b n = price-le (uses o).price b n

respond-fresh : (n : ℕ) (t : Party) (r : Party × Answer) → (respond n t r).1.fresh ≤ r.1.fresh
unfolding respond refused
respond-fresh zero t r = omega arith
respond-fresh (suc n) t r = omega arith

-- fresh is at most 33, on any table at all, so it fits its byte
pub fresh-le : (s : Supply) (f : Frame) (t : Table) → (serve s f t).1.fresh ≤ suc word_width
unfolding serve step
fresh-le s f t = let x = seen_by f (party_at t (giver f)) (party_at t (taker f)) in le_trans (respond-fresh _ _ _) (omega (arith, cost-le (op_of f) x.bits x.length))

-- Demand 3.
use mathlib.Core.Path.{◌≡◌, refl, sym, ap, ◌∙◌}
use mathlib.Core.Bool.{Bool, true, false, cond, not}
use mathlib.Core.List.{List, [], ◌∷◌}
use Prim.Native.Nat.{ℕ, suc, ◌≤◌, ◌<◌}
use native.Mathlib.Omega.{arith}
use lib.Dec.{eqb}
use lib.ListN.{length, get_or, length-set}
use lib.Seq.{get_or-set_same, get_or-set_other, ext_get_or}
use Rattle.meaning.specs.Limits.{last_party, no_nodes_number}
use Rattle.meaning.specs.Table.{Table, party_at, fresh_party}
use Rattle.meaning.specs.Counting.{Each}
use Rattle.meaning.specs.Frames.{Frame, Answer}
use Rattle.meaning.specs.Supply.{Supply, no_limit}
use Rattle.meaning.specs.Serve.{step, serve, Call, Reply, run}
use Rattle.meaning.proofs.Lists.{each_map}
use Rattle.isolation.specs.Demand3.{keep, frames_of, answers_to, strike_out, frames_asked, party_by_party, without_limit, Own, Demand3}
use Rattle.isolation.proofs.Keeping.{sorted-one, each-sorted}
use Rattle.isolation.proofs.Steps.{own-op, serve-own}
use Rattle.isolation.proofs.Parties.{alone, together, Apart, isolation}
use Rattle.isolation.proofs.Striking.{run-struck}

pub length-serve : (s : Supply) (f : Frame) (t : Table) → length (serve s f t).0 ≡ length t
unfolding serve
length-serve s f t = simp length-set

pub length_run : (cs : List Call) (t : Table) → length (run cs t).0 ≡ length t
unfolding run
length_run [] t = refl
length_run (c ∷ cs) t = length_run cs (serve c.supply c.frame t).0 ∙ length-serve c.supply c.frame t

-- a run with no limit, as the frames alone
run-together : (fs : List Frame) (t : Table) → run (without_limit fs) t ≡ together (serve no_limit) fs t
unfolding run together
run-together [] t = refl
run-together (f ∷ fs) t = rw (run-together fs (serve no_limit f t).0)

-- on a table of 8 parties, a party's own call reads and changes its own slots and walks alone
pub table-apart : Apart (λ p t. party_at t p) (serve no_limit) (λ f x. step no_limit f x x) (λ (t : Table). length t ≡ suc last_party)
unfolding party_at
table-apart =
    record {
      good = λ f t w e. length-serve no_limit f t ∙ e;
      own = λ f t w e. let l : f.party < length t = omega (arith, w.party) in
          ap (λ (x : Table × Answer). get_or x.0 f.party fresh_party) (serve-own no_limit f t w) ∙ get_or-set_same t f.party _ fresh_party l;
      told = λ f t w e. ap (λ (x : Table × Answer). x.1) (serve-own no_limit f t w);
      others = λ f t w e p d. ap (λ (x : Table × Answer). get_or x.0 p fresh_party) (serve-own no_limit f t w) ∙ get_or-set_other t f.party p _ fresh_party d;
    }

-- each party's slots, walks and answers are those of its own frames, run alone
pub isolated : (fs : List Frame) (t : Table) (p : ℕ) → length t ≡ suc last_party → Each Own fs
    → (party_at (run (without_limit fs) t).0 p ≡ (alone (λ f x. step no_limit f x x) (frames_of p fs) (party_at t p)).0)
    × (answers_to p (run (without_limit fs) t).1 ≡ (alone (λ f x. step no_limit f x x) (frames_of p fs) (party_at t p)).1)
isolated fs t p e h = rw (run-together fs t) (isolation _ _ _ _ table-apart fs t p h e)

-- mixed and party by party come to the same
pub sorted-same : (fs : List Frame) (t : Table) → length t ≡ suc last_party → Each Own fs
    → ((run (without_limit fs) t).0 ≡ (run (without_limit (party_by_party (suc last_party) fs)) t).0)
    × ((p : ℕ) → p ≤ last_party → answers_to p (run (without_limit fs) t).1 ≡ answers_to p (run (without_limit (party_by_party (suc last_party) fs)) t).1)
unfolding party_at
sorted-same fs t e h = (
  ext_get_or fresh_party _ _ (length_run (without_limit fs) t ∙ sym (length_run (without_limit sorted) t))
      (λ p l. (both p (rw length_run at l)).0),
  λ p l. (both p (omega arith)).1,
)
  where
    sorted : List Frame
    sorted = party_by_party (suc last_party) fs

    both : (p : ℕ) → p < length t
        → (party_at (run (without_limit fs) t).0 p ≡ party_at (run (without_limit sorted) t).0 p)
        × (answers_to p (run (without_limit fs) t).1 ≡ answers_to p (run (without_limit sorted) t).1)
    both p l =
        let a = isolated fs t p e h in
        let b = isolated sorted t p e (each-sorted Own (suc last_party) fs h) in
        let c : frames_of p sorted ≡ frames_of p fs = sorted-one (suc last_party) p (omega arith) fs in
        (a.0 ∙ sym (rw c at b.0), a.1 ∙ sym (rw c at b.1))

-- the frames that are left are own frames still
each_left : (cs : List Call) (t : Table) → Each (λ (c : Call). Own c.frame) cs → Each Own (frames_asked (strike_out (run cs t).1))
unfolding run strike_out keep
each_left [] t h = tt
each_left (c ∷ cs) t h =
    let r = serve c.supply c.frame t in
    pick (not (eqb r.1.number no_nodes_number)) r.1 (strike_out (run cs r.0).1) (each_left cs r.0 h.1)
  where
    pick : (b : Bool) (x : Answer) (xs : List Reply) → Each Own (frames_asked xs) → Each Own (frames_asked (cond b (record { frame = c.frame; answer = x } ∷ xs) xs))
    pick true x xs k = (h.0, k)
    pick false x xs k = k

-- DEMAND 3
pub demand3 : Demand3
demand3 cs t e h =
    record {
      tables = sym (ap (λ (x : Table × List Reply). x.0) struck) ∙ same.0;
      answers = λ p l. sym (ap (λ (x : Table × List Reply). answers_to p x.1) struck) ∙ same.1 p l;
    }
  where
    fs : List Frame
    fs = frames_asked (strike_out (run cs t).1)

    struck : run (without_limit fs) t ≡ ((run cs t).0, strike_out (run cs t).1)
    struck = run-struck cs t (each_map (λ (c : Call) (w : Own c.frame). (own-op c.frame w).1) cs h)

    same : ((run (without_limit fs) t).0 ≡ (run (without_limit (party_by_party (suc last_party) fs)) t).0)
        × ((p : ℕ) → p ≤ last_party → answers_to p (run (without_limit fs) t).1 ≡ answers_to p (run (without_limit (party_by_party (suc last_party) fs)) t).1)
    same = sorted-same fs t e (each_left cs t h)

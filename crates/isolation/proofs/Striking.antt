-- A run with a limit, without the frames that it answers 10, is a run with no limit.
use mathlib.Core.Path.{◌≡◌, refl, sym, ap, ◌∙◌}
use mathlib.Core.Logic.{◌≢◌}
use mathlib.Core.Bool.{Bool, true, false, cond, not}
use mathlib.Core.List.{List, [], ◌∷◌}
use native.Mathlib.Omega.{arith}
use lib.Dec.{eqb}
use borrow.Author.Tests.{eqb-true, eqb-false}
use Rattle.meaning.specs.Limits.{no_nodes_number}
use Rattle.meaning.specs.Table.{Table}
use Rattle.meaning.specs.Counting.{Each}
use Rattle.meaning.specs.Frames.{Answer}
use Rattle.meaning.specs.Operations.{free_nodes, op_of}
use Rattle.meaning.specs.Supply.{no_limit}
use Rattle.meaning.specs.Serve.{serve, Call, Reply, run}
use Rattle.isolation.specs.Demand3.{keep, strike_out, frames_asked, without_limit}
use Rattle.isolation.proofs.Steps.{serve-refused, serve-unlimited}

pub run-struck : (cs : List Call) (t : Table) → Each (λ (c : Call). op_of c.frame ≢ free_nodes) cs
    → run (without_limit (frames_asked (strike_out (run cs t).1))) t ≡ ((run cs t).0, strike_out (run cs t).1)
unfolding run strike_out keep
run-struck [] t h = refl
run-struck (c ∷ cs) t h = pick (eqb r.1.number no_nodes_number) refl (run-struck cs r.0 h.1)
  where
    r : Table × Answer
    r = serve c.supply c.frame t

    reply : Reply
    reply = record { frame = c.frame; answer = r.1 }

    more : Table × List Reply
    more = run cs r.0

    kept : List Reply
    kept = strike_out more.1

    pick : (b : Bool) → eqb r.1.number no_nodes_number ≡ b
        → run (without_limit (frames_asked kept)) r.0 ≡ (more.0, kept)
        → run (without_limit (frames_asked (cond (not b) (reply ∷ kept) kept))) t ≡ (more.0, cond (not b) (reply ∷ kept) kept)
    pick true e ih =
        let n : r.1.number ≡ no_nodes_number = eqb-true _ _ e in
        let same : r.0 ≡ t = serve-refused c.supply c.frame t (omega arith) in
        ap (λ (x : Table). run (without_limit (frames_asked kept)) x) (sym same) ∙ ih
    pick false e ih =
        let same : r ≡ serve no_limit c.frame t = serve-unlimited c.supply c.frame t h.0 (eqb-false _ _ e) in
        rw (← same, ih)

-- Demand 1, of one frame.
use mathlib.Core.Path.{◌≡◌, refl, sym, ap, ◌∙◌}
use mathlib.Core.Logic.{◌≢◌}
use Prim.Native.Nat.{ℕ, zero, suc}
use native.Mathlib.Omega.{arith}
use Rattle.meaning.specs.Limits.{done_number}
use Rattle.meaning.specs.Frames.{Frame, Answer}
use Rattle.meaning.specs.Operations.{op_of}
use Rattle.meaning.specs.Serve.{refused}
use Rattle.frames.specs.Run.{Run}
use Rattle.frames.specs.Serve.{Served, done, verdict, fresh_in, respond, serve}
use Rattle.serving.specs.States.{lent_in, run_in}
use Rattle.serving.specs.Demand1.{Demand1}
use Rattle.serving.proofs.Serving.{serve-refused}

respond-number : (n : ℕ) (r : Run) (d : Served) → (respond n r d).1.number ≡ n
unfolding respond refused
respond-number zero r d = refl
respond-number (suc n) r d = refl

-- the number is that of the first check that applies
pub serve-number : (r : Run) (f : Frame) → (serve r f).1.number ≡ verdict r f
unfolding serve
serve-number r f = respond-number (verdict r f) r (done (op_of f) r f)

respond-fresh : (n : ℕ) (r : Run) (d : Served) → (respond n r d).1.fresh ≡ fresh_in r (respond n r d).0
unfolding respond refused fresh_in
respond-fresh zero r d = refl
respond-fresh (suc n) r d = omega arith

-- fresh is the fall in free nodes, whatever is answered
pub serve-fresh : (r : Run) (f : Frame) → (serve r f).1.fresh ≡ fresh_in r (serve r f).0
unfolding serve
serve-fresh r f = respond-fresh (verdict r f) r (done (op_of f) r f)

-- DEMAND 1
pub demand1 : Demand1
demand1 s f h =
    let some : verdict (run_in s) f ≢ done_number = λ e. h (serve-number (run_in s) f ∙ e) in
    let same = serve-refused (run_in s) f some in
    record {
      state = ap (λ (x : Run × Answer). lent_in x.0) same;
      told = ap (λ (x : Run × Answer). x.1) same ∙ ap refused (sym (serve-number (run_in s) f));
    }

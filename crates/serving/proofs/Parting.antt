-- Demand 3, of frames served on a lent state.
use mathlib.Core.Path.{◌≡◌}
use mathlib.Core.List.{List, [], ◌∷◌}
use Prim.Native.Nat.{suc}
use lib.ListN.{length}
use Rattle.meaning.specs.Limits.{last_party, parties}
use Rattle.meaning.specs.Counting.{Each}
use Rattle.meaning.specs.Lent.{Lent}
use Rattle.meaning.specs.Stands.{party_of, table_of}
use Rattle.meaning.specs.Frames.{Frame}
use Rattle.meaning.specs.Serve.{Call, run}
use Rattle.meaning.proofs.Rows.{rows-length}
use Rattle.isolation.specs.Demand3.{Own}
use Rattle.isolation.proofs.Isolation as isolation
use Rattle.serving.specs.Lending.{after, after_all, replies, calls}
use Rattle.serving.specs.Demand3.{Demand3}
use Rattle.serving.proofs.Demands.{all-answered}

table-length : (s : Lent) → length (table_of s) ≡ suc last_party
unfolding table_of
table-length s = rows-length parties (party_of s)

calls-own : (s : Lent) (fs : List Frame) → Each Own fs → Each (λ (c : Call). Own c.frame) (calls s fs)
unfolding calls
calls-own s [] h = tt
calls-own s (f ∷ fs) h = (h.0, calls-own (after s f) fs h.1)

-- DEMAND 3
pub demand3 : Demand3
demand3 s fs w own =
    let same : run (calls s fs) (table_of s) ≡ (table_of (after_all s fs), replies s fs) = (all-answered s fs w).plain in
    let all = isolation.demand3 (calls s fs) (table_of s) (table-length s) (calls-own s fs own) in
    record {
      tables = rw same at all.tables;
      answers = λ p l. rw same at (all.answers p l);
    }

-- What the checks see of a running state is what they see of the plain table that it stands for.
use mathlib.Core.Path.{◌≡◌, ap}
use mathlib.Core.Logic.{inl, inr}
use mathlib.Core.Bool.{Bool}
use Prim.Native.Nat.{ℕ}
use Rattle.meaning.specs.Lent.{Nodes, VersionRecord}
use Rattle.meaning.specs.WellFormed.{LegalVersion}
use Rattle.meaning.specs.Table.{version}
use Rattle.meaning.specs.Stands.{slot_of}
use Rattle.meaning.specs.Frames.{Frame}
use Rattle.meaning.specs.Operations.{op_of, giver, taker}
use Rattle.meaning.specs.Checks.{Seen, checks, first_of, source_of, left_of, seen_by}
use Rattle.frames.specs.Run.{Run, source_in, target_in, walked_in, opened_in, seen_in, supply_in}
use Rattle.frames.specs.Serve.{verdict}
use Rattle.serving.specs.States.{Runs}
use Rattle.serving.specs.Does.{giver_in, taker_in}
use Rattle.serving.proofs.Seeing.{slot_seen, walk-seen, version-legal, walk-legal, live-seen, open-seen, length_seen, version-seen, ended-seen}

bits-seen : (s : Nodes) (v : VersionRecord) → LegalVersion s v → v.bits ≡ (version (slot_of s v)).bits
unfolding slot_of version
bits-seen s v (inl d) = rw d
bits-seen s v (inr l) = rw (version-seen s v l.live)

abbrev seen : (source target walk opened : Bool) → (bits length : ℕ) → (ended : Bool) → Seen
seen a b c d m n e = record { standing = record { source_live = a; target_live = b; walk_open = c; opened_open = d }; bits = m; length = n; ended = e }

same_seen : {a b c d e a' b' c' d' e' : Bool} {m n m' n' : ℕ} → a ≡ a' → b ≡ b' → c ≡ c' → d ≡ d' → m ≡ m' → n ≡ n' → e ≡ e' → seen a b c d m n e ≡ seen a' b' c' d' m' n' e'
same_seen p q r s t u v = rw (p, q, r, s, t, u, v)

pub seen-agrees : (r : Run) (f : Frame) → Runs r → seen_in r f ≡ seen_by f (giver_in r f) (taker_in r f)
unfolding seen_in seen_by source_of left_of
seen-agrees r f k =
    let s : Nodes = r.store.nodes in
    let legal = version-legal r (giver f) f.slot k in
    same_seen (rw (slot_seen r (giver f) f.slot) (live-seen s (source_in r f)))
    (rw (slot_seen r (taker f) f.destination) (live-seen s (target_in r f)))
    (rw (walk-seen r (giver f) f.slot) (open-seen s (walked_in r f)))
    (rw (walk-seen r (taker f) f.destination) (open-seen s (opened_in r f)))
    (rw (slot_seen r (giver f) f.slot) (bits-seen s (source_in r f) legal))
    (rw (slot_seen r (giver f) f.slot) (length_seen s (source_in r f) legal))
    (rw (walk-seen r (giver f) f.slot) (ended-seen s (walked_in r f) (walk-legal r (giver f) f.slot k)))

-- so the number is the same
pub verdict-agrees : (r : Run) (f : Frame) → Runs r → verdict r f ≡ first_of (checks (op_of f) (supply_in r) f (seen_by f (giver_in r f) (taker_in r f)))
unfolding verdict
verdict-agrees r f k = ap (λ (x : Seen). first_of (checks (op_of f) (supply_in r) f x)) (seen-agrees r f k)

-- A version record and a walk record are found right exactly if they are legal.
use mathlib.Core.Path.{◌≡◌, refl, sym, ap, ◌∙◌}
use mathlib.Core.Logic.{◌≢◌, inl, inr}
use mathlib.Core.Bool.{Bool, true, false, ◌&&◌}
use mathlib.Core.List.{List}
use Prim.Native.Nat.{ℕ, zero, ◌+◌, ◌-◌, ◌*◌, ◌≤◌, ◌<◌}
use native.Mathlib.Nat.{lt_irrefl}
use native.Mathlib.Omega.{arith}
use lib.Dec.{eqb, leb}
use borrow.Author.Tests.{eqb-true, eqb-false, leb-true, eq-eqb, le-leb}
use Rattle.meaning.specs.Limits.{branch_kind, max_bits, max_length, walk_levels}
use Rattle.meaning.specs.Lent.{Nodes, kind_of, used_of, cell_of, VersionRecord, empty_record, WalkSlices, Level, WalkRecord, closed_record, walk_record}
use Rattle.meaning.specs.Shape.{height}
use Rattle.meaning.specs.Trees.{Shaped, height_of}
use Rattle.meaning.specs.Walks.{stack, padded, forward_stack, backward_stack}
use Rattle.meaning.specs.WellFormed.{LegalVersion, LegalWalk}
use Rattle.meaning.proofs.Booleans.{both_true}
use Rattle.shape.specs.Legal.{Legal}
use Rattle.shape.proofs.Capacity.{height-levels}
use Rattle.audit_model.specs.Descent.{answer, pick, visit}
use Rattle.audit_model.specs.Records.{empty_ok, legal_ok, version_step, stack_ok, walk_agrees, walk_step}
use Rattle.audit_model.proofs.Tests.{true≢false, true-both}
use Rattle.audit_model.proofs.Done.{Good, Done, done_refused, done-tested, done-as, done-then}
use Rattle.audit_model.proofs.Visits.{visit-done}
use Rattle.audit_model.proofs.Levels.{stack-right, right-stack}

-- ---- versions

same-record : (l l' r r' b b' m m' : ℕ) → l ≡ l' → r ≡ r' → b ≡ b' → m ≡ m'
    → ◌≡◌ {A = VersionRecord} (record { live = l; root = r; bits = b; length = m }) (record { live = l'; root = r'; bits = b'; length = m' })
same-record l l' r r' b b' m m' e₁ e₂ e₃ e₄ = cc

empty-is : (v : VersionRecord) → v.live ≡ 0 → empty_ok v ≡ true → v ≡ empty_record
unfolding empty_ok
empty-is v e k =
    let x = both_true (eqb v.root 0 && eqb v.bits 0) (eqb v.length 0) k in
    let y = both_true (eqb v.root 0) (eqb v.bits 0) x.0 in
    let r : v.root ≡ 0 = eqb-true _ _ y.0 in
    let b : v.bits ≡ 0 = eqb-true _ _ y.1 in
    let m : v.length ≡ 0 = eqb-true _ _ x.1 in
    same-record v.live 0 v.root 0 v.bits 0 v.length 0 e r b m

is-empty : (v : VersionRecord) → v ≡ empty_record → empty_ok v ≡ true
unfolding empty_ok
is-empty v e = rw e

pub legal-is : (v : VersionRecord) → legal_ok v ≡ true → (v.live ≡ 1) × Legal v.bits v.length
unfolding legal_ok
legal-is v e =
    let x = both_true ((eqb v.live 1 && leb 1 v.bits) && leb v.bits max_bits) (leb v.length max_length) e in
    let y = both_true (eqb v.live 1 && leb 1 v.bits) (leb v.bits max_bits) x.0 in
    let w = both_true (eqb v.live 1) (leb 1 v.bits) y.0 in
    (eqb-true _ _ w.0, record { bits = record { least = leb-true _ _ w.1; most = leb-true _ _ y.1 }; length = leb-true _ _ x.1 })

is-legal : (v : VersionRecord) → v.live ≡ 1 → Legal v.bits v.length → legal_ok v ≡ true
unfolding legal_ok
is-legal v e l =
    true-both _ _ (true-both _ _ (true-both _ _ (eq-eqb _ _ e) (le-leb _ _ l.bits.least)) (le-leb _ _ l.bits.most)) (le-leb _ _ l.length)

-- the root of a live one
abbrev pub Root : VersionRecord → (n : ℕ) → Type 0
Root v n = (v.live ≡ 1) × (n ≡ v.root)

module _ (s : Nodes) (P : ℕ → Type 0) (step : (n i : ℕ) → P n → kind_of s n ≡ branch_kind → i < used_of s n → P (cell_of s n i)) where
  pub version-done : (v : VersionRecord) (t : List ℕ) → (v.live ≡ 1 → P v.root) → Good s P t → Done s P (LegalVersion s v) (Root v) t (version_step s v t)
  unfolding version_step pick
  version-done v t p g = first (eqb v.live 0) refl
    where
      second : (o : Bool) → legal_ok v ≡ o → v.live ≢ 0
          → Done s P (LegalVersion s v) (Root v) t (pick o (visit s v.bits (height_of v) v.length v.root t) (answer false t))
      second true e f =
          let x = legal-is v e in
          let legal = x.1 in
          done-as s P (λ z. inr (record { live = x.0; bits = legal.bits; length = legal.length; shape = z })) (by x) (λ n h. h.1)
          (visit-done s P step (height_of v) v.bits v.length v.root t
          (record { bits = legal.bits; height = height-levels v.bits v.length legal; size = legal.length }) (p x.0) g)
        where
          by : (v.live ≡ 1) × Legal v.bits v.length → LegalVersion s v → Shaped s v.bits (height_of v) v.length v.root
          by x (inl d) = absurd (f (ap (λ (r : VersionRecord). r.live) d))
          by x (inr k) = k.shape
      second false e f = done_refused s P t t no
        where
          no : LegalVersion s v → ⊥
          no (inl d) = f (ap (λ (r : VersionRecord). r.live) d)
          no (inr k) = true≢false (sym (is-legal v k.live (record { bits = k.bits; length = k.length })) ∙ e)

      first : (o : Bool) → eqb v.live 0 ≡ o
          → Done s P (LegalVersion s v) (Root v) t
          (pick o (answer (empty_ok v) t) (pick (legal_ok v) (visit s v.bits (height_of v) v.length v.root t) (answer false t)))
      first true e =
          done-tested s P (empty_ok v) t g (λ y. inl (empty-is v (eqb-true _ _ e) y)) by (λ _ n h. absurd (lt_irrefl zero (omega (arith, h.0, eqb-true v.live 0 e))))
        where
          by : LegalVersion s v → empty_ok v ≡ true
          by (inl d) = is-empty v d
          by (inr k) = absurd (lt_irrefl zero (omega (arith, k.live, eqb-true v.live 0 e)))
      first false e = second (legal_ok v) refl (eqb-false _ _ e)

-- ---- walks

-- a legal record has a height that a walk has room for
legal-low : (s : Nodes) (v : VersionRecord) → LegalVersion s v → height_of v < walk_levels
unfolding height
legal-low s v (inl e) = rw e (omega arith)
legal-low s v (inr k) = height-levels v.bits v.length (record { bits = k.bits; length = k.length })

module _ (s : Nodes) (w : WalkSlices) (n : ℕ) where
  -- what the test of the rest of a record says
  record Agreed (r : WalkRecord) : Type 0 where
    taken : r.front + r.back ≤ r.version.length
    forward : r.forward ≡ forward_stack s r
    backward : r.backward ≡ backward_stack s r

  agrees-is : LegalVersion s (walk_record w n).version → walk_agrees s.cells w n ≡ true → Agreed (walk_record w n)
  unfolding walk_agrees walk_record forward_stack backward_stack
  agrees-is l e =
      let r : WalkRecord = walk_record w n in
      let v : VersionRecord = r.version in
      let f : Bool = stack_ok s.cells w.nodes w.indices (2 * n) v r.front r.front in
      let b : Bool = stack_ok s.cells w.nodes w.indices (2 * n + 1) v r.back (v.length - 1 - r.back) in
      let x = both_true ((leb r.front v.length && leb r.back (v.length - r.front)) && f) b e in
      let y = both_true (leb r.front v.length && leb r.back (v.length - r.front)) f x.0 in
      let z = both_true (leb r.front v.length) (leb r.back (v.length - r.front)) y.0 in
      let low = legal-low s v l in
      record {
        taken = omega (arith, leb-true r.front v.length z.0, leb-true r.back (v.length - r.front) z.1);
        forward = stack-right s w (2 * n) v low r.front r.front y.1;
        backward = stack-right s w (2 * n + 1) v low r.back (v.length - 1 - r.back) x.1;
      }

  is-agrees : LegalVersion s (walk_record w n).version → Agreed (walk_record w n) → walk_agrees s.cells w n ≡ true
  unfolding walk_agrees walk_record forward_stack backward_stack
  is-agrees l a =
      let r : WalkRecord = walk_record w n in
      let v : VersionRecord = r.version in
      let low = legal-low s v l in
      true-both _ _ (true-both _ _ (true-both _ _ (le-leb r.front v.length (omega (arith, a.taken))) (le-leb r.back (v.length - r.front) (omega (arith, a.taken))))
      (right-stack s w (2 * n) v low r.front r.front a.forward))
      (right-stack s w (2 * n + 1) v low r.back (v.length - 1 - r.back) a.backward)

-- the record of these parts
abbrev whole : VersionRecord → (front back : ℕ) → (forward backward : List Level) → WalkRecord
whole v f b up down = record { version = v; front = f; back = b; forward = up; backward = down }

same_whole : (v v' : VersionRecord) (f f' b b' : ℕ) (up up' down down' : List Level) → v ≡ v' → f ≡ f' → b ≡ b' → up ≡ up' → down ≡ down'
    → whole v f b up down ≡ whole v' f' b' up' down'
same_whole v v' f f' b b' up up' down down' e₁ e₂ e₃ e₄ e₅ = cc

-- a record whose version is empty, and that agrees, is closed
closed_is : (s : Nodes) (w : WalkSlices) (n : ℕ) (r : WalkRecord) → r.version ≡ empty_record → Agreed s w n r → r ≡ closed_record
unfolding forward_stack backward_stack stack padded
closed_is s w n r e a =
    let m : r.version.length ≡ 0 = ap (λ (v : VersionRecord). v.length) e in
    let f : r.front ≡ 0 = omega (arith, a.taken) in
    let b : r.back ≡ 0 = omega (arith, a.taken) in
    same_whole r.version empty_record r.front 0 r.back 0 r.forward _ r.backward _ e f b (rw f at a.forward) (rw b at a.backward)

is-closed : (s : Nodes) (w : WalkSlices) (n : ℕ) (r : WalkRecord) → r ≡ closed_record → Agreed s w n r
unfolding forward_stack backward_stack stack padded
is-closed s w n r e = rw e (record { taken = omega arith; forward = refl; backward = refl })

module _ (s : Nodes) (w : WalkSlices) (n : ℕ) where
  agreed-legal : (r : WalkRecord) → LegalVersion s r.version → Agreed s w n r → LegalWalk s r
  agreed-legal r (inl e) a = inl (closed_is s w n r e a)
  agreed-legal r (inr k) a = inr (record { version = k; taken = a.taken; forward = a.forward; backward = a.backward })

  legal-agreed : (r : WalkRecord) → LegalWalk s r → LegalVersion s r.version × Agreed s w n r
  legal-agreed r (inl e) = (inl (ap (λ (x : WalkRecord). x.version) e), is-closed s w n r e)
  legal-agreed r (inr k) = (inr k.version, record { taken = k.taken; forward = k.forward; backward = k.backward })

module _ (s : Nodes) (P : ℕ → Type 0) (step : (n i : ℕ) → P n → kind_of s n ≡ branch_kind → i < used_of s n → P (cell_of s n i)) where
  pub walk-done : (w : WalkSlices) (n : ℕ) (t : List ℕ) → ((walk_record w n).version.live ≡ 1 → P (walk_record w n).version.root) → Good s P t
      → Done s P (LegalWalk s (walk_record w n)) (Root (walk_record w n).version) t (walk_step s w n t)
  unfolding walk_step
  walk-done w n t p g =
      let r : WalkRecord = walk_record w n in
      done-as s P (λ q. q.1) (λ l. ((legal-agreed s w n r l).0, l)) (λ k h. inl h)
      (done-then s P {Here' = λ _. ⊥} t _ _ (version-done s P step r.version t p g)
      (λ u l g' _. done-tested s P (walk_agrees s.cells w n) u g'
      (λ e. agreed-legal s w n r l (agrees-is s w n l e)) (λ k. is-agrees s w n l (legal-agreed s w n r k).1) (λ _ k h. absurd h)))

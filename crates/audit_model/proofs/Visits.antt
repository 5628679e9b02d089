-- A descent answers true exactly where the shape holds.
use mathlib.Core.Path.{◌≡◌, refl, sym, ap, ◌∙◌}
use mathlib.Core.Logic.{◌≢◌, inr}
use mathlib.Core.Bool.{Bool, true, false}
use mathlib.Core.List.{List}
use Prim.Native.Nat.{ℕ, zero, suc, ◌-◌, ◌*◌, ◌^◌, ◌≤◌, ◌<◌, min}
use native.Mathlib.Decide.{ℕ_discrete}
use native.Mathlib.Nat.{lt_irrefl}
use native.Mathlib.Omega.{arith}
use lib.Dec.{eqb, ltb}
use lib.ListN.{length, get_or, set, length-set}
use lib.Seq.{get_or-set_same, get_or-set_other}
use borrow.Author.Tests.{eqb-true, leb-true, ltb-true, eq-eqb, le-leb, lt-ltb, ltb-false}
use Rattle.meaning.specs.Limits.{branch_kind, max_length}
use Rattle.meaning.specs.Lent.{Nodes, kind_of, used_of, cell_of}
use Rattle.meaning.specs.Shape.{degree}
use Rattle.meaning.specs.Trees.{Shaped}
use Rattle.meaning.proofs.Booleans.{both_true}
use Rattle.meaning.proofs.Reaching.{shaped-inside}
use Rattle.audit_model.specs.Descent.{code, Answer, answer, pick, and_then, through, marked, leaf_ok, branch_ok, known, child, visit}
use Rattle.audit_model.proofs.Tests.{true≢false, true-both}
use Rattle.audit_model.proofs.Done.{Numbers, Good, Grows, Done, done_refused, done-tested, done-as, done-then, done-through}

-- ---- codes

code_same : (b h m b' h' m' : ℕ) → Numbers b h m → Numbers b' h' m' → code b h m ≡ code b' h' m' → (b ≡ b') × (h ≡ h') × (m ≡ m')
unfolding code
code_same b h m b' h' m' p q e = (omega arith, omega arith, omega arith)

pub code-some : (b h m : ℕ) → 1 ≤ b → code b h m ≢ 0
unfolding code
code-some b h m l = omega arith

-- ---- shapes

leaf-shaped : (s : Nodes) (b m n : ℕ) → leaf_ok (kind_of s n) (used_of s n) b m ≡ true → Shaped s b 0 m n
unfolding leaf_ok Shaped
leaf-shaped s b m n e =
    let x = both_true _ _ e in
    let y = both_true _ _ x.0 in
    record { kind = eqb-true _ _ y.0; used = eqb-true _ _ y.1; room = leb-true _ _ x.1 }

shaped-leaf : (s : Nodes) (b m n : ℕ) → Shaped s b 0 m n → leaf_ok (kind_of s n) (used_of s n) b m ≡ true
unfolding leaf_ok Shaped
shaped-leaf s b m n p = true-both _ _ (true-both _ _ (eq-eqb _ _ p.kind) (eq-eqb _ _ p.used)) (le-leb _ _ p.room)

leaf-childless : (s : Nodes) (b m n : ℕ) → Shaped s b 0 m n → kind_of s n ≢ branch_kind
unfolding Shaped
leaf-childless s b m n p e = lt_irrefl zero (omega (arith, p.kind))

abbrev Children : Nodes → (b h m n : ℕ) → Type 0
Children s b h m n = (i : ℕ) → i < used_of s n → Shaped s b h (min (degree b ^ suc h) (m - i * degree b ^ suc h)) (cell_of s n i)

branch-shaped : (s : Nodes) (b h m n : ℕ) → branch_ok (kind_of s n) (used_of s n) b (degree b ^ suc h) m ≡ true → Children s b h m n → Shaped s b (suc h) m n
unfolding branch_ok Shaped
branch-shaped s b h m n e below =
    let x = both_true _ _ e in
    let y = both_true _ _ x.0 in
    let w = both_true _ _ y.0 in
    record { kind = eqb-true _ _ w.0; room = leb-true _ _ w.1; enough = leb-true _ _ y.1; needed = ltb-true _ _ x.1; children = below }

shaped-branch : (s : Nodes) (b h m n : ℕ) → Shaped s b (suc h) m n → branch_ok (kind_of s n) (used_of s n) b (degree b ^ suc h) m ≡ true
unfolding branch_ok Shaped
shaped-branch s b h m n p =
    true-both _ _ (true-both _ _ (true-both _ _ (eq-eqb _ _ p.kind) (le-leb _ _ p.room)) (le-leb _ _ p.enough)) (lt-ltb _ _ p.needed)

shaped-children : (s : Nodes) (b h m n : ℕ) → Shaped s b (suc h) m n → Children s b h m n
unfolding Shaped
shaped-children s b h m n p = p.children

branch-kind : (k u b c m : ℕ) → branch_ok k u b c m ≡ true → k ≡ branch_kind
unfolding branch_ok
branch-kind k u b c m e = eqb-true _ _ (both_true _ _ (both_true _ _ (both_true _ _ e).0).0).0

-- ---- marks

mark-grows : (t : List ℕ) (n x : ℕ) → n < length t → x ≢ 0 → Grows t (set t n x) × (get_or (set t n x) n 0 ≢ 0)
unfolding Grows
mark-grows t n x l f = (λ k g. by k g (ℕ_discrete k n), rw (get_or-set_same t n x 0 l) f)
  where
    by : (k : ℕ) → get_or t k 0 ≢ 0 → Dec (k ≡ n) → get_or (set t n x) k 0 ≢ 0
    by k g (yes e) = rw (e, get_or-set_same t n x 0 l) f
    by k g (no d) = rw (get_or-set_other t n k x 0 d) g

module _ (s : Nodes) (P : ℕ → Type 0) where
  mark-good : (b h m n : ℕ) (t : List ℕ) → Numbers b h m → Good s P t → P n → Shaped s b h m n
      → ((i : ℕ) → kind_of s n ≡ branch_kind → i < used_of s n → get_or t (cell_of s n i) 0 ≢ 0) → Good s P (set t n (code b h m))
  unfolding Grows
  mark-good b h m n t w g p z kids = record {
    room = rw length-set g.room;
    right = λ b' h' m' k w' e. right b' h' m' k w' e (ℕ_discrete k n);
    closed = λ k i f q l. closed k i f q l (ℕ_discrete k n);
    only = λ k f. only k f (ℕ_discrete k n);
  }
    where
      inside : n < length t
      inside = omega (arith, g.room, shaped-inside s b h m n z)

      grow : Grows t (set t n (code b h m))
      grow = (mark-grows t n (code b h m) inside (code-some b h m w.bits.least)).0

      right : (b' h' m' k : ℕ) → Numbers b' h' m' → get_or (set t n (code b h m)) k 0 ≡ code b' h' m' → Dec (k ≡ n) → Shaped s b' h' m' k
      right b' h' m' k w' e (yes d) =
          let q : code b h m ≡ code b' h' m' = sym (get_or-set_same t n (code b h m) 0 inside) ∙ rw d at e in
          let j = code_same b h m b' h' m' w w' q in
          rw (d, ← j.0, ← j.1, ← j.2) z
      right b' h' m' k w' e (no d) = g.right b' h' m' k w' (sym (get_or-set_other t n k (code b h m) 0 d) ∙ e)

      closed : (k i : ℕ) → get_or (set t n (code b h m)) k 0 ≢ 0 → kind_of s k ≡ branch_kind → i < used_of s k → Dec (k ≡ n) → get_or (set t n (code b h m)) (cell_of s k i) 0 ≢ 0
      closed k i f q l (yes d) = grow (cell_of s k i) (rw d (kids i (rw d at q) (rw d at l)))
      closed k i f q l (no d) = grow (cell_of s k i) (g.closed k i (rw (get_or-set_other t n k (code b h m) 0 d) at f) q l)

      only : (k : ℕ) → get_or (set t n (code b h m)) k 0 ≢ 0 → Dec (k ≡ n) → P k
      only k f (yes d) = rw d p
      only k f (no d) = g.only k (rw (get_or-set_other t n k (code b h m) 0 d) at f)

-- what a descent to n has done
abbrev pub Visited : Nodes → (ℕ → Type 0) → (b h m n : ℕ) → List ℕ → Answer → Type 0
Visited s P b h m n t a = Done s P (Shaped s b h m n) (λ k. k ≡ n) t a

module _ (s : Nodes) (P : ℕ → Type 0) (step : (n i : ℕ) → P n → kind_of s n ≡ branch_kind → i < used_of s n → P (cell_of s n i)) where
  -- a node that is found right, and marked
  visited-marked : (b h m n : ℕ) (t : List ℕ) → Numbers b h m → P n → Good s P t → Shaped s b h m n
      → ((i : ℕ) → kind_of s n ≡ branch_kind → i < used_of s n → get_or t (cell_of s n i) 0 ≢ 0) → Visited s P b h m n t (marked n (code b h m) t)
  unfolding marked
  visited-marked b h m n t w p g z below =
      let x = mark-grows t n (code b h m) (omega (arith, g.room, shaped-inside s b h m n z)) (code-some b h m w.bits.least) in
      record {
        shows = λ _. z;
        good = λ _. mark-good s P b h m n t w g p z below;
        here = λ _ k e. rw e x.1;
        grows = λ _. x.0;
        sure = λ _. refl;
      }

  visited-known : (b h m n : ℕ) (t : List ℕ) (a : Answer) → Numbers b h m → Good s P t → Visited s P b h m n t a → Visited s P b h m n t (known s (code b h m) n t a)
  unfolding known pick
  visited-known b h m n t a w g rest = inside (ltb n (length s.kinds)) refl
    where
      again : (o : Bool) → eqb (get_or t n 0) (code b h m) ≡ o → Visited s P b h m n t (pick o (answer true t) a)
      again true e =
          let is : get_or t n 0 ≡ code b h m = eqb-true _ _ e in
          done-tested s P true t g (λ _. g.right b h m n w is) (λ _. refl) (λ _ k d z. code-some b h m w.bits.least (sym is ∙ ap (λ (x : ℕ). get_or t x 0) (sym d) ∙ z))
      again false e = rest

      inside : (o : Bool) → ltb n (length s.kinds) ≡ o → Visited s P b h m n t (pick o (pick (eqb (get_or t n 0) (code b h m)) (answer true t) a) (answer false t))
      inside true e = again (eqb (get_or t n 0) (code b h m)) refl
      inside false e = done_refused s P t t (λ z. lt_irrefl zero (omega (arith, shaped-inside s b h m n z, ltb-false n (length s.kinds) e)))

  pub visit-done : (h b m n : ℕ) (t : List ℕ) → Numbers b h m → P n → Good s P t → Visited s P b h m n t (visit s b h m n t)
  unfolding visit pick
  visit-done zero b m n t w p g = visited-known b 0 m n t _ w g (leaf (leaf_ok (kind_of s n) (used_of s n) b m) refl)
    where
      leaf : (o : Bool) → leaf_ok (kind_of s n) (used_of s n) b m ≡ o → Visited s P b 0 m n t (pick o (marked n (code b 0 m) t) (answer false t))
      leaf true e = let z = leaf-shaped s b m n e in visited-marked b 0 m n t w p g z (λ i q l. absurd (leaf-childless s b m n z q))
      leaf false e = done_refused s P t t (λ z. true≢false (sym (shaped-leaf s b m n z) ∙ e))
  visit-done (suc h) b m n t w p g =
      visited-known b (suc h) m n t _ w g
      (branch (branch_ok (kind_of s n) (used_of s n) b (degree b ^ suc h) m) refl
      (λ m' n' u l q g'. visit-done h b m' n' u (record { bits = w.bits; height = omega (arith, w.height); size = l }) q g'))
    where
      c : ℕ
      c = degree b ^ suc h

      branch : (o : Bool) → branch_ok (kind_of s n) (used_of s n) b (degree b ^ suc h) m ≡ o
          → ((m' n' : ℕ) (u : List ℕ) → m' ≤ max_length → P n' → Good s P u → Visited s P b h m' n' u (visit s b h m' n' u))
          → Visited s P b (suc h) m n t
          (pick o (and_then (through (used_of s n) (child (visit s b h) s (degree b ^ suc h) m n) t) (marked n (code b (suc h) m))) (answer false t))
      branch true e below =
          done-as s P (λ q. q.1) (λ z. (shaped-children s b h m n z, z)) (λ k d. inr d)
          (done-then s P t _ _
          (done-through s P (λ i. Shaped s b h (min (degree b ^ suc h) (m - i * degree b ^ suc h)) (cell_of s n i)) (λ i k. k ≡ cell_of s n i)
          (used_of s n) _ t g
          (λ i u l g'. below _ (cell_of s n i) u (omega (arith, w.size)) (step n i p (branch-kind _ _ _ _ _ e) l) g'))
          (λ u kids g' here. visited-marked b (suc h) m n u w p g' (branch-shaped s b h m n e kids) (λ i _ l. here (cell_of s n i) (i, l, refl))))
      branch false e below = done_refused s P t t (λ z. true≢false (sym (shaped-branch s b h m n z) ∙ e))

-- What a part of the audit has done: it was right exactly if what it asks holds, and then the codes are good and what it concerns is marked.
use mathlib.Core.Path.{◌≡◌, refl, sym, ◌∙◌}
use mathlib.Core.Logic.{◌≢◌, ◌⊎◌, inl, inr}
use mathlib.Core.Bool.{Bool, true, false}
use mathlib.Core.List.{List}
use Prim.Native.Nat.{ℕ, zero, suc, ◌≤◌, ◌<◌}
use native.Mathlib.Nat.{lt_irrefl, eq-or-lt_of_le, le_of_suc-le-suc}
use native.Mathlib.Omega.{arith}
use lib.ListN.{length, get_or}
use Rattle.meaning.specs.Limits.{branch_kind, max_length, walk_levels}
use Rattle.meaning.specs.Lent.{Nodes, kind_of, used_of, cell_of}
use Rattle.meaning.specs.Trees.{Shaped}
use Rattle.meaning.specs.WellFormed.{LegalBits}
use Rattle.audit_model.specs.Descent.{code, Answer, answer, go_on, and_then, through}
use Rattle.audit_model.proofs.Tests.{true≢false}

-- bits, height and size that a descent meets
pub record Numbers (b h m : ℕ) : Type 0 where
  pub bits : LegalBits b
  pub height : h < walk_levels
  pub size : m ≤ max_length

-- every node that is marked is right under its code, its children are marked, and it is one of P
pub record Good (s : Nodes) (P : ℕ → Type 0) (t : List ℕ) : Type 0 where
  pub room : length s.kinds ≤ length t
  pub right : (bits h m n : ℕ) → Numbers bits h m → get_or t n 0 ≡ code bits h m → Shaped s bits h m n
  pub closed : (n i : ℕ) → get_or t n 0 ≢ 0 → kind_of s n ≡ branch_kind → i < used_of s n → get_or t (cell_of s n i) 0 ≢ 0
  pub only : (n : ℕ) → get_or t n 0 ≢ 0 → P n

unfoldable pub Grows : List ℕ → List ℕ → Type 0
Grows t u = (n : ℕ) → get_or t n 0 ≢ 0 → get_or u n 0 ≢ 0

-- what is asked, and the nodes that it concerns
pub record Done (s : Nodes) (P : ℕ → Type 0) (Asked : Type 0) (Here : ℕ → Type 0) (t : List ℕ) (a : Answer) : Type 0 where
  pub shows : a.ok ≡ true → Asked
  pub good : a.ok ≡ true → Good s P a.codes
  pub here : a.ok ≡ true → (n : ℕ) → Here n → get_or a.codes n 0 ≢ 0
  pub grows : a.ok ≡ true → Grows t a.codes
  pub sure : Asked → a.ok ≡ true

module _ (s : Nodes) (P : ℕ → Type 0) where
  pub done_refused : {Asked : Type 0} {Here : ℕ → Type 0} (t u : List ℕ) → (Asked → ⊥) → Done s P Asked Here t (answer false u)
  done_refused t u f = record {
    shows = λ y. true≢false (sym y);
    good = λ y. true≢false (sym y);
    here = λ y. true≢false (sym y);
    grows = λ y. true≢false (sym y);
    sure = λ z. absurd (f z);
  }

  -- no code is changed by a test
  pub done-tested : {Asked : Type 0} {Here : ℕ → Type 0} (o : Bool) (t : List ℕ) → Good s P t
      → (o ≡ true → Asked) → (Asked → o ≡ true) → (o ≡ true → (n : ℕ) → Here n → get_or t n 0 ≢ 0) → Done s P Asked Here t (answer o t)
  unfolding Grows
  done-tested o t g f b h = record { shows = f; good = λ _. g; here = h; grows = λ _ n k. k; sure = b }

  pub done-as : {Asked Asked' : Type 0} {Here Here' : ℕ → Type 0} {t : List ℕ} {a : Answer}
      → (Asked → Asked') → (Asked' → Asked) → ((n : ℕ) → Here' n → Here n) → Done s P Asked Here t a → Done s P Asked' Here' t a
  done-as f b h d = record { shows = λ y. f (d.shows y); good = d.good; here = λ y n k. d.here y n (h n k); grows = d.grows; sure = λ k. d.sure (b k) }

  pub done-then : {Asked Asked' : Type 0} {Here Here' : ℕ → Type 0} (t : List ℕ) (a : Answer) (f : List ℕ → Answer) → Done s P Asked Here t a
      → ((u : List ℕ) → Asked → Good s P u → ((n : ℕ) → Here n → get_or u n 0 ≢ 0) → Done s P Asked' Here' u (f u))
      → Done s P (Asked × Asked') (λ n. Here n ⊎ Here' n) t (and_then a f)
  unfolding go_on Grows
  done-then {Asked} {Asked'} {Here} {Here'} t a f d next = go a.ok refl
    where
      go : (o : Bool) → a.ok ≡ o → Done s P (Asked × Asked') (λ n. Here n ⊎ Here' n) t (go_on o a.codes f)
      go true e =
          let r = next a.codes (d.shows e) (d.good e) (d.here e) in
          record {
            shows = λ y. (d.shows e, r.shows y);
            good = r.good;
            here = λ y n k. either y n k r;
            grows = λ y n k. r.grows y n (d.grows e n k);
            sure = λ k. r.sure k.1;
          }
        where
          either : (f a.codes).ok ≡ true → (n : ℕ) → Here n ⊎ Here' n → Done s P Asked' Here' a.codes (f a.codes) → get_or (f a.codes).codes n 0 ≢ 0
          either y n (inl k) r = r.grows y n (d.here e n k)
          either y n (inr k) r = r.here y n k
      go false e = done_refused t a.codes (λ k. true≢false (sym (d.sure k.0) ∙ e))

  -- one after the other
  pub done-through : (Asked : ℕ → Type 0) (Here : ℕ → ℕ → Type 0) (k : ℕ) (f : ℕ → List ℕ → Answer) (t : List ℕ) → Good s P t
      → ((i : ℕ) (u : List ℕ) → i < k → Good s P u → Done s P (Asked i) (Here i) u (f i u))
      → Done s P ((i : ℕ) → i < k → Asked i) (λ n. (i : ℕ) × (i < k) × Here i n) t (through k f t)
  unfolding through
  done-through Asked Here zero f t g step =
      done-tested true t g (λ _ i l. absurd (lt_irrefl zero (omega arith))) (λ _. refl) (λ _ n h. absurd (lt_irrefl zero (omega (arith, h.1))))
  done-through Asked Here (suc k) f t g step =
      done-as
      (λ q i l. at i q.0 q.1 (eq-or-lt_of_le (le_of_suc-le-suc l)))
      (λ q. (λ i l. q i (omega arith), q k (omega arith)))
      (λ n h. where-is n h.0 h.2 (eq-or-lt_of_le (le_of_suc-le-suc h.1)))
      (done-then t (through k f t) (f k) (done-through Asked Here k f t g (λ i u l. step i u (omega arith))) (λ u _ g' _. step k u (omega arith) g'))
    where
      at : (i : ℕ) → ((i : ℕ) → i < k → Asked i) → Asked k → (i ≡ k) ⊎ (i < k) → Asked i
      at i q r (inl e) = rw e r
      at i q r (inr l) = q i l

      where-is : (n i : ℕ) → Here i n → (i ≡ k) ⊎ (i < k) → ((i : ℕ) × (i < k) × Here i n) ⊎ Here k n
      where-is n i h (inl e) = inr (rw e at h)
      where-is n i h (inr l) = inl (i, l, h)

-- Lists by rule: one element changed, one more, the first of them.
use mathlib.Core.Path.{◌≡◌, refl, ap, ap₂}
use mathlib.Core.Logic.{◌≢◌}
use mathlib.Core.List.{List, [], ◌∷◌, ◌++◌, map}
use Prim.Native.Nat.{ℕ, zero, suc, ◌≤◌, ◌<◌}
use native.Mathlib.Nat.{lt_irrefl}
use native.Mathlib.Omega.{arith}
use lib.ListN.{length, get_or, set, take}
use Rattle.meaning.specs.Counting.{rows}

pub rows-length : {A : Type 0} (n : ℕ) (f : ℕ → A) → length (rows n f) ≡ n
unfolding rows
rows-length zero f = refl
rows-length (suc n) f = ap suc (rows-length n (λ i. f (suc i)))

pub rows_at : {A : Type 0} (n i : ℕ) (f : ℕ → A) (d : A) → i < n → get_or (rows n f) i d ≡ f i
unfolding rows
rows_at zero i f d l = absurd (lt_irrefl zero (omega arith))
rows_at (suc n) zero f d l = refl
rows_at (suc n) (suc i) f d l = rows_at n i (λ k. f (suc k)) d (omega arith)

pub rows-map : {A B : Type 0} (g : A → B) (n : ℕ) (f : ℕ → A) → map g (rows n f) ≡ rows n (λ i. g (f i))
unfolding rows
rows-map g zero f = refl
rows-map {A} {B} g (suc n) f = ap (λ (ys : List B). g (f 0) ∷ ys) (rows-map g n (λ i. f (suc i)))

pub rows_agree : {A : Type 0} (n : ℕ) (f g : ℕ → A) → ((i : ℕ) → i < n → g i ≡ f i) → rows n g ≡ rows n f
unfolding rows
rows_agree zero f g h = refl
rows_agree {A} (suc n) f g h =
    ap₂ (λ (y : A) (ys : List A). y ∷ ys) (h 0 (omega arith)) (rows_agree n (λ i. f (suc i)) (λ i. g (suc i)) (λ i l. h (suc i) (omega arith)))

pub rows-set : {A : Type 0} (n : ℕ) (f g : ℕ → A) (k : ℕ) (x : A) → k < n → g k ≡ x → ((i : ℕ) → i < n → i ≢ k → g i ≡ f i) → rows n g ≡ set (rows n f) k x
unfolding rows
rows-set zero f g k x l e h = absurd (lt_irrefl zero (omega arith))
rows-set {A} (suc n) f g zero x l e h =
    ap₂ (λ (y : A) (ys : List A). y ∷ ys) e (rows_agree n (λ i. f (suc i)) (λ i. g (suc i)) (λ i m. h (suc i) (omega arith) (λ q. lt_irrefl zero (omega arith))))
rows-set {A} (suc n) f g (suc k) x l e h =
    ap₂ (λ (y : A) (ys : List A). y ∷ ys) (h 0 (omega arith) (λ q. lt_irrefl zero (omega arith)))
    (rows-set n (λ i. f (suc i)) (λ i. g (suc i)) k x (omega arith) e (λ i m d. h (suc i) (omega arith) (λ q. d (omega arith))))

pub rows-push : {A : Type 0} (n : ℕ) (f g : ℕ → A) (x : A) → ((i : ℕ) → i < n → g i ≡ f i) → g n ≡ x → rows (suc n) g ≡ rows n f ++ (x ∷ [])
unfolding rows
rows-push zero f g x h e = ap (λ y. y ∷ []) e
rows-push {A} (suc n) f g x h e =
    ap₂ (λ (y : A) (ys : List A). y ∷ ys) (h 0 (omega arith)) (rows-push n (λ i. f (suc i)) (λ i. g (suc i)) x (λ i l. h (suc i) (omega arith)) e)

pub rows_take : {A : Type 0} (n : ℕ) (f g : ℕ → A) (k : ℕ) → k ≤ n → ((i : ℕ) → i < k → g i ≡ f i) → rows k g ≡ take k (rows n f)
unfolding rows
rows_take n f g zero l h = refl
rows_take zero f g (suc k) l h = absurd (lt_irrefl zero (omega arith))
rows_take {A} (suc n) f g (suc k) l h =
    ap₂ (λ (y : A) (ys : List A). y ∷ ys) (h 0 (omega arith)) (rows_take n (λ i. f (suc i)) (λ i. g (suc i)) k (omega arith) (λ i m. h (suc i) (omega arith)))

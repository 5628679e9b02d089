-- Steps of a level that stay in its node: what the code finds and does, and that each is one step of the level.
use mathlib.Core.Path.{◌≡◌, refl, sym, ap, ◌∙◌}
use mathlib.Core.Bool.{Bool, false}
use mathlib.Core.List.{List, [], ◌∷◌}
use Prim.Native.Nat.{ℕ, zero, suc, ◌+◌, ◌*◌, ◌^◌, ◌<◌}
use native.Mathlib.Nat.{lt_irrefl}
use native.Mathlib.Decide.{dec_lt}
use native.Mathlib.Omega.{arith}
use lib.ListN.{length, get_or, set, get_or-eq_default}
use lib.Seq.{get_or-set_same, set-get_or}
use lib.IntN.{ℤ, pos}
use lib.Signed.{mag}
use mir.Syntax.{w32}
use mir.Val.{to_z, of_z}
use Rattle.meaning.specs.Limits.{node_cells}
use Rattle.level.proofs.LevelLaws.{reads}
use Rattle.index.proofs.IndexLaws.{along-none, goes-along, in-use-on}
use Rattle.index.specs.Index.{advanced, finished, place, along, Stays}
use Rattle.level.specs.Level.{levels, current_at, index_after, stepped_at, ended_at, place_at, StaysAt, passed_at}

-- ---- the code

pub place_is : (is : List ℤ) (k i : ℕ) (z : ℤ) → z ≡ get_or is k (pos 0) → mag z < 2 ^ 31 → i ≡ place (to_z w32 (of_z w32 z)) → i ≡ place_at is k
unfolding place_at
place_is is k i z e hz p =
    let rz : to_z w32 (of_z w32 z) ≡ z = reads z hz in
    cc

pub stays_at : (us : List ℕ) (b : Bool) (ns : List ℕ) (is : List ℤ) (k u r : ℕ) (z : ℤ) → z ≡ get_or is k (pos 0) → mag z < 2 ^ 31 → u ≡ get_or us (get_or ns k 0) 0
    → (0 < r → Stays b u (to_z w32 (of_z w32 z)) r) → 0 < r → StaysAt us b (levels ns is) k r
unfolding StaysAt
stays_at us b ns is k u r z e hz q h p = rw (← e, ← q) (rw (reads z hz) at (h p))

pub pass-is : (b : Bool) (is : List ℤ) (k m i e : ℕ) (z : ℤ) → i ≡ place_at is k → e ≡ along b i m → mag z < 2 ^ 31 → z ≡ pos e
    → set is k (to_z w32 (of_z w32 z)) ≡ passed_at b is k m
unfolding passed_at
pass-is b is k m i e z p q hz t = rw (reads z hz, t, q, p)

-- ---- step by step

pub set-set : {A : Type 0} (xs : List A) (k : ℕ) (x y : A) → set (set xs k x) k y ≡ set xs k y
set-set [] k x y = refl
set-set (z ∷ xs) zero x y = refl
set-set (z ∷ xs) (suc k) x y = ap (λ (ys : List _). z ∷ ys) (set-set xs k x y)

module _ (us : List ℕ) (b : Bool) (ns : List ℕ) (is : List ℤ) (k r : ℕ) (s : StaysAt us b (levels ns is) k r) where
  pub none_passed : passed_at b is k 0 ≡ is
  unfolding passed_at StaysAt place_at
  none_passed = ap (λ (i : ℕ). set is k (pos i)) (along-none b (place_at is k)) ∙ (ap (set is k) (sym s.cell) ∙ set-get_or is k (pos 0))

  there : k < length is
  unfolding StaysAt place
  there = pick (dec_lt k (length is))
    where
      pick : Dec (k < length is) → k < length is
      pick (yes l) = l
      pick (no n) =
          let none : place (get_or is k (pos 0)) ≡ 0 = ap place (get_or-eq_default is (pos 0) (omega arith)) in
          absurd (lt_irrefl 0 (omega (arith, none, s.past)))

  module _ (m : ℕ) (h : m < r) where
    passed : get_or (passed_at b is k m) k (pos 0) ≡ pos (along b (place_at is k) m)
    unfolding passed_at
    passed = get_or-set_same is k _ (pos 0) there

    next : index_after b (levels ns (passed_at b is k m)) k ≡ pos (along b (place_at is k) (m + 1))
    unfolding index_after StaysAt place_at
    next = ap (advanced b) passed ∙ goes-along b _ r m s.within h

    pub not-ended : false ≡ ended_at us b (levels ns (passed_at b is k m)) k
    unfolding ended_at StaysAt place_at
    not-ended = sym (ap (finished b (get_or us (get_or ns k 0) 0)) next ∙ in-use-on b _ _ r m s.in_use h)

    pub one_more : levels ns (passed_at b is k (m + 1)) ≡ stepped_at b (levels ns (passed_at b is k m)) k
    unfolding stepped_at passed_at
    one_more = sym (ap (λ (z : ℤ). levels ns (set (passed_at b is k m) k z)) next ∙ ap (levels ns) (set-set is k _ _))

    pub passes-cell : (cs : List ℕ) → current_at cs (levels ns (passed_at b is k m)) k ≡ get_or cs (node_cells * get_or ns k 0 + along b (place_at is k) m) 0
    unfolding current_at place
    passes-cell cs = ap (λ (z : ℤ). get_or cs (node_cells * get_or ns k 0 + place z) 0) passed

-- Levels that are 0, one after the other.
use mathlib.Core.Path.{◌≡◌, sym}
use mathlib.Core.Bool.{Bool, true, false, ◌&&◌}
use mathlib.Core.List.{List}
use Prim.Native.Nat.{ℕ, ◌+◌, ◌*◌, ◌≤◌, ◌<◌}
use lib.Dec.{eqb}
use lib.IntN.{ℤ, pos}
use lib.ListN.{get_or}
use Rattle.meaning.specs.Limits.{walk_levels}
use Rattle.audit_model.specs.Records.{is_index, level_is, blank_from}
use Rattle.audit_model.proofs.Steps.{Held, from-ends, from-fails}

module _ (ns : List ℕ) (is : List ℤ) (st : ℕ) where
  pub level-read : (k p n i : ℕ) (o : Bool) → p ≡ walk_levels * st + k → o ≡ (eqb (get_or ns p 0) n && is_index (get_or is p (pos 0)) i) → o ≡ level_is ns is st k n i
  unfolding level_is
  level-read k p n i o e q = rw e at q

  -- ---- levels of 0

  pub blank-ends : (start i : ℕ) → Held start i (λ k. level_is ns is st k 0 0) → walk_levels ≤ i → true ≡ blank_from ns is st start
  unfolding blank_from
  blank-ends start i h l = from-ends start i walk_levels (λ k. level_is ns is st k 0 0) h l

  pub blank-fails : (start i : ℕ) → start ≤ i → i < walk_levels → false ≡ level_is ns is st i 0 0 → false ≡ blank_from ns is st start
  unfolding blank_from
  blank-fails start i l u p = from-fails start i walk_levels (λ k. level_is ns is st k 0 0) l u (sym p)

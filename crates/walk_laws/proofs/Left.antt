-- What is left between the ends of a list: its first and last, and what is left without them.
use mathlib.Core.Path.{◌≡◌, refl, sym, ap, ◌∙◌}
use mathlib.Core.List.{List, [], ◌∷◌}
use Prim.Native.Nat.{ℕ, suc, ◌+◌, ◌-◌, ◌≤◌, ◌<◌}
use native.Mathlib.Omega.{arith}
use lib.ListN.{length, get_or, take, drop, length-take, length-drop}
use lib.Seq.{take-nil, take-take, drop-drop, get_or-take, get_or-drop}
use Rattle.meaning.specs.Effects.{first_item, last_item, without_first, without_last}
use Rattle.meaning.specs.Stands.{left_between}

drop-take : (n : ℕ) (xs : List ℕ) → drop 1 (take (suc n) xs) ≡ take n (drop 1 xs)
drop-take n [] = sym (take-nil n)
drop-take n (x ∷ xs) = refl

module _ (f b n : ℕ) (xs : List ℕ) (long : length xs ≡ n) where
  pub left-length : f + b ≤ n → length (left_between f b n xs) ≡ n - f - b
  unfolding left_between
  left-length l = rw (length-take, length-drop) (omega arith)

  pub left-none : f + b ≡ n → left_between f b n xs ≡ []
  unfolding left_between
  left-none e = let z : n - f - b ≡ 0 = omega arith in rw z

  pub none_left : f + b ≤ n → left_between f b n xs ≡ [] → f + b ≡ n
  none_left l e =
      let z : length (left_between f b n xs) ≡ 0 = ap length e in
      omega (arith, left-length l)

  module _ (l : f + b < n) where
    pub first-left : first_item (left_between f b n xs) ≡ get_or xs f 0
    unfolding first_item left_between
    first-left =
        let z : f + 0 ≡ f = omega arith in
        get_or-take (n - f - b) (drop f xs) 0 0 (omega arith) ∙ (get_or-drop f xs 0 0 ∙ ap (λ (i : ℕ). get_or xs i 0) z)

    pub without-first : without_first (left_between f b n xs) ≡ left_between (f + 1) b n xs
    unfolding without_first left_between
    without-first =
        let z : n - f - b ≡ suc (n - (f + 1) - b) = omega arith in
        rw (z, drop-take (n - (f + 1) - b) (drop f xs), drop-drop 1 f xs)

    last-at : get_or (left_between f b n xs) (n - f - b - 1) 0 ≡ get_or xs (n - 1 - b) 0
    unfolding left_between
    last-at =
        let z : f + (n - f - b - 1) ≡ n - 1 - b = omega arith in
        get_or-take (n - f - b) (drop f xs) (n - f - b - 1) 0 (omega arith) ∙ (get_or-drop f xs (n - f - b - 1) 0 ∙ ap (λ (i : ℕ). get_or xs i 0) z)

    pub last-left : last_item (left_between f b n xs) ≡ get_or xs (n - 1 - b) 0
    unfolding last_item
    last-left = rw (left-length (omega arith)) last-at

    shorter : take (n - f - b - 1) (left_between f b n xs) ≡ left_between f (b + 1) n xs
    unfolding left_between
    shorter =
        let z : n - f - b - 1 ≡ n - f - (b + 1) = omega arith in
        take-take (n - f - b - 1) (n - f - b) (drop f xs) (omega arith) ∙ ap (λ (i : ℕ). take i (drop f xs)) z

    pub without-last : without_last (left_between f b n xs) ≡ left_between f (b + 1) n xs
    unfolding without_last
    without-last = rw (left-length (omega arith)) shorter

-- A loop that copies the first n records of xs over those of zs₀, and what it has made at its end, where n is 64 or 0.
use mathlib.Core.Path.{◌≡◌, refl, sym, ◌∙◌, subst}
use mathlib.Core.Bool.{Bool, true, false, cond}
use mathlib.Core.Logic.{inl, inr}
use mathlib.Core.List.{List}
use Prim.Native.Nat.{ℕ, ◌+◌, ◌≤◌, ◌<◌, zero-le}
use native.Mathlib.Nat.{eq-or-lt_of_le, lt_irrefl, not-suc-le-zero}
use native.Mathlib.Numerals.{add-one-le}
use native.Mathlib.Omega.{arith}
use lib.Dec.{T as Holds, eqb→eq}
use lib.ListN.{length, get_or, set, length-set}
use lib.Seq.{ext_get_or, get_or-set_same, get_or-set_other}
use Rattle.records.specs.declared.Version.{Version}
use Rattle.version_table.specs.Tables.{blank, copies}

-- ---- one more record
le_next : {j i : ℕ} → j < i + 1 → j ≤ i
le_next p = omega (arith, p)

pub more_same : (xs zs : List Version) (i : ℕ) → i < length zs → ((j : ℕ) → j < i → get_or zs j blank ≡ get_or xs j blank) → (j : ℕ) → j < i + 1 → get_or (set zs i (get_or xs i blank)) j blank ≡ get_or xs j blank
more_same xs zs i l h j p = elim (eq-or-lt_of_le (le_next p)) [
  | inl e ↦ subst (λ (k : ℕ). get_or (set zs i (get_or xs i blank)) k blank ≡ get_or xs k blank) (sym e) (get_or-set_same zs i (get_or xs i blank) blank l)
  | inr q ↦ get_or-set_other zs i j (get_or xs i blank) blank (λ e. lt_irrefl i (subst (λ (k : ℕ). k < i) e q)) ∙ h j q
]

after_next : {j i : ℕ} → i + 1 ≤ j → i < j
after_next p = omega (arith, p)

pub less-rest : (zs zs₀ : List Version) (i : ℕ) (v : Version) → ((j : ℕ) → i ≤ j → get_or zs j blank ≡ get_or zs₀ j blank) → (j : ℕ) → i + 1 ≤ j → get_or (set zs i v) j blank ≡ get_or zs₀ j blank
less-rest zs zs₀ i v h j p = get_or-set_other zs i j v blank (λ e. lt_irrefl i (subst (λ (k : ℕ). i < k) e (after_next p))) ∙ h j (omega (arith, p))

-- ---- the state: zs is zs₀ with the first i records of xs over its own
pub record Copied (n : ℕ) (xs zs₀ zs : List Version) (i : ℕ) : Type 0 where
  pub upto : i ≤ n
  pub long : length zs ≡ length zs₀
  pub same : (j : ℕ) → j < i → get_or zs j blank ≡ get_or xs j blank
  pub rest : (j : ℕ) → i ≤ j → get_or zs j blank ≡ get_or zs₀ j blank

module _ (n : ℕ) (xs zs₀ : List Version) where
  pub starts : Copied n xs zs₀ zs₀ 0
  starts = record { upto = zero-le; long = refl; same = λ j p. absurd (not-suc-le-zero p); rest = λ j p. refl }

  pub turn : (zs : List Version) (i : ℕ) → Copied n xs zs₀ zs i → i < n → i < length zs → Copied n xs zs₀ (set zs i (get_or xs i blank)) (i + 1)
  turn zs i c l within = record {
    upto = add-one-le l;
    long = length-set zs i (get_or xs i blank) ∙ c.long;
    same = more_same xs zs i within c.same;
    rest = less-rest zs zs₀ i (get_or xs i blank) c.rest;
  }

-- ---- all or none
-- where a turn is taken all are copied
pub copying : (t : Bool) (i : ℕ) → i < cond t 64 0 → (t ≡ true) × (i < 64)
copying true i l = (refl, l)
copying false i l = absurd (not-suc-le-zero l)

pub whole : (w : Bool) (n : ℕ) → copies w n ≡ true → n ≡ 64
whole true n e = eqb→eq n 64 (subst Holds (sym e) tt)
whole false n e = absurd (subst Holds (sym e) tt)

from-none : {i j : ℕ} → i ≤ 0 → i ≤ j
from-none p = omega (arith, p)

under : {i j n : ℕ} → n ≡ 64 → 64 ≤ i → j < n → j < i
under e g p = omega (arith, e, g, p)

pub over : (t : Bool) (xs zs₀ zs : List Version) (i : ℕ) → Copied (cond t 64 0) xs zs₀ zs i → (t ≡ true → (length xs ≡ 64) × (length zs₀ ≡ 64)) → cond t 64 0 ≤ i → zs ≡ cond t xs zs₀
over true xs zs₀ zs i s m g = ext_get_or blank zs xs (s.long ∙ (m refl).1 ∙ sym (m refl).0) (λ j p. s.same j (under (s.long ∙ (m refl).1) g p))
over false xs zs₀ zs i s m g = ext_get_or blank zs zs₀ s.long (λ j p. s.rest j (from-none s.upto))

-- The cells of one node, read and written in the flat list.
use mathlib.Core.Path.{◌≡◌, sym, ap, ◌∙◌}
use mathlib.Core.Logic.{◌≢◌}
use mathlib.Core.List.{List, ◌++◌}
use Prim.Native.Nat.{ℕ, ◌+◌, ◌-◌, ◌*◌, ◌≤◌, ◌<◌}
use native.Mathlib.Decide.{dec_lt}
use native.Mathlib.Omega.{arith}
use lib.ListN.{length, get_or, take, drop, length-append, length-take, length-drop, get_or-append}
use lib.Seq.{length-take-le, take_at, drop_at, get_or-take, get_or-drop, get_or-append-add}
use Rattle.meaning.specs.Limits.{node_cells}
use Rattle.cells.specs.Cells.{cells_of, put_cells}

pub cells_at : (cells : List ℕ) (n i : ℕ) → i < node_cells → get_or (cells_of cells n) i 0 ≡ get_or cells (node_cells * n + i) 0
unfolding cells_of
cells_at cells n i l = get_or-take node_cells (drop (node_cells * n) cells) i 0 l ∙ get_or-drop (node_cells * n) cells i 0

pub cells-length : (cells : List ℕ) (n : ℕ) → node_cells * n + node_cells ≤ length cells → length (cells_of cells n) ≡ node_cells
unfolding cells_of
cells-length cells n l = length-take-le node_cells (drop (node_cells * n) cells) (rw length-drop (omega arith))

module _ (cells : List ℕ) (n : ℕ) (a : List ℕ) (fits : node_cells * n + node_cells ≤ length cells) (whole : length a ≡ node_cells) where
  front : length (take (node_cells * n) cells) ≡ node_cells * n
  front = length-take-le (node_cells * n) cells (omega arith)

  pub put-length : length (put_cells cells n a) ≡ length cells
  unfolding put_cells
  put-length = simp (length-append, length-take, length-drop) (omega arith)

  pub put_same : cells_of (put_cells cells n a) n ≡ a
  unfolding cells_of put_cells
  put_same =
      ap (take node_cells) (drop_at (take (node_cells * n) cells) (a ++ drop (node_cells * n + node_cells) cells) (node_cells * n) front)
      ∙ take_at a (drop (node_cells * n + node_cells) cells) node_cells whole

  pub put-inside : (i : ℕ) → i < node_cells → get_or (put_cells cells n a) (node_cells * n + i) 0 ≡ get_or a i 0
  put-inside i l = sym (cells_at (put_cells cells n a) n i l) ∙ ap (λ x. get_or x i 0) put_same

  pub put_other : (m i : ℕ) → m ≢ n → i < node_cells → get_or (put_cells cells n a) (node_cells * m + i) 0 ≡ get_or cells (node_cells * m + i) 0
  unfolding put_cells
  put_other m i f l = pick (dec_lt m n)
    where
      rest : List ℕ
      rest = drop (node_cells * n + node_cells) cells

      pick : Dec (m < n) → get_or (take (node_cells * n) cells ++ (a ++ rest)) (node_cells * m + i) 0 ≡ get_or cells (node_cells * m + i) 0
      pick (yes q) =
          get_or-append (take (node_cells * n) cells) (a ++ rest) 0 (node_cells * m + i) (omega (arith, front))
          ∙ get_or-take (node_cells * n) cells (node_cells * m + i) 0 (omega arith)
      pick (no q) =
          let k : ℕ = node_cells * m + i - (node_cells * n + node_cells) in
          let e : node_cells * m + i ≡ length (take (node_cells * n) cells) + (length a + k) = omega (arith, front) in
          let e₂ : node_cells * n + node_cells + k ≡ node_cells * m + i = omega arith in
          ap (λ x. get_or (take (node_cells * n) cells ++ (a ++ rest)) x 0) e
          ∙ get_or-append-add (take (node_cells * n) cells) (a ++ rest) (length a + k) 0
          ∙ get_or-append-add a rest k 0 ∙ get_or-drop (node_cells * n + node_cells) cells k 0 ∙ ap (λ x. get_or cells x 0) e₂

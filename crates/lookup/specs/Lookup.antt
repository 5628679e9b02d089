-- The element at an index, as the code finds it: from the cells alone.
use Rattle.std.specs.Prelude.{cond, List, [], ℕ, zero, suc, ◌+◌, ◌*◌, ltb, get_or, Option, Some, None}
use Rattle.meaning.specs.Limits.{node_cells}
use Rattle.meaning.specs.Shape.{bucket}
use Rattle.meaning.specs.Trees.{height_of, element}
use Rattle.records.specs.Records.{record_of}
use Rattle.records.specs.declared.Version.{Version}

-- the leaf of an index below node n of height h
unfoldable pub leaf_in : (cells : List ℕ) → (bits h n index : ℕ) → ℕ
leaf_in cells bits zero n index = n
leaf_in cells bits (suc h) n index = leaf_in cells bits h (get_or cells (node_cells * n + bucket bits (suc h) index) 0) index

-- kinds and used numbers don't matter
abbrev pub element_in : (cells : List ℕ) → (bits h n index : ℕ) → ℕ
element_in cells bits h n index = element (record { kinds = []; used = []; cells = cells }) bits h n index

unfoldable pub got : (cells : List ℕ) → Version → (index : ℕ) → Option ℕ
got cells v index = cond (ltb index v.length) (Some (element_in cells v.bits (height_of (record_of v)) v.root index)) None

-- The order of two versions' contents, as an answer of the code.
use Rattle.std.specs.Prelude.{List, [], ℕ}
use Rattle.std.specs.declared.cmp.Ordering.{Ordering}
use Rattle.std.specs.declared.cmp.Ordering.TheVariants.{Less, Equal, Greater}
use Rattle.meaning.specs.Trees.{contents}
use Rattle.meaning.specs.Effects.{Sign, before, same, after, order}
use Rattle.records.specs.Records.{record_of}
use Rattle.records.specs.declared.Version.{Version}

-- the meaning of each answer
abbrev pub sign_of : Ordering → Sign
sign_of Less = before
sign_of Equal = same
sign_of Greater = after

abbrev pub ordering_of : Sign → Ordering
ordering_of before = Less
ordering_of same = Equal
ordering_of after = Greater

-- from the cells alone: kinds and used numbers don't matter to contents
abbrev pub contents_in : (cells : List ℕ) → Version → List ℕ
contents_in cells v = contents (record { kinds = []; used = []; cells = cells }) (record_of v)

unfoldable pub ordering : (cells : List ℕ) → (a b : Version) → Ordering
ordering cells a b = ordering_of (order (contents_in cells a) (contents_in cells b))

-- What the operations that change nothing answer.
use Rattle.std.specs.Prelude.{◌≡◌, Bool, true, false, cond, List, ℕ, ◌-◌, ◌≤◌, eqb, get_or}
use Rattle.meaning.specs.Limits.{max_nodes, len_code, get_code, first_code, last_code, compare_code}
use Rattle.meaning.specs.Lent.{VersionRecord}
use Rattle.meaning.specs.Frames.{Frame}
use Rattle.meaning.specs.Operations.{Role, unused, source, filled, walked, opened, owner, bits, position, element, operations, unknown, uses}
use Rattle.records.specs.declared.Version.{Version}
use Rattle.shape.specs.Legal.{Legal}
use Rattle.lookup.specs.Lookup.{got}
use Rattle.compare.specs.Compare.{ordering}
use Rattle.served.specs.Served.{answered_with, got_with, ordered_with}
use Rattle.served.specs.declared.Served.{Served}

unfoldable pub is_source : Role → Bool
is_source source = true
is_source unused = false
is_source filled = false
is_source walked = false
is_source opened = false
is_source owner = false
is_source bits = false
is_source position = false
is_source element = false

-- the operation of that number reads a version
unfoldable pub sourced : (operation : ℕ) → Bool
sourced n = is_source (uses (get_or operations n unknown)).slot

pub record Readable (f : Frame) (free : ℕ) (v w : VersionRecord) : Type 0 where
  pub few : free ≤ max_nodes
  pub legal : sourced f.operation ≡ true → Legal v.bits v.length
  pub other : f.operation ≡ compare_code → Legal w.bits w.length

unfoldable pub read_with : (cells : List ℕ) → (free : ℕ) → Frame → (source other old : Version) → Served
read_with cells free f v w old =
    cond (eqb f.operation get_code) (got_with (got cells v f.index) free old)
    (cond (eqb f.operation len_code) (answered_with v.length free old)
    (cond (eqb f.operation first_code) (got_with (got cells v 0) free old)
    (cond (eqb f.operation last_code) (got_with (got cells v (v.length - 1)) free old)
    (cond (eqb f.operation compare_code) (ordered_with (ordering cells v w) free old)
    (answered_with free free old)))))

use lib.ListN.{length}
use mathlib.Core.Bool.{true}
use mathlib.Core.Path.{refl}
use Rattle.version_table.specs.Tables.{copies, blanks}
use Rattle.version_table.proofs.Copying.{over, whole}
use Rattle.version_table.proofs.table_of.Goals as goal

pub returns : goal.returns
returns c =
    let w = copies true (length c.args.versions.now) in
    over w c.args.versions.now blanks c.loop-n.table c.loop-n.n (rw (c.how_many-all.ensures, c.blank_table-table.ensures) at c.loop-n.invariant) (λ e. (whole true _ e, refl)) (rw c.how_many-all.ensures at c.loop-n-test.false)

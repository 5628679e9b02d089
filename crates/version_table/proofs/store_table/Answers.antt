use borrow.Author.Rules.{rules}
use lib.ListN.{length}
use mathlib.Core.Path.{◌≡◌}
use Rattle.version_table.specs.Tables.{copies}
use Rattle.version_table.proofs.Copying.{over, whole}
use Rattle.version_table.proofs.store_table.Goals as goal

pub returns : goal.returns
returns c =
    let w = copies c.args.wanted (length c.args.versions.now) in
    let long : length c.args.table ≡ 64 = search rules in
    over w c.args.table c.args.versions.now c.loop-n.versions c.loop-n.n (rw c.how_many-all.ensures at c.loop-n.invariant) (λ e. (long, whole c.args.wanted _ e)) (rw c.how_many-all.ensures at c.loop-n-test.false)

use mathlib.Core.Path.{refl, sym, ◌∙◌}
use native.Mathlib.Omega.{arith}
use borrow.Author.Rules.{rules}
use lib.ListN.{length}
use Rattle.std.proofs.lemmas.Iterator.{YieldsList-from_range}
use Rattle.std.proofs.lemmas.Iterator.Search.{all_from_yields_List}
use Rattle.std.proofs.Common.{tests}
use Rattle.audit_model.specs.Audit.{node_ok}
use Rattle.audit_reads.specs.Slices.{nodes_in}
use Rattle.audit_compare.proofs.Comparing.{all_listed}
use Rattle.audit_compare.proofs.nodes_ok.Goals as goal

pub returns : goal.returns
returns c =
    let n = length c.args.nodes.kinds.now in
    let test = node_ok (nodes_in c.args.nodes) c.args.counts.now c.args.codes.now c.args.tallies.now in
    all_from_yields_List test _ _ c.all.result c.all.ensures.ran (YieldsList-from_range 0 n n refl (omega arith)) (λ x b q k. search (rules, tests)) ∙ sym (all_listed n test)

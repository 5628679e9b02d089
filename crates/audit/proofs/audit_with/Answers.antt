use mathlib.Core.Path.{refl, ap}
use mathlib.Core.Bool.{not}
use borrow.Author.Tests.{not-true, not-false}
use Rattle.audit_reads.specs.Slices.{lent_in}
use Rattle.audit.proofs.Judging.{blank-under, by-records, by_order, by-nodes, told}
use Rattle.audit.proofs.audit_with.Goals as goal

pub returns-then-not-records_ok : goal.returns-then-not-records_ok
returns-then-not-records_ok c = by-records (lent_in c.args.lent) c.args.codes.now c.args.tallies.now c.requires c.records_ok.result _ _ _ c.records_ok.ensures (not-true _ (ap not c.if-not-records_ok.true)) (refl, refl)

pub tally_order-requires : goal.tally_order-requires
tally_order-requires c = (c.count_free-free.ensures.1, blank-under _ c.args.codes.now c.args.tallies.now c.requires.codes c.requires.tallies)

pub returns-then-not-tally_order : goal.returns-then-not-tally_order
returns-then-not-tally_order c = by_order (lent_in c.args.lent) c.args.codes.now c.args.tallies.now c.requires c.records_ok.result _ _ c.tally_order.result _ _ c.records_ok.ensures (not-false _ (ap not c.if-not-records_ok.false)) c.count_free-free.ensures.0 c.tally_order.ensures.0 (not-true _ (ap not c.if-not-tally_order.true)) (refl, refl)

pub returns : goal.returns
returns c =
    let placed = not-false _ (ap not c.if-not-tally_order.false) in
    by-nodes (lent_in c.args.lent) c.args.codes.now c.args.tallies.now c.requires c.records_ok.result _ _ c.tally_order.result _ _ c.nodes_ok-ok.result _ _ c.records_ok.ensures (not-false _ (ap not c.if-not-records_ok.false)) c.count_free-free.ensures.0 c.tally_order.ensures.0 placed
    (c.tally_order.ensures.1 placed).0 c.tally_links.ensures c.nodes_ok-ok.ensures (rw c.then_some.ensures (told c.nodes_ok-ok.result c.count_free-free.result))

use Rattle.requests.specs.Requests.{frame_of}
use Rattle.calls.proofs.Acting.{get-sourced, first-sourced, last-sourced, compare-sourced, get-reads, len-reads, first_reads, last-reads, compare-reads, free-reads}
use Rattle.calls.proofs.reads.read.Goals as goal

pub get-requires : goal.get-requires
get-requires c = c.requires.legal (get-sourced c.args.f.operation c.if-f-eq-GET.true)

pub returns-then-f-eq-GET : goal.returns-then-f-eq-GET
returns-then-f-eq-GET c = get-reads _ _ (frame_of c.args.f) c.args.v c.args.w c.args.old _ c.if-f-eq-GET.true _ c.get.ensures c.of_got.ensures

pub returns-then-f-eq-LEN : goal.returns-then-f-eq-LEN
returns-then-f-eq-LEN c = len-reads _ _ (frame_of c.args.f) c.args.v c.args.w c.args.old _ c.if-f-eq-GET.false c.if-f-eq-LEN.true _ c.len.ensures c.answered.ensures

pub first-requires : goal.first-requires
first-requires c = c.requires.legal (first-sourced c.args.f.operation c.if-f-eq-FIRST.true)

pub returns-then-f-eq-FIRST : goal.returns-then-f-eq-FIRST
returns-then-f-eq-FIRST c = first_reads _ _ (frame_of c.args.f) c.args.v c.args.w c.args.old _ c.if-f-eq-GET.false c.if-f-eq-LEN.false c.if-f-eq-FIRST.true _ c.first.ensures c.of_got-then-f-eq-FIRST.ensures

pub last-requires : goal.last-requires
last-requires c = c.requires.legal (last-sourced c.args.f.operation c.if-f-eq-LAST.true)

pub returns-then-f-eq-LAST : goal.returns-then-f-eq-LAST
returns-then-f-eq-LAST c = last-reads _ _ (frame_of c.args.f) c.args.v c.args.w c.args.old _ c.if-f-eq-GET.false c.if-f-eq-LEN.false c.if-f-eq-FIRST.false c.if-f-eq-LAST.true _ c.last.ensures c.of_got-then-f-eq-LAST.ensures

pub cmp-requires : goal.cmp-requires
cmp-requires c = record { left = c.requires.legal (compare-sourced c.args.f.operation c.if-f-eq-COMPARE.true); right = c.requires.other c.if-f-eq-COMPARE.true }

pub returns-then-f-eq-COMPARE : goal.returns-then-f-eq-COMPARE
returns-then-f-eq-COMPARE c = compare-reads _ _ (frame_of c.args.f) c.args.v c.args.w c.args.old _ c.if-f-eq-GET.false c.if-f-eq-LEN.false c.if-f-eq-FIRST.false c.if-f-eq-LAST.false c.if-f-eq-COMPARE.true _ c.cmp.ensures c.of_ordering.ensures

pub returns : goal.returns
returns c = free-reads _ _ (frame_of c.args.f) c.args.v c.args.w c.args.old _ c.if-f-eq-GET.false c.if-f-eq-LEN.false c.if-f-eq-FIRST.false c.if-f-eq-LAST.false c.if-f-eq-COMPARE.false _ c.word.ensures c.answered-2.ensures

use Rattle.store.specs.Lent.{held}
use Rattle.requests.specs.Requests.{frame_of}
use Rattle.calls.proofs.Acting.{edit-sourced, release-sourced, edit-stores, release-stores, read-stores}
use Rattle.calls.proofs.act_on_store.Goals as goal

pub edit-requires : goal.edit-requires
edit-requires c = record { steady = c.requires.steady; able = λ d. c.requires.source (edit-sourced c.args.f.operation c.if-edits.true d) }

pub returns-then-edits-clause-acted : goal.returns-then-edits-clause-acted
returns-then-edits-clause-acted c = edit-stores _ (frame_of c.args.f) c.args.v c.args.w c.args.old _ c.if-edits.true c.edit.ensures.acted

pub release-requires : goal.release-requires
release-requires c = c.requires.source (release-sourced c.args.f.operation c.if-f-eq-RELEASE.true)

pub returns-then-f-eq-RELEASE-clause-acted : goal.returns-then-f-eq-RELEASE-clause-acted
returns-then-f-eq-RELEASE-clause-acted c = release-stores _ (frame_of c.args.f) c.args.v c.args.w c.args.old c.if-edits.false _ c.if-f-eq-RELEASE.true c.release.ensures.acted

pub read-requires : goal.read-requires
read-requires c = record { few = c.requires.few; legal = λ e. (c.requires.source e).legal; other = c.requires.other }

pub returns-clause-free : goal.returns-clause-free
returns-clause-free c = (read-stores (held c.args.store.now c.args.cells.now c.args.order.now) (frame_of c.args.f) c.args.v c.args.w c.args.old c.if-edits.false _ c.if-f-eq-RELEASE.false c.read.ensures).0

pub returns-clause-acted : goal.returns-clause-acted
returns-clause-acted c = (read-stores (held c.args.store.now c.args.cells.now c.args.order.now) (frame_of c.args.f) c.args.v c.args.w c.args.old c.if-edits.false _ c.if-f-eq-RELEASE.false c.read.ensures).1

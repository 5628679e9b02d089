use mathlib.Core.Path.{refl, sym}
use native.Mathlib.Omega.{arith}
use Rattle.std.proofs.Common.{rules}
use Rattle.requests.specs.Requests.{frame_of, answer_of}
use Rattle.runs.specs.States.{state_of}
use Rattle.runs.proofs.Stepping.{record-there, serve-steps, goes_on, ends}
use Rattle.runs.proofs.Repeated.{repeatable, goes-far}
use Rattle.runs.proofs.run.Goals as goal

pub repeat-k-requires : goal.repeat-k-requires
repeat-k-requires c =
    let mid = goes_on _ _ _ _ _ c.loop-k.k c.loop-k.invariant.going c.loop-k-test.true (serve-steps _ _ _ c.loop-k.k (frame_of c.frame_at-f.result) (state_of c.loop-k.store c.loop-k.cells c.loop-k.order c.loop-k.versions c.loop-k.walks) (state_of c.serve-answer.new.store c.serve-answer.new.cells c.serve-answer.new.order c.serve-answer.new.versions c.serve-answer.new.walks) (answer_of c.serve-answer.result) c.serve-answer.ensures.served c.frame_at-f.ensures c.put_answer.ensures) c.serve-answer.ensures.same_slices.kinds.length c.put_answer.auto.room in
    repeatable _ mid.runs (frame_of c.frame_at-f.result) _ _ _ _ _ (record { far = mid.far; asked = c.requires.asked; fits = omega (arith, mid.fits, c.requires.fits) }) (record-there c.serve-answer.new.versions _ _ c.places_of-at.ensures.source_is)

pub loop-k-preserved : goal.loop-k-preserved
loop-k-preserved c =
    let mid = goes_on _ _ _ _ _ c.loop-k.k c.loop-k.invariant.going c.loop-k-test.true (serve-steps _ _ _ c.loop-k.k (frame_of c.frame_at-f.result) (state_of c.loop-k.store c.loop-k.cells c.loop-k.order c.loop-k.versions c.loop-k.walks) (state_of c.serve-answer.new.store c.serve-answer.new.cells c.serve-answer.new.order c.serve-answer.new.versions c.serve-answer.new.walks) (answer_of c.serve-answer.result) c.serve-answer.ensures.served c.frame_at-f.ensures c.put_answer.ensures) c.serve-answer.ensures.same_slices.kinds.length c.put_answer.auto.room in
    record {
      going = goes-far _ _ _ _ _ _ _ mid c.repeat-k.ensures.from c.repeat-k.ensures.to (c.repeat-k.ensures.serves _ _ refl refl (sym (record-there c.serve-answer.new.versions _ _ c.places_of-at.ensures.source_is))) refl c.repeat-k.auto.room;
      same_slices = search rules;
    }

pub returns-clause-ran : goal.returns-clause-ran
returns-clause-ran c = ends _ _ _ _ _ c.loop-k.invariant.going c.loop-k-test.false

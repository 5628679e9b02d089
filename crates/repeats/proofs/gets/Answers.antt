use mathlib.Core.Path.{◌≡◌, refl, ap, ◌∙◌}
use Prim.Native.Nat.{ℕ}
use native.Mathlib.Omega.{arith}
use native.Mathlib.Nat.{lt_irrefl}
use Rattle.lookup.specs.Lookup.{element_in}
use Rattle.lookup.proofs.Found.{element-found}
use Rattle.requests.specs.Requests.{frame_of}
use Rattle.repeats.specs.InARow.{is_get}
use Rattle.repeats.proofs.Repeating.{row-begins, row-goes-on, row-stops, gets-begin, gets-go-on}
use mathlib.Core.Bool.{not}
use Rattle.repeats.proofs.gets.Goals as goal

pub loop-j-init : goal.loop-j-init
loop-j-init c = (row-begins _ _ _ _ c.requires.room.far, gets-begin _ _ _ _ _, refl, c.leaf-leaf.ensures)

pub returns-then-not-is_get : goal.returns-then-not-is_get
returns-then-not-is_get c = record { gets = record { row = c.loop-j.invariant.0; answers = c.loop-j.invariant.1 }; stops = row-stops (is_get c.args.party c.args.slot c.args.v.length) c.args.requests.now c.args.count c.loop-j.j (frame_of c.frame_at-f.result) _ c.frame_at-f.ensures c.is_get.ensures (ap not c.if-not-is_get.true) }

pub loop-j-preserved : goal.loop-j-preserved
loop-j-preserved c = (row-goes-on _ _ _ _ c.loop-j.j (frame_of c.frame_at-f.result) _ c.loop-j.invariant.0 c.loop-j-test.true c.frame_at-f.ensures c.is_get.ensures (ap not c.if-not-is_get.false), gets-go-on _ c.args.v _ _ _ c.loop-j.j _ (frame_of c.frame_at-f.result) _ _ c.loop-j.invariant.0.from c.loop-j.invariant.1 c.frame_at-f.ensures (element-found c.args.cells.now c.args.v.bits c.frame_at-f.result.index _ c.args.v.root _ _ _ (rw c.of-form.ensures.bits at c.leaf_again-leaf.ensures) c.bucket-b.ensures.value c.cell_at-x.ensures ∙ ap (λ (h : ℕ). element_in c.args.cells.now c.args.v.bits h c.args.v.root c.frame_at-f.result.index) c.of-form.ensures.height) (rw c.done.ensures at c.put_answer.ensures), c.put_answer.auto.room ∙ c.loop-j.invariant.2, c.leaf_again-leaf.ensures)

pub returns : goal.returns
returns c =
    let e : c.loop-j.j ≡ c.args.count = omega arith in
    record { gets = record { row = rw e at c.loop-j.invariant.0; answers = rw e at c.loop-j.invariant.1 }; stops = λ h. absurd (lt_irrefl c.args.count h) }

use native.Mathlib.Omega.{arith}
use Rattle.meaning.specs.Shape.{degree}
use Rattle.shape.proofs.Powers.{one-shifts, degree-least, degree-most}
use Rattle.shape.proofs.vector_utils.degree.Goals as goal

-- `shape::vector_utils::degree` meets its contract.

pub returns : goal.returns
unfolding degree
returns c =
    let e = one-shifts c.args.bits (omega arith) in
    record { value = e; bounds = (rw e (degree-least c.args.bits c.requires.least), rw e (degree-most c.args.bits c.requires.most)) }

use native.Mathlib.Omega.{arith}
use Rattle.shape.proofs.Computed.{capacity-computed}
use Rattle.shape.proofs.root_max_capacity.Goals as goal

-- `shape::root_max_capacity` meets its contract: by the limits the shift is below the word width.

pub overflow_shl-result : goal.overflow_shl-result
overflow_shl-result c = omega arith

pub returns : goal.returns
returns c =
    let a = c.args in
    let both = capacity-computed a.bits a.length c.height.result c.requires c.height.ensures.value in record { value = both.0; holds = both.1 }

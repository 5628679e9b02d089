use Rattle.shape.proofs.Computed.{bucket-computed}
use Rattle.shape.proofs.vector_utils.bucket.Goals as goal

-- `shape::vector_utils::bucket` meets its contract: what the mask leaves is the rest by the degree.

pub returns : goal.returns
returns c =
    let a = c.args in
    let both = bucket-computed a.bits a.height a.index c.mask.result c.requires.legal.most c.mask.ensures in record { value = both.0; cell = both.1 }

use Rattle.calls.proofs.Acting.{root-releases, closes}
use Rattle.calls.proofs.walks.close.Goals as goal

pub release-requires : goal.release-requires
release-requires c = root-releases _ _ _ c.version-v.ensures c.requires.release

pub returns-clause-closes : goal.returns-clause-closes
returns-clause-closes c = closes _ _ _ _ _ _ _ _ c.version-v.ensures c.release.ensures.released c.close.ensures c.answered.ensures

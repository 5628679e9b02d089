use mathlib.Core.Path.{◌∙◌}
use Rattle.requests.proofs.Bytes.{number_is}
use Rattle.requests.proofs.number_at.Goals as goal

-- `requests::number_at` meets its contract.

pub returns : goal.returns
returns c = c.from_be_bytes.ensures ∙ number_is c.args.requests.now c.args.at c.requires

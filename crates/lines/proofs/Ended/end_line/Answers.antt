use mathlib.Core.Path.{◌≡◌}
use mathlib.Core.Bool.{false, ◌&&◌}
use lib.Dec.{eqb}
use Rattle.meaning.specs.Program.{all_digits}
use Rattle.hexadecimal.specs.Text.{line_size}
use Rattle.lines.proofs.Ended.end_line.Goals as goal

-- `lines::Ended::end_line` meets its contract.

pub returns-clause-ended : goal.returns-clause-ended
returns-clause-ended c =
    let e : (eqb c.args.line.now.len line_size && all_digits c.args.line.now.digits) ≡ false = cc in
    rw e (c.put_other.ensures.ended _)

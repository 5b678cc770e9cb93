-- The nearest normal half.
use Rattle.math.proofs.Rounding.{normal_near}
use Rattle.math.proofs.round_normal.Goals as goal

pub returns : goal.returns
returns c = normal_near c.args.u c.requires.from c.requires.to

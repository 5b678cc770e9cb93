-- The nearest subnormal half.
use Rattle.math.proofs.Rounding.{small_near}
use Rattle.math.proofs.round_subnormal.Goals as goal

pub returns : goal.returns
returns c = small_near c.args.u c.requires.from c.requires.to

-- The comparison of each pair.
use Rattle.std.proofs.Common.{◌∙◌}
use Rattle.geometry.proofs.Lists.{each_same}
use Rattle.geometry.proofs.numbers.same_numbers.Goals as goal

pub returns : goal.returns
returns c = c.eq.ensures ∙ each_same c.args.xs.now c.args.ys.now

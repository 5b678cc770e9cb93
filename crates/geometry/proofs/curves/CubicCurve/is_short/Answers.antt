-- The extent over the numbers that the patterns stand for.
use Rattle.std.proofs.Common.{rules}
use Rattle.geometry.specs.Segments.{too_short}
use Rattle.geometry.proofs.curves.CubicCurve.is_short.Goals as goal

pub returns : goal.returns
unfolding too_short
returns c = search rules

-- Points are equal where both words are.
use Rattle.std.proofs.Common.{rules}
use Rattle.geometry.specs.Segments.{same_point}
use Rattle.geometry.proofs.curves.is_same_point.Goals as goal

pub returns : goal.returns
unfolding same_point
returns c = search rules

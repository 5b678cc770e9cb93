-- The point in the last two words.
use Rattle.std.proofs.Common.{refl}
use Rattle.path.specs.Entries.{last_point}
use Rattle.path.proofs.entries.last_point.Goals as goal

pub returns : goal.returns
unfolding last_point
returns c = refl

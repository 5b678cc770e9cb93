-- The worked halves.
use Rattle.math.proofs.Worked.{worked}
use Rattle.math.proofs.worked_halves.Goals as goal

pub returns : goal.returns
returns c = worked

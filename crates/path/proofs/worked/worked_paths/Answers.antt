-- The paths worked through.
use Rattle.path.proofs.Examples.{worked}
use Rattle.path.proofs.worked.worked_paths.Goals as goal

pub returns : goal.returns
returns c = worked

-- The worked examples.
use Rattle.geometry.proofs.Examples.{worked}
use Rattle.geometry.proofs.worked.worked_examples.Goals as goal

pub returns : goal.returns
returns c = worked

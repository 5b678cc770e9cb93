use Rattle.replay.proofs.Examples.{worked}
use Rattle.replay.proofs.worked.worked_sheets.Goals as goal

pub returns : goal.returns
returns c = worked

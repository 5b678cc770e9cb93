-- A number below zero is turned.
use Rattle.geometry.proofs.Epsilon.{turned, kept}
use Rattle.geometry.proofs.tangents.size.Goals as goal

pub returns-then-d : goal.returns-then-d
returns-then-d c = turned c.args.d c.if-d.true

pub returns-else-d : goal.returns-else-d
returns-else-d c = kept c.args.d c.if-d.false

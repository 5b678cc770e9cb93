use Rattle.monoid.proofs.Words.{tested}
use Rattle.monoid.proofs.path.PathTag.is_f32.Goals as goal

pub returns : goal.returns
returns c = tested 3 c.args.self.0

use Rattle.monoid.proofs.Words.{tested}
use Rattle.monoid.proofs.path.PathTag.is_subpath_end.Goals as goal

pub returns : goal.returns
returns c = tested 2 c.args.self.0

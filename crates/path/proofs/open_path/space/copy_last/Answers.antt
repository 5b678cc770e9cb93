-- The copy is the end of the whole.
use Rattle.std.proofs.Common.{arith}
use Rattle.path.proofs.Copy.{whole}
use Rattle.path.proofs.open_path.space.copy_last.Goals as goal

pub returns : goal.returns
returns g c = whole c.args.from.now c.copy_from_slice.new.self _ c.args.k (omega arith) c.copy_from_slice.ensures.after

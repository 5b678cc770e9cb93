-- The last tag ends its subpath.
use Rattle.std.proofs.Common.{◌-◌, length, set, ap}
use Rattle.monoid.specs.declared.path.PathTag.{PathTag}
use Rattle.path.specs.Entries.{end_last}
use Rattle.path.proofs.entries.end_last.Goals as goal

pub returns : goal.returns
unfolding end_last
returns c = ap (λ (t : PathTag). set c.args.tags.now (length c.args.tags.now - 1) t) c.set_subpath_end.ensures

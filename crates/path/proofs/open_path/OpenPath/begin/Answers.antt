-- A point is written, with room for it.
use Rattle.std.proofs.Common.{rules}
use Rattle.path.specs.View.{lent}
use Rattle.path.proofs.Steps.{Spare, spare_begin}
use Rattle.path.proofs.open_path.OpenPath.begin.Goals as goal

pub write_point-self-requires : goal.write_point-self-requires
write_point-self-requires c = (spare_begin c.args.p (lent c.args.self.now c.args.tags.now c.args.words.now) c.requires).words

pub returns : goal.returns
returns c =
    let s : Spare (lent c.args.self.now c.args.tags.now c.args.words.now) 0 2 = spare_begin c.args.p _ c.requires in
    record { shows = cc; kept = record { tags = search rules; words = search rules } }

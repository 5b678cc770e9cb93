-- A segment is written, with room for its points and tag.
use Rattle.std.proofs.Common.{length, arith, rules}
use Rattle.path.specs.Entries.{segment_words}
use Rattle.path.specs.View.{lent}
use Rattle.path.proofs.Steps.{Spare, spare_write}
use Rattle.path.proofs.open_path.OpenPath.write.Goals as goal

pub write_points-self-requires : goal.write_points-self-requires
write_points-self-requires g c = (spare_write (g.C.Curve.segment c.args.s) (lent c.args.self.now c.args.tags.now c.args.words.now) c.requires).words

pub write_tag-self-requires : goal.write_tag-self-requires
write_tag-self-requires g c =
    let s : Spare (lent c.args.self.now c.args.tags.now c.args.words.now) 1 (length (segment_words (g.C.Curve.segment c.args.s))) = spare_write (g.C.Curve.segment c.args.s) _ c.requires in
    omega arith

pub returns : goal.returns
returns g c =
    let s : Spare (lent c.args.self.now c.args.tags.now c.args.words.now) 1 (length (segment_words (g.C.Curve.segment c.args.s))) = spare_write (g.C.Curve.segment c.args.s) _ c.requires in
    record { shows = cc; kept = record { tags = search rules; words = search rules } }

-- In an open subpath a line is kept or dropped.
use Rattle.std.proofs.Common.{sym, rules}
use Rattle.geometry.specs.declared.points.Segment.TheVariants.{Line}
use Rattle.path.specs.Rules.{put, segment_to}
use Rattle.path.specs.View.{lent, view}
use Rattle.path.proofs.Cases.{segment_open}
use Rattle.path.proofs.Steps.{as_rule, ready_as}
use Rattle.path.proofs.open_path.OpenPath.line_on.Goals as goal

pub put-requires : goal.put-requires
put-requires c =
    let a = lent c.args.self.now c.args.tags.now c.args.words.now in
    record { ready = ready_as (segment_to (Line c.args.p)) (put (Line c.args.p)) a (segment_open (Line c.args.p) (view a) c.in-NonemptySubpath.is) c.requires; point = search rules }

pub returns-in-NonemptySubpath : goal.returns-in-NonemptySubpath
returns-in-NonemptySubpath c =
    let a = lent c.args.self.now c.args.tags.now c.args.words.now in
    as_rule (put (Line c.args.p)) (segment_to (Line c.args.p)) a _ (sym (segment_open (Line c.args.p) (view a) c.in-NonemptySubpath.is)) c.put.ensures

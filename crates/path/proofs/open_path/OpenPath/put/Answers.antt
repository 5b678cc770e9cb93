-- A segment is written or dropped.
use Rattle.std.proofs.Common.{◌≡◌, true, false, take, sym}
use Rattle.geometry.specs.Segments.{too_short}
use Rattle.path.specs.Entries.{last_point}
use Rattle.path.specs.Rules.{put, write}
use Rattle.path.specs.View.{lent, view}
use Rattle.path.proofs.Cases.{put-short, put_long}
use Rattle.path.proofs.Steps.{as_rule, ready_as}
use Rattle.path.proofs.open_path.OpenPath.put.Goals as goal

pub returns-then-is_short : goal.returns-then-is_short
returns-then-is_short g c =
    let a = lent c.args.self.now c.args.tags.now c.args.words.now in
    let s = g.C.Curve.segment c.args.s in
    let h : too_short (last_point (take c.args.self.now.words c.args.words.now)) (g.C.Curve.segment c.args.s) ≡ true = cc in
    record { shows = sym (put-short s (view a) h); kept = c.requires.ready.held }

pub write-requires : goal.write-requires
write-requires g c =
    let a = lent c.args.self.now c.args.tags.now c.args.words.now in
    let s = g.C.Curve.segment c.args.s in
    let h : too_short (last_point (take c.args.self.now.words c.args.words.now)) (g.C.Curve.segment c.args.s) ≡ false = cc in
    ready_as (put s) (write s) a (put_long s (view a) h) c.requires.ready

pub returns : goal.returns
returns g c =
    let a = lent c.args.self.now c.args.tags.now c.args.words.now in
    let s = g.C.Curve.segment c.args.s in
    let h : too_short (last_point (take c.args.self.now.words c.args.words.now)) (g.C.Curve.segment c.args.s) ≡ false = cc in
    as_rule (write s) (put s) a _ (sym (put_long s (view a) h)) c.write.ensures

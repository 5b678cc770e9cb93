-- The first segment of a subpath needs a tangent, and a later one does not.
use Rattle.std.proofs.Common.{Some, None, sym, ◌∙◌, rules}
use Rattle.path.specs.Rules.{draw, put, with_tangent}
use Rattle.path.specs.View.{lent, view}
use Rattle.path.proofs.Cases.{draw-first, draw_later}
use Rattle.path.proofs.Steps.{as_rule, ready_as, room_as, point_held}
use Rattle.path.proofs.open_path.OpenPath.draw.Goals as goal

pub returns-in_default-tangent_end : goal.returns-in_default-tangent_end
returns-in_default-tangent_end g c =
    let a = lent c.args.self.now c.args.tags.now c.args.words.now in
    record { shows = sym (draw-first (g.C.Curve.segment c.args.s) (view a) None c.in-MoveTo.is (sym c.in_default-tangent_end.ensures.value)); kept = c.requires.ready.held }

pub put-requires : goal.put-requires
put-requires g c =
    let a = lent c.args.self.now c.args.tags.now c.args.words.now in
    let s = g.C.Curve.segment c.args.s in
    record {
      ready = record {
        held = record { tags = c.requires.ready.held.tags; words = c.requires.ready.held.words };
        room = room_as (draw s (view a)) (put s (with_tangent c.in-Some.t (view a))) _ _ (draw-first s (view a) (Some c.in-Some.t) c.in-MoveTo.is (sym c.in-Some.ensures.value)) c.requires.ready.room;
      };
      point = search rules;
    }

pub put-requires-in_default : goal.put-requires-in_default
put-requires-in_default g c =
    let a = lent c.args.self.now c.args.tags.now c.args.words.now in
    let s = g.C.Curve.segment c.args.s in
    record { ready = ready_as (draw s) (put s) a (draw_later s (view a) c.requires.begun c.in_default.not-MoveTo) c.requires.ready; point = point_held c.args.self.now c.requires.begun }

pub returns-in-Some : goal.returns-in-Some
returns-in-Some g c =
    let a = lent c.args.self.now c.args.tags.now c.args.words.now in
    record { shows = c.put.ensures.shows ∙ sym (draw-first (g.C.Curve.segment c.args.s) (view a) (Some c.in-Some.t) c.in-MoveTo.is (sym c.in-Some.ensures.value)); kept = c.put.ensures.kept }

pub returns-in_default : goal.returns-in_default
returns-in_default g c =
    let a = lent c.args.self.now c.args.tags.now c.args.words.now in
    let s = g.C.Curve.segment c.args.s in
    as_rule (put s) (draw s) a _ (sym (draw_later s (view a) c.requires.begun c.in_default.not-MoveTo)) c.put-in_default.ensures

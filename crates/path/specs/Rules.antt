-- The rules of an open path, over its own tags and words. Assumes nothing.
use Rattle.std.specs.Prelude.{ℕ, Bool, true, false, cond, List, [], ◌∷◌, ◌++◌, Some, None, Option}
use Rattle.geometry.specs.declared.points.Point.{Point}
use Rattle.geometry.specs.declared.points.Segment.{Segment}
use Rattle.geometry.specs.declared.points.Segment.TheVariants.{Line, Quad}
use Rattle.geometry.specs.Segments.{tangent_end, too_short, same_point, end_point}
use Rattle.monoid.specs.declared.path.PathTag.{PathTag}
use Rattle.path.specs.declared.state.PathState.{PathState}
use Rattle.path.specs.declared.state.PathState.TheVariants.{Start, MoveTo, NonemptySubpath}
use Rattle.path.specs.declared.state.Step.{Step}
use Rattle.path.specs.declared.state.Step.TheVariants.{Move, Draw, Close}
use Rattle.path.specs.declared.state.Call.{Call}
use Rattle.path.specs.declared.state.Call.TheVariants.{Take, Finish}
use Rattle.path.specs.Entries.{point_words, segment_words, tag_of, end_last, finished, drop_point, last_point}

-- the path's own entries: each tag is a segment counted
pub record Own : Type 0 where
  pub tags : List PathTag
  pub words : List ℕ

pub record Path : Type 0 where
  pub state : PathState
  pub moved : Bool
  pub fill : Bool
  pub first : Point
  pub tangent : Point
  pub own : Own

abbrev pub origin : Point
origin = record { x = 0; y = 0 }

-- a path that was just opened
abbrev pub fresh : Bool → Path
fresh f = record { state = Start; moved = false; fill = f; first = origin; tangent = origin; own = record { tags = []; words = [] } }

-- the path in another state, with other entries
abbrev pub with_own : PathState → Own → Path → Path
with_own z o m = record { state = z; moved = m.moved; fill = m.fill; first = m.first; tangent = m.tangent; own = o }

abbrev pub with_tangent : Point → Path → Path
with_tangent t m = record { state = m.state; moved = m.moved; fill = m.fill; first = m.first; tangent = t; own = m.own }

-- a segment's points and tag are written
abbrev pub write : Segment → Path → Path
write s m = with_own NonemptySubpath (record { tags = m.own.tags ++ tag_of s ∷ []; words = m.own.words ++ segment_words s }) m

-- the last tag ends its subpath
abbrev pub mark_end : Path → Path
mark_end m = with_own Start (record { tags = end_last m.own.tags; words = m.own.words }) m

-- a lone first point goes
abbrev pub drop_move : Path → Path
drop_move m = with_own Start (record { tags = m.own.tags; words = drop_point m.own.words }) m

-- a subpath begins
abbrev pub begin : Point → Path → Path
begin p m = record { state = MoveTo; moved = true; fill = m.fill; first = p; tangent = m.tangent; own = record { tags = m.own.tags; words = m.own.words ++ point_words p } }

-- a segment that is too short is dropped
unfoldable pub put : Segment → Path → Path
put s m = cond (too_short (last_point m.own.words) s) m (write s m)

-- the line back to the first point, unless the path is there
unfoldable pub join : Path → Path
join m = cond (same_point (last_point m.own.words) m.first) m (write (Line m.first) m)

-- the marker of a stroke's subpath, closed or open, which is kept or dropped as any segment
abbrev pub marker : Bool → Path → Segment
marker closed m = cond closed (Line m.tangent) (Quad m.first m.tangent)

abbrev pub put_marker : Bool → Path → Path
put_marker closed m = put (marker closed m) m

abbrev pub close_in : PathState → Path → Path
close_in Start m = m
close_in MoveTo m = drop_move m
close_in NonemptySubpath m = mark_end (cond m.fill (join m) (put_marker true (join m)))

unfoldable pub close : Path → Path
close m = close_in m.state m

-- a subpath that is left: a fill's is closed, and a stroke's gets an open marker
abbrev pub leave_in : PathState → Path → Path
leave_in Start m = m
leave_in MoveTo m = drop_move m
leave_in NonemptySubpath m = mark_end (put_marker false m)

unfoldable pub leave : Path → Path
leave m = cond m.fill (close m) (leave_in m.state m)

abbrev pub move_to : Point → Path → Path
move_to p m = begin p (leave m)

-- the first segment of a subpath needs a tangent
abbrev pub put_first : Option Point → Segment → Path → Path
put_first None s m = m
put_first (Some t) s m = put s (with_tangent t m)

abbrev pub draw_in : PathState → Segment → Path → Path
draw_in Start s m = m
draw_in MoveTo s m = put_first (tangent_end m.first s) s m
draw_in NonemptySubpath s m = put s m

unfoldable pub draw : Segment → Path → Path
draw s m = draw_in m.state s m

-- before any move a segment is a move to its end; later, with no subpath open, one begins at the first point
abbrev pub segment_in : PathState → Segment → Path → Path
segment_in Start s m = cond m.moved (draw s (move_to m.first m)) (move_to (end_point s) m)
segment_in MoveTo s m = draw s m
segment_in NonemptySubpath s m = draw s m

unfoldable pub segment_to : Segment → Path → Path
segment_to s m = segment_in m.state s m

-- the subpath is left and, if any segment was counted, the path ends
abbrev pub end_path : Bool → Path → Path
end_path mark m = with_own m.state (record { tags = finished mark m.own.tags; words = m.own.words }) m

abbrev pub finish : Bool → Path → Path
finish mark m = end_path mark (leave m)

abbrev pub step : Step → Path → Path
step (Move p) m = move_to p m
step (Draw s) m = segment_to s m
step Close m = close m

abbrev pub call : Call → Path → Path
call (Take s) m = step s m
call (Finish mark) m = finish mark m

-- the steps of a list, in turn
abbrev pub steps : List Step → Path → Path
steps [] m = m
steps (s ∷ ss) m = steps ss (step s m)

-- What `move_to`, the segment calls, `close` and the marker ask of one another, and what they leave.
use Rattle.std.proofs.Common.{◌≡◌, Bool, true, false, sym, ap, ◌∙◌, arith, rules}
use Rattle.geometry.specs.declared.points.Segment.TheVariants.{Line, Quad}
use Rattle.path.specs.declared.state.PathState.TheVariants.{Start, MoveTo, NonemptySubpath}
use Rattle.path.specs.Rules.{join, close, leave, move_to, segment_to, mark_end, drop_move, put_marker}
use Rattle.path.specs.Opening.{opened}
use Rattle.path.specs.View.{lent, view, Does}
use Rattle.path.proofs.Cases.{close_at, leave-fill, leave-at, segment_open, join_open}
use Rattle.path.proofs.Steps.{as_rule, and_then, ready_as, ready_next, room_as, room_mark, room-begin, room-close, state-after, closing, room-closing, closing-as, closing-fill, closing-stroke, closing_open, marked_open, ready_opened, ready_drawn, begun_drawn, does_drawn, does_moved, opened_again, opened-first, opened_begun, draws-at_start, draws_begun}
use Rattle.path.proofs.open_path.OpenPath.+path_calls.Goals.{close-then-not-self, close-else-not-self}
use Rattle.path.proofs.open_path.OpenPath.+path_calls.Goals as goal

pub close-drop_move-requires : goal.close-drop_move-requires
close-drop_move-requires t c =
    let a = lent c.args.self.now c.args.tags.now c.args.words.now in
    record { ready = ready_as close drop_move a (close_at MoveTo (view a) c.in-MoveTo.is) c.requires; moved = c.in-MoveTo.is }

pub close-join_first-requires : goal.close-join_first-requires
close-join_first-requires t c =
    let a = lent c.args.self.now c.args.tags.now c.args.words.now in
    record { ready = record { held = c.requires.held; room = room-close (view a) _ _ c.in-NonemptySubpath.is c.requires.room }; point = search rules }

pub close-insert_marker-requires : goal.close-insert_marker-requires
close-insert_marker-requires t c =
    let a = lent c.args.self.now c.args.tags.now c.args.words.now in
    let b = lent c.join_first.new.self c.join_first.new.tags c.join_first.new.words in
    let f : c.join_first.new.self.is_fill ≡ false = cc in
    let st : c.join_first.new.self.state ≡ NonemptySubpath = state-after join NonemptySubpath a b c.join_first.ensures (join_open (view a) c.in-NonemptySubpath.is) in (
      search rules,
      (
        ready_next join (put_marker true) a b c.join_first.ensures (omega arith) (omega arith)
            (room_as _ _ _ _ (closing-as false a b c.join_first.ensures f) (room-closing (view a) _ _ c.in-NonemptySubpath.is c.requires.room)),
        st,
      ),
    )

pub close-mark_end-requires : goal.close-mark_end-requires
close-mark_end-requires t c =
    let a = lent c.args.self.now c.args.tags.now c.args.words.now in
    let b = lent c.join_first.new.self c.join_first.new.tags c.join_first.new.words in
    let d = lent c.if-not-self.self c.if-not-self.tags c.if-not-self.words in
    let p : Does closing a d = elim c.if-not-self.branch [
      | close-then-not-self w ↦ let f : c.join_first.new.self.is_fill ≡ false = cc in rw (w.self-is, w.tags-is, w.words-is) (closing-stroke a b _ c.join_first.ensures f w.insert_marker.ensures)
      | close-else-not-self w ↦ let f : c.join_first.new.self.is_fill ≡ true = cc in rw (w.self-is, w.tags-is, w.words-is) (closing-fill a b c.join_first.ensures f)
    ] in
    record {
      ready = ready_next closing mark_end a d p (omega arith) (omega arith) (room_as _ _ _ _ (close_at NonemptySubpath (view a) c.in-NonemptySubpath.is) c.requires.room);
      drawn = state-after closing NonemptySubpath a d p (closing_open (view a) c.in-NonemptySubpath.is);
    }

pub close-returns-in-Start : goal.close-returns-in-Start
close-returns-in-Start t c =
    let a = lent c.args.self.now c.args.tags.now c.args.words.now in
    record { shows = sym (close_at Start (view a) c.in-Start.is); kept = c.requires.held }

pub close-returns-in-MoveTo : goal.close-returns-in-MoveTo
close-returns-in-MoveTo t c =
    let a = lent c.args.self.now c.args.tags.now c.args.words.now in
    as_rule drop_move close a _ (sym (close_at MoveTo (view a) c.in-MoveTo.is)) c.drop_move.ensures

pub close-returns-after-not-self : goal.close-returns-after-not-self
close-returns-after-not-self t c =
    let a = lent c.args.self.now c.args.tags.now c.args.words.now in
    let b = lent c.join_first.new.self c.join_first.new.tags c.join_first.new.words in
    let d = lent c.if-not-self.self c.if-not-self.tags c.if-not-self.words in
    let p : Does closing a d = elim c.if-not-self.branch [
      | close-then-not-self w ↦ let f : c.join_first.new.self.is_fill ≡ false = cc in rw (w.self-is, w.tags-is, w.words-is) (closing-stroke a b _ c.join_first.ensures f w.insert_marker.ensures)
      | close-else-not-self w ↦ let f : c.join_first.new.self.is_fill ≡ true = cc in rw (w.self-is, w.tags-is, w.words-is) (closing-fill a b c.join_first.ensures f)
    ] in
    as_rule (λ m. mark_end (closing m)) close a _ (sym (close_at NonemptySubpath (view a) c.in-NonemptySubpath.is)) (and_then closing mark_end a d _ p c.mark_end.ensures)

pub insert_marker-line_to-requires : goal.insert_marker-line_to-requires
insert_marker-line_to-requires t c =
    let a = lent c.args.self.now c.args.tags.now c.args.words.now in
    let s = Line c.args.self.now.first_start_tangent_end in
    (search rules, ready_as (put_marker c.args.is_closed) (segment_to s) a (ap (λ (b : Bool). put_marker b (view a)) c.if-is_closed.true ∙ sym (segment_open s (view a) c.requires.drawn)) c.requires.ready)

pub insert_marker-quad_to-requires : goal.insert_marker-quad_to-requires
insert_marker-quad_to-requires t c =
    let a = lent c.args.self.now c.args.tags.now c.args.words.now in
    let s = Quad c.args.self.now.first_point c.args.self.now.first_start_tangent_end in
    (search rules, ready_as (put_marker c.args.is_closed) (segment_to s) a (ap (λ (b : Bool). put_marker b (view a)) c.if-is_closed.false ∙ sym (segment_open s (view a) c.requires.drawn)) c.requires.ready)

pub insert_marker-returns-then-is_closed : goal.insert_marker-returns-then-is_closed
insert_marker-returns-then-is_closed t c =
    let a = lent c.args.self.now c.args.tags.now c.args.words.now in
    let s = Line c.args.self.now.first_start_tangent_end in
    as_rule (segment_to s) (put_marker c.args.is_closed) a _ (sym (ap (λ (b : Bool). put_marker b (view a)) c.if-is_closed.true ∙ sym (segment_open s (view a) c.requires.drawn))) c.line_to.ensures

pub insert_marker-returns-else-is_closed : goal.insert_marker-returns-else-is_closed
insert_marker-returns-else-is_closed t c =
    let a = lent c.args.self.now c.args.tags.now c.args.words.now in
    let s = Quad c.args.self.now.first_point c.args.self.now.first_start_tangent_end in
    as_rule (segment_to s) (put_marker c.args.is_closed) a _ (sym (ap (λ (b : Bool). put_marker b (view a)) c.if-is_closed.false ∙ sym (segment_open s (view a) c.requires.drawn))) c.quad_to.ensures

pub leave-close-requires : goal.leave-close-requires
leave-close-requires t c =
    let a = lent c.args.self.now c.args.tags.now c.args.words.now in
    (search rules, ready_as leave close a (leave-fill (view a) c.if-self.true) c.requires)

pub leave-returns-then-self : goal.leave-returns-then-self
leave-returns-then-self t c =
    let a = lent c.args.self.now c.args.tags.now c.args.words.now in
    as_rule close leave a _ (sym (leave-fill (view a) c.if-self.true)) c.close.ensures

pub leave-drop_move-requires : goal.leave-drop_move-requires
leave-drop_move-requires t c =
    let a = lent c.args.self.now c.args.tags.now c.args.words.now in
    record { ready = ready_as leave drop_move a (leave-at MoveTo (view a) c.if-self.false c.in-MoveTo.is) c.requires; moved = c.in-MoveTo.is }

pub leave-insert_marker-requires : goal.leave-insert_marker-requires
leave-insert_marker-requires t c =
    let a = lent c.args.self.now c.args.tags.now c.args.words.now in (
      search rules,
      (
        record { held = c.requires.held; room = room_mark (put_marker false (view a)) _ _ (room_as _ _ _ _ (leave-at NonemptySubpath (view a) c.if-self.false c.in-NonemptySubpath.is) c.requires.room) },
        c.in-NonemptySubpath.is,
      ),
    )

pub leave-mark_end-requires : goal.leave-mark_end-requires
leave-mark_end-requires t c =
    let a = lent c.args.self.now c.args.tags.now c.args.words.now in
    let b = lent c.insert_marker.new.self c.insert_marker.new.tags c.insert_marker.new.words in
    record {
      ready = ready_next (put_marker false) mark_end a b c.insert_marker.ensures (omega arith) (omega arith) (room_as _ _ _ _ (leave-at NonemptySubpath (view a) c.if-self.false c.in-NonemptySubpath.is) c.requires.room);
      drawn = state-after (put_marker false) NonemptySubpath a b c.insert_marker.ensures (marked_open false (view a) c.in-NonemptySubpath.is);
    }

pub leave-returns-in-Start : goal.leave-returns-in-Start
leave-returns-in-Start t c =
    let a = lent c.args.self.now c.args.tags.now c.args.words.now in
    record { shows = sym (leave-at Start (view a) c.if-self.false c.in-Start.is); kept = c.requires.held }

pub leave-returns-in-MoveTo : goal.leave-returns-in-MoveTo
leave-returns-in-MoveTo t c =
    let a = lent c.args.self.now c.args.tags.now c.args.words.now in
    as_rule drop_move leave a _ (sym (leave-at MoveTo (view a) c.if-self.false c.in-MoveTo.is)) c.drop_move.ensures

pub leave-returns-in-NonemptySubpath : goal.leave-returns-in-NonemptySubpath
leave-returns-in-NonemptySubpath t c =
    let a = lent c.args.self.now c.args.tags.now c.args.words.now in
    let b = lent c.insert_marker.new.self c.insert_marker.new.tags c.insert_marker.new.words in
    as_rule (λ m. mark_end (put_marker false m)) leave a _ (sym (leave-at NonemptySubpath (view a) c.if-self.false c.in-NonemptySubpath.is))
    (and_then (put_marker false) mark_end a b _ c.insert_marker.ensures c.mark_end.ensures)

pub line_to-open_subpath-requires : goal.line_to-open_subpath-requires
line_to-open_subpath-requires t c =
    let a = lent c.args.self.now c.args.tags.now c.args.words.now in
    (search rules, ready_opened (Line c.args.p) a c.requires)

pub line_to-draw-requires : goal.line_to-draw-requires
line_to-draw-requires t c =
    let a = lent c.args.self.now c.args.tags.now c.args.words.now in
    let b = lent c.open_subpath.new.self c.open_subpath.new.tags c.open_subpath.new.words in
    record {
      ready = ready_drawn (Line c.args.p) a b c.open_subpath.result c.open_subpath.ensures.draws c.if-open_subpath.true c.open_subpath.ensures.does (omega arith) (omega arith) c.requires;
      begun = begun_drawn c.args.p a b c.open_subpath.ensures.does;
    }

pub line_to-returns-then-open_subpath : goal.line_to-returns-then-open_subpath
line_to-returns-then-open_subpath t c =
    let a = lent c.args.self.now c.args.tags.now c.args.words.now in
    let b = lent c.open_subpath.new.self c.open_subpath.new.tags c.open_subpath.new.words in
    does_drawn (Line c.args.p) a b _ c.open_subpath.result c.open_subpath.ensures.draws c.if-open_subpath.true c.open_subpath.ensures.does c.draw.ensures

pub line_to-returns-else-open_subpath : goal.line_to-returns-else-open_subpath
line_to-returns-else-open_subpath t c =
    let a = lent c.args.self.now c.args.tags.now c.args.words.now in
    does_moved (Line c.args.p) a _ c.open_subpath.result c.open_subpath.ensures.draws c.if-open_subpath.false c.open_subpath.ensures.does

pub quad_to-open_subpath-requires : goal.quad_to-open_subpath-requires
quad_to-open_subpath-requires t c =
    let a = lent c.args.self.now c.args.tags.now c.args.words.now in
    (search rules, ready_opened (Quad c.args.p c.args.q) a c.requires)

pub quad_to-draw-requires : goal.quad_to-draw-requires
quad_to-draw-requires t c =
    let a = lent c.args.self.now c.args.tags.now c.args.words.now in
    let b = lent c.open_subpath.new.self c.open_subpath.new.tags c.open_subpath.new.words in
    record {
      ready = ready_drawn (Quad c.args.p c.args.q) a b c.open_subpath.result c.open_subpath.ensures.draws c.if-open_subpath.true c.open_subpath.ensures.does (omega arith) (omega arith) c.requires;
      begun = begun_drawn c.args.q a b c.open_subpath.ensures.does;
    }

pub quad_to-returns-then-open_subpath : goal.quad_to-returns-then-open_subpath
quad_to-returns-then-open_subpath t c =
    let a = lent c.args.self.now c.args.tags.now c.args.words.now in
    let b = lent c.open_subpath.new.self c.open_subpath.new.tags c.open_subpath.new.words in
    does_drawn (Quad c.args.p c.args.q) a b _ c.open_subpath.result c.open_subpath.ensures.draws c.if-open_subpath.true c.open_subpath.ensures.does c.draw.ensures

pub quad_to-returns-else-open_subpath : goal.quad_to-returns-else-open_subpath
quad_to-returns-else-open_subpath t c =
    let a = lent c.args.self.now c.args.tags.now c.args.words.now in
    does_moved (Quad c.args.p c.args.q) a _ c.open_subpath.result c.open_subpath.ensures.draws c.if-open_subpath.false c.open_subpath.ensures.does

pub move_to-leave-requires : goal.move_to-leave-requires
move_to-leave-requires t c =
    let a = lent c.args.self.now c.args.tags.now c.args.words.now in
    (search rules, record { held = c.requires.held; room = room-begin c.args.p (leave (view a)) _ _ c.requires.room })

pub open_subpath-move_to-requires : goal.open_subpath-move_to-requires
open_subpath-move_to-requires t c =
    let a = lent c.args.self.now c.args.tags.now c.args.words.now in
    (search rules, ready_as (opened c.args.end) (move_to c.args.self.now.first_point) a (opened_again c.args.end (view a) c.in-Start.is c.if-self.true) c.requires)

pub open_subpath-move_to-requires-else-self : goal.open_subpath-move_to-requires-else-self
open_subpath-move_to-requires-else-self t c =
    let a = lent c.args.self.now c.args.tags.now c.args.words.now in
    (search rules, ready_as (opened c.args.end) (move_to c.args.end) a (opened-first c.args.end (view a) c.in-Start.is c.if-self.false) c.requires)

pub open_subpath-returns-then-self : goal.open_subpath-returns-then-self
open_subpath-returns-then-self t c =
    let a = lent c.args.self.now c.args.tags.now c.args.words.now in
    record {
      draws = sym (draws-at_start (view a) c.in-Start.is ∙ c.if-self.true);
      does = as_rule (move_to c.args.self.now.first_point) (opened c.args.end) a _ (sym (opened_again c.args.end (view a) c.in-Start.is c.if-self.true)) c.move_to.ensures;
    }

pub open_subpath-returns-else-self : goal.open_subpath-returns-else-self
open_subpath-returns-else-self t c =
    let a = lent c.args.self.now c.args.tags.now c.args.words.now in
    record {
      draws = sym (draws-at_start (view a) c.in-Start.is ∙ c.if-self.false);
      does = as_rule (move_to c.args.end) (opened c.args.end) a _ (sym (opened-first c.args.end (view a) c.in-Start.is c.if-self.false)) c.move_to-else-self.ensures;
    }

pub open_subpath-returns-in_default : goal.open_subpath-returns-in_default
open_subpath-returns-in_default t c =
    let a = lent c.args.self.now c.args.tags.now c.args.words.now in
    record {
      draws = sym (draws_begun (view a) c.in_default.not-Start);
      does = record { shows = sym (opened_begun c.args.end (view a) c.in_default.not-Start); kept = c.requires.held };
    }

-- A call looks at a path's last tag and last two words only: what lies before stays.
use Rattle.std.proofs.Common.{◌≡◌, ◌<◌, ◌≤◌, min, Bool, true, false, cond, eqb, List, [], ◌∷◌, ◌++◌, length, Some, None, Option, sym, refl, ap, ◌∙◌, append_assoc, arith, length-append, eqb-true}
use borrow.Author.Tests.{eqb-false}
use Rattle.geometry.specs.declared.points.Point.{Point}
use Rattle.geometry.specs.declared.points.Segment.{Segment}
use Rattle.geometry.specs.declared.points.Segment.TheVariants.{Line}
use Rattle.geometry.specs.Segments.{tangent_end, too_short, same_point, end_point}
use Rattle.monoid.specs.declared.path.PathTag.{PathTag}
use Rattle.path.specs.declared.state.PathState.{PathState}
use Rattle.path.specs.declared.state.PathState.TheVariants.{Start, MoveTo, NonemptySubpath}
use Rattle.path.specs.declared.state.Step.TheVariants.{Move, Draw, Close}
use Rattle.path.specs.declared.state.Call.{Call}
use Rattle.path.specs.declared.state.Call.TheVariants.{Take, Finish}
use Rattle.path.specs.States.{by_state}
use Rattle.path.specs.Entries.{point_words, segment_words, tag_of, path_tag, end_last, finished, last_point}
use Rattle.path.specs.Rules.{Own, Path, with_own, write, mark_end, drop_move, begin, with_tangent, put, join, marker, put_marker, close, close_in, leave, leave_in, move_to, put_first, draw, draw_in, segment_to, segment_in, end_path, finish, call}
use Rattle.path.specs.View.{Room}
use Rattle.path.proofs.Lists.{last_point-append, drop-point-append, end_last-append}
use Rattle.path.proofs.Finish.{finished-none, finished-some}
use Rattle.path.proofs.Steps.{room_either, room-put, room-join, room_mark}

-- the path with more written before
abbrev pub onto : Own → Own → Own
onto b o = record { tags = b.tags ++ o.tags; words = b.words ++ o.words }

abbrev pub under : Own → Path → Path
under b m = with_own m.state (onto b m.own) m

-- a subpath has its first point, and one with segments a tag
pub record Sound (m : Path) : Type 0 where
  pub point : by_state 0 2 2 m.state ≤ length m.own.words
  pub segment : by_state 0 0 1 m.state ≤ length m.own.tags

write_under : (b : Own) (s : Segment) (m : Path) → write s (under b m) ≡ under b (write s m)
write_under b s m =
    let t = append_assoc b.tags m.own.tags (tag_of s ∷ []) in
    let w = append_assoc b.words m.own.words (segment_words s) in
    cc

begin_under : (b : Own) (p : Point) (m : Path) → begin p (under b m) ≡ under b (begin p m)
begin_under b p m = let w = append_assoc b.words m.own.words (point_words p) in cc

mark_under : (b : Own) (m : Path) → 1 ≤ length m.own.tags → mark_end (under b m) ≡ under b (mark_end m)
mark_under b m h = let t = end_last-append b.tags m.own.tags h in cc

drop_under : (b : Own) (m : Path) → 2 ≤ length m.own.words → drop_move (under b m) ≡ under b (drop_move m)
drop_under b m h = let w = drop-point-append b.words m.own.words h in cc

either : (b : Own) (c : Bool) (m n k l : Path) → k ≡ under b m → l ≡ under b n → cond c k l ≡ under b (cond c m n)
either b true m n k l p q = p
either b false m n k l p q = q

put_under : (b : Own) (s : Segment) (m : Path) → 2 ≤ length m.own.words → put s (under b m) ≡ under b (put s m)
unfolding put
put_under b s m h =
    ap (λ p. cond (too_short p s) (under b m) (write s (under b m))) (last_point-append b.words m.own.words h)
    ∙ either b (too_short (last_point m.own.words) s) m (write s m) (under b m) (write s (under b m)) refl (write_under b s m)

join_under : (b : Own) (m : Path) → 2 ≤ length m.own.words → join (under b m) ≡ under b (join m)
unfolding join
join_under b m h =
    ap (λ p. cond (same_point p m.first) (under b m) (write (Line m.first) (under b m))) (last_point-append b.words m.own.words h)
    ∙ either b (same_point (last_point m.own.words) m.first) m (write (Line m.first) m) (under b m) (write (Line m.first) (under b m)) refl (write_under b (Line m.first) m)

-- the room that a path takes itself
itself : (m : Path) → Room m (length m.own.tags) (length m.own.words)
itself m = record { tags = omega arith; words = omega arith }

-- a subpath that is closed or left keeps its entries
joined : (m : Path) → Room m (length (join m).own.tags) (length (join m).own.words)
joined m = room-join m _ _ (itself (join m))

abbrev closed : Path → Path
closed m = cond m.fill (join m) (put_marker true (join m))

closed_keeps : (m : Path) → Room (join m) (length (closed m).own.tags) (length (closed m).own.words)
closed_keeps m = room_either m.fill (join m) (put_marker true (join m)) _ _ (room-put (marker true (join m)) (join m) _ _) (itself (closed m))

marker_keeps : (m : Path) → Room m (length (put_marker false m).own.tags) (length (put_marker false m).own.words)
marker_keeps m = room-put (marker false m) m _ _ (itself (put_marker false m))

close_in_under : (b : Own) (z : PathState) (m : Path) → by_state 0 2 2 z ≤ length m.own.words → by_state 0 0 1 z ≤ length m.own.tags → close_in z (under b m) ≡ under b (close_in z m)
close_in_under b Start m h k = refl
close_in_under b MoveTo m h k = drop_under b m h
close_in_under b NonemptySubpath m h k =
    let j : join (under b m) ≡ under b (join m) = join_under b m h in
    let p : put_marker true (join (under b m)) ≡ under b (put_marker true (join m)) =
    ap (put_marker true) j ∙ put_under b (marker true (join m)) (join m) (omega (arith, (joined m).words))
    in
    ap mark_end (either b m.fill (join m) (put_marker true (join m)) (join (under b m)) (put_marker true (join (under b m))) j p) ∙ mark_under b (closed m) (omega (arith, (joined m).tags, (closed_keeps m).tags))

close_under : (b : Own) (m : Path) → Sound m → close (under b m) ≡ under b (close m)
unfolding close
close_under b m h = close_in_under b m.state m h.point h.segment

leave_in_under : (b : Own) (z : PathState) (m : Path) → by_state 0 2 2 z ≤ length m.own.words → by_state 0 0 1 z ≤ length m.own.tags → leave_in z (under b m) ≡ under b (leave_in z m)
leave_in_under b Start m h k = refl
leave_in_under b MoveTo m h k = drop_under b m h
leave_in_under b NonemptySubpath m h k = ap mark_end (put_under b (marker false m) m h) ∙ mark_under b (put_marker false m) (omega (arith, (marker_keeps m).tags))

leave_under : (b : Own) (m : Path) → Sound m → leave (under b m) ≡ under b (leave m)
unfolding leave
leave_under b m h = either b m.fill (close m) (leave_in m.state m) (close (under b m)) (leave_in m.state (under b m)) (close_under b m h) (leave_in_under b m.state m h.point h.segment)

move_under : (b : Own) (p : Point) (m : Path) → Sound m → move_to p (under b m) ≡ under b (move_to p m)
move_under b p m h = ap (begin p) (leave_under b m h) ∙ begin_under b p (leave m)

first_under : (b : Own) (o : Option Point) (s : Segment) (m : Path) → 2 ≤ length m.own.words → put_first o s (under b m) ≡ under b (put_first o s m)
first_under b None s m h = refl
first_under b (Some t) s m h = put_under b s (with_tangent t m) h

draw_in_under : (b : Own) (z : PathState) (s : Segment) (m : Path) → by_state 0 2 2 z ≤ length m.own.words → draw_in z s (under b m) ≡ under b (draw_in z s m)
draw_in_under b Start s m h = refl
draw_in_under b MoveTo s m h = first_under b (tangent_end m.first s) s m h
draw_in_under b NonemptySubpath s m h = put_under b s m h

draw_under : (b : Own) (s : Segment) (m : Path) → by_state 0 2 2 m.state ≤ length m.own.words → draw s (under b m) ≡ under b (draw s m)
unfolding draw
draw_under b s m h = draw_in_under b m.state s m h

segment_in_under : (b : Own) (z : PathState) (s : Segment) (m : Path) → z ≡ m.state → Sound m → segment_in z s (under b m) ≡ under b (segment_in z s m)
segment_in_under b Start s m e h =
    let l = length-append (leave m).own.words (point_words m.first) in
    let d : draw s (move_to m.first (under b m)) ≡ under b (draw s (move_to m.first m)) = ap (draw s) (move_under b m.first m h) ∙ draw_under b s (move_to m.first m) (omega arith) in
    either b m.moved (draw s (move_to m.first m)) (move_to (end_point s) m) (draw s (move_to m.first (under b m))) (move_to (end_point s) (under b m)) d (move_under b (end_point s) m h)
segment_in_under b MoveTo s m e h = draw_under b s m h.point
segment_in_under b NonemptySubpath s m e h = draw_under b s m h.point

segment_under : (b : Own) (s : Segment) (m : Path) → Sound m → segment_to s (under b m) ≡ under b (segment_to s m)
unfolding segment_to
segment_under b s m h = segment_in_under b m.state s m refl h

finished_under : (mark : Bool) (xs ys : List PathTag) → min 1 (length xs) ≤ length ys → finished mark (xs ++ ys) ≡ xs ++ finished mark ys
finished_under mark xs ys h = go (eqb (length ys) 0) refl
  where
    pick : (b : Bool) → 1 ≤ length ys → cond b (end_last (xs ++ ys) ++ path_tag ∷ []) (end_last (xs ++ ys)) ≡ xs ++ cond b (end_last ys ++ path_tag ∷ []) (end_last ys)
    pick true k = ap (λ (z : List PathTag). z ++ path_tag ∷ []) (end_last-append xs ys k) ∙ append_assoc xs (end_last ys) (path_tag ∷ [])
    pick false k = end_last-append xs ys k

    go : (b : Bool) → eqb (length ys) 0 ≡ b → finished mark (xs ++ ys) ≡ xs ++ finished mark ys
    go true e =
        let k : length ys ≡ 0 = eqb-true (length ys) 0 e in
        let l : length (xs ++ ys) ≡ 0 = omega (arith, length-append xs ys) in
        finished-none mark (xs ++ ys) l ∙ ap (λ (z : List PathTag). xs ++ z) (sym (finished-none mark ys k))
    go false e =
        let k : 0 < length ys = omega (arith, eqb-false (length ys) 0 e) in
        let l : 0 < length (xs ++ ys) = omega (arith, length-append xs ys) in
        finished-some mark (xs ++ ys) l ∙ pick mark (omega arith) ∙ ap (λ (z : List PathTag). xs ++ z) (sym (finished-some mark ys k))

-- no tag goes where a subpath is left
mark_tags : (n : Path) → length n.own.tags ≤ length (mark_end n).own.tags
mark_tags n = (room_mark n _ _ (itself (mark_end n))).tags

close_in-tags : (z : PathState) (m : Path) → length m.own.tags ≤ length (close_in z m).own.tags
close_in-tags Start m = omega arith
close_in-tags MoveTo m = omega arith
close_in-tags NonemptySubpath m = omega (arith, (joined m).tags, (closed_keeps m).tags, mark_tags (closed m))

leave_in-tags : (z : PathState) (m : Path) → length m.own.tags ≤ length (leave_in z m).own.tags
leave_in-tags Start m = omega arith
leave_in-tags MoveTo m = omega arith
leave_in-tags NonemptySubpath m = omega (arith, (marker_keeps m).tags, mark_tags (put_marker false m))

leave-tags : (m : Path) → length m.own.tags ≤ length (leave m).own.tags
unfolding leave close
leave-tags m = go m.fill
  where
    go : (b : Bool) → length m.own.tags ≤ length (cond b (close m) (leave_in m.state m)).own.tags
    go true = close_in-tags m.state m
    go false = leave_in-tags m.state m

finish_under : (b : Own) (mark : Bool) (m : Path) → Sound m → min 1 (length b.tags) ≤ length m.own.tags → finish mark (under b m) ≡ under b (finish mark m)
finish_under b mark m h k =
    let t : finished mark (b.tags ++ (leave m).own.tags) ≡ b.tags ++ finished mark (leave m).own.tags = finished_under mark b.tags (leave m).own.tags (omega (arith, leave-tags m)) in
    let e : end_path mark (under b (leave m)) ≡ under b (end_path mark (leave m)) = cc in
    ap (end_path mark) (leave_under b m h) ∙ e

pub local : (c : Call) (b : Own) (m : Path) → Sound m → min 1 (length b.tags) ≤ length m.own.tags → call c (under b m) ≡ under b (call c m)
local (Take (Move p)) b m h k = move_under b p m h
local (Take (Draw s)) b m h k = segment_under b s m h
local (Take Close) b m h k = close_under b m h
local (Finish mark) b m h k = finish_under b mark m h k

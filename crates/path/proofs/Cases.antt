-- What each rule is in each case.
use Rattle.std.proofs.Common.{◌≡◌, Bool, true, false, cond, ◌≢◌, Option, refl, ap, ◌∙◌}
use Rattle.geometry.specs.declared.points.Point.{Point}
use Rattle.geometry.specs.declared.points.Segment.{Segment}
use Rattle.geometry.specs.declared.points.Segment.TheVariants.{Line}
use Rattle.geometry.specs.Segments.{tangent_end, too_short, same_point}
use Rattle.path.specs.declared.state.PathState.{PathState}
use Rattle.path.specs.declared.state.PathState.TheVariants.{Start, MoveTo, NonemptySubpath}
use Rattle.path.specs.Entries.{last_point}
use Rattle.path.specs.Rules.{Path, write, put, join, close, close_in, leave, leave_in, put_first, draw, draw_in, segment_to, segment_in}

pub put-short : (s : Segment) (m : Path) → too_short (last_point m.own.words) s ≡ true → put s m ≡ m
unfolding put
put-short s m h = rw h

pub put_long : (s : Segment) (m : Path) → too_short (last_point m.own.words) s ≡ false → put s m ≡ write s m
unfolding put
put_long s m h = rw h

pub join-there : (m : Path) → same_point (last_point m.own.words) m.first ≡ true → join m ≡ m
unfolding join
join-there m h = rw h

pub join_apart : (m : Path) → same_point (last_point m.own.words) m.first ≡ false → join m ≡ write (Line m.first) m
unfolding join
join_apart m h = rw h

pub close_at : (z : PathState) (m : Path) → m.state ≡ z → close m ≡ close_in z m
unfolding close
close_at z m h = ap (λ s. close_in s m) h

pub leave-fill : (m : Path) → m.fill ≡ true → leave m ≡ close m
unfolding leave
leave-fill m f = ap (λ b. cond b (close m) (leave_in m.state m)) f

pub leave-stroke : (m : Path) → m.fill ≡ false → leave m ≡ leave_in m.state m
unfolding leave
leave-stroke m f = ap (λ b. cond b (close m) (leave_in m.state m)) f

pub leave-at : (z : PathState) (m : Path) → m.fill ≡ false → m.state ≡ z → leave m ≡ leave_in z m
leave-at z m f h = leave-stroke m f ∙ ap (λ s. leave_in s m) h

pub draw-at : (z : PathState) (s : Segment) (m : Path) → m.state ≡ z → draw s m ≡ draw_in z s m
unfolding draw
draw-at z s m h = ap (λ x. draw_in x s m) h

pub draw-first : (s : Segment) (m : Path) (o : Option Point) → m.state ≡ MoveTo → tangent_end m.first s ≡ o → draw s m ≡ put_first o s m
draw-first s m o h e = draw-at MoveTo s m h ∙ ap (λ x. put_first x s m) e

later : (z : PathState) (s : Segment) (m : Path) → z ≢ Start → z ≢ MoveTo → draw_in z s m ≡ put s m
later Start s m h k = absurd (h refl)
later MoveTo s m h k = absurd (k refl)
later NonemptySubpath s m h k = refl

pub draw_later : (s : Segment) (m : Path) → m.state ≢ Start → m.state ≢ MoveTo → draw s m ≡ put s m
draw_later s m h k = draw-at m.state s m refl ∙ later m.state s m h k

pub segment-at : (z : PathState) (s : Segment) (m : Path) → m.state ≡ z → segment_to s m ≡ segment_in z s m
unfolding segment_to
segment-at z s m h = ap (λ x. segment_in x s m) h

-- in an open subpath a segment call keeps or drops its segment, and nothing more
pub segment_open : (s : Segment) (m : Path) → m.state ≡ NonemptySubpath → segment_to s m ≡ put s m
segment_open s m h = segment-at NonemptySubpath s m h ∙ draw-at NonemptySubpath s m h

-- an open subpath stays open
pub either_state : (b : Bool) (m n : Path) (z : PathState) → m.state ≡ z → n.state ≡ z → (cond b m n).state ≡ z
either_state true m n z h k = h
either_state false m n z h k = k

pub join_open : (m : Path) → m.state ≡ NonemptySubpath → (join m).state ≡ NonemptySubpath
unfolding join
join_open m h = either_state (same_point (last_point m.own.words) m.first) m (write (Line m.first) m) NonemptySubpath h refl

pub put_open : (s : Segment) (m : Path) → m.state ≡ NonemptySubpath → (put s m).state ≡ NonemptySubpath
unfolding put
put_open s m h = either_state (too_short (last_point m.own.words) s) m (write s m) NonemptySubpath h refl

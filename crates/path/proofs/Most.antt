-- The most that one call adds: three tags and eight words.
use Rattle.std.proofs.Common.{◌≡◌, ℕ, ◌+◌, ◌≤◌, Bool, true, false, cond, [], ◌∷◌, length, Some, None, Option, sym, refl, ap, subst, arith, length-append, length-take}
use Rattle.geometry.specs.declared.points.Point.{Point}
use Rattle.geometry.specs.declared.points.Segment.{Segment}
use Rattle.geometry.specs.declared.points.Segment.TheVariants.{Line, Quad, Cubic}
use Rattle.geometry.specs.Segments.{tangent_end, too_short, same_point, end_point}
use Rattle.path.specs.declared.state.PathState.{PathState}
use Rattle.path.specs.declared.state.PathState.TheVariants.{Start, MoveTo, NonemptySubpath}
use Rattle.path.specs.declared.state.Step.TheVariants.{Move, Draw, Close}
use Rattle.path.specs.declared.state.Call.{Call}
use Rattle.path.specs.declared.state.Call.TheVariants.{Take, Finish}
use Rattle.path.specs.Entries.{point_words, segment_words, tag_of, drop_point, last_point}
use Rattle.path.specs.Rules.{Path, write, mark_end, drop_move, begin, with_tangent, put, join, marker, put_marker, close, close_in, leave, leave_in, move_to, put_first, draw, draw_in, segment_to, segment_in, finish, call}
use Rattle.path.specs.View.{Room}
use Rattle.path.proofs.Lists.{length-end_last}
use Rattle.path.proofs.Finish.{bounds}

abbrev Adds : ℕ → ℕ → Path → Path → Type 0
Adds t w m n = Room n (length m.own.tags + t) (length m.own.words + w)

nothing : (m : Path) (t w : ℕ) → Adds t w m m
nothing m t w = record { tags = omega arith; words = omega arith }

further : (m n k : Path) (t w u v : ℕ) → Adds t w m n → Adds u v n k → Adds (t + u) (w + v) m k
further m n k t w u v p q = record { tags = omega (arith, p.tags, q.tags); words = omega (arith, p.words, q.words) }

wider : (m n : Path) (t w u v : ℕ) → t ≤ u → w ≤ v → Adds t w m n → Adds u v m n
wider m n t w u v h k p = record { tags = omega (arith, p.tags); words = omega (arith, p.words) }

either : (c : Bool) (m n k : Path) (t w : ℕ) → Adds t w m n → Adds t w m k → Adds t w m (cond c n k)
either true m n k t w p q = p
either false m n k t w p q = q

adds_write : (s : Segment) (m : Path) → Adds 1 (length (segment_words s)) m (write s m)
adds_write s m = record { tags = omega (arith, length-append m.own.tags (tag_of s ∷ [])); words = omega (arith, length-append m.own.words (segment_words s)) }

adds_put : (s : Segment) (m : Path) → Adds 1 (length (segment_words s)) m (put s m)
unfolding put
adds_put s m = either (too_short (last_point m.own.words) s) m m (write s m) _ _ (nothing m _ _) (adds_write s m)

adds_join : (m : Path) → Adds 1 2 m (join m)
unfolding join
adds_join m = either (same_point (last_point m.own.words) m.first) m m (write (Line m.first) m) 1 2 (nothing m 1 2) (adds_write (Line m.first) m)

adds_mark : (m n : Path) (t w : ℕ) → Adds t w m n → Adds t w m (mark_end n)
adds_mark m n t w p = record { tags = omega (arith, p.tags, length-end_last n.own.tags); words = p.words }

adds_drop : (m : Path) → Adds 0 0 m (drop_move m)
unfolding drop_point
adds_drop m = record { tags = omega arith; words = simp length-take (omega arith) }

adds_begin : (p : Point) (m : Path) → Adds 0 2 m (begin p m)
adds_begin p m = record { tags = omega arith; words = omega (arith, length-append m.own.words (point_words p)) }

close_in_adds : (z : PathState) (m : Path) → Adds 2 4 m (close_in z m)
close_in_adds Start m = nothing m 2 4
close_in_adds MoveTo m = wider m (drop_move m) 0 0 2 4 (omega arith) (omega arith) (adds_drop m)
close_in_adds NonemptySubpath m =
    adds_mark m (cond m.fill (join m) (put_marker true (join m))) 2 4
    (either m.fill m (join m) (put_marker true (join m)) 2 4 (wider m (join m) 1 2 2 4 (omega arith) (omega arith) (adds_join m))
    (further m (join m) (put_marker true (join m)) 1 2 1 2 (adds_join m) (adds_put (marker true (join m)) (join m))))

close_adds : (m : Path) → Adds 2 4 m (close m)
unfolding close
close_adds m = close_in_adds m.state m

leave_in_adds : (z : PathState) (m : Path) → Adds 2 4 m (leave_in z m)
leave_in_adds Start m = nothing m 2 4
leave_in_adds MoveTo m = wider m (drop_move m) 0 0 2 4 (omega arith) (omega arith) (adds_drop m)
leave_in_adds NonemptySubpath m = adds_mark m (put_marker false m) 2 4 (wider m (put_marker false m) 1 4 2 4 (omega arith) (omega arith) (adds_put (marker false m) m))

leave_adds : (m : Path) → Adds 2 4 m (leave m)
unfolding leave
leave_adds m = either m.fill m (close m) (leave_in m.state m) 2 4 (close_adds m) (leave_in_adds m.state m)

move_adds : (p : Point) (m : Path) → Adds 2 6 m (move_to p m)
move_adds p m = further m (leave m) (move_to p m) 2 4 0 2 (leave_adds m) (adds_begin p (leave m))

-- with no subpath open there is nothing to leave
leave_start : (m : Path) → m.state ≡ Start → leave m ≡ m
unfolding leave close
leave_start m h = go m.fill
  where
    go : (b : Bool) → cond b (close_in m.state m) (leave_in m.state m) ≡ m
    go true = ap (λ z. close_in z m) h
    go false = ap (λ z. leave_in z m) h

move_start : (p : Point) (m : Path) → m.state ≡ Start → Adds 0 2 m (move_to p m)
move_start p m h = subst (λ (n : Path). Adds 0 2 m (begin p n)) (sym (leave_start m h)) (adds_begin p m)

six : (s : Segment) → length (segment_words s) ≤ 6
six (Line p) = omega arith
six (Quad p q) = omega arith
six (Cubic p q r) = omega arith

put_adds : (s : Segment) (m : Path) → Adds 1 6 m (put s m)
put_adds s m = wider m (put s m) 1 (length (segment_words s)) 1 6 (omega arith) (six s) (adds_put s m)

first_adds : (o : Option Point) (s : Segment) (m : Path) → Adds 1 6 m (put_first o s m)
first_adds None s m = nothing m 1 6
first_adds (Some t) s m = put_adds s (with_tangent t m)

draw_in_adds : (z : PathState) (s : Segment) (m : Path) → Adds 1 6 m (draw_in z s m)
draw_in_adds Start s m = nothing m 1 6
draw_in_adds MoveTo s m = first_adds (tangent_end m.first s) s m
draw_in_adds NonemptySubpath s m = put_adds s m

draw_adds : (s : Segment) (m : Path) → Adds 1 6 m (draw s m)
unfolding draw
draw_adds s m = draw_in_adds m.state s m

segment_in_adds : (z : PathState) (s : Segment) (m : Path) → m.state ≡ z → Adds 1 8 m (segment_in z s m)
segment_in_adds Start s m h =
    either m.moved m (draw s (move_to m.first m)) (move_to (end_point s) m) 1 8
    (further m (move_to m.first m) (draw s (move_to m.first m)) 0 2 1 6 (move_start m.first m h) (draw_adds s (move_to m.first m)))
    (wider m (move_to (end_point s) m) 0 2 1 8 (omega arith) (omega arith) (move_start (end_point s) m h))
segment_in_adds MoveTo s m h = wider m (draw s m) 1 6 1 8 (omega arith) (omega arith) (draw_adds s m)
segment_in_adds NonemptySubpath s m h = wider m (draw s m) 1 6 1 8 (omega arith) (omega arith) (draw_adds s m)

segment_adds : (s : Segment) (m : Path) → Adds 1 8 m (segment_to s m)
unfolding segment_to
segment_adds s m = segment_in_adds m.state s m refl

finish_adds : (mark : Bool) (m : Path) → Adds 3 4 m (finish mark m)
finish_adds mark m = further m (leave m) (finish mark m) 2 4 1 0 (leave_adds m) (record { tags = (bounds mark (leave m).own.tags).1; words = omega arith })

pub most : (c : Call) (m : Path) → Room (call c m) (length m.own.tags + 3) (length m.own.words + 8)
most (Take (Move p)) m = wider m (move_to p m) 2 6 3 8 (omega arith) (omega arith) (move_adds p m)
most (Take (Draw s)) m = wider m (segment_to s m) 1 8 3 8 (omega arith) (omega arith) (segment_adds s m)
most (Take Close) m = wider m (close m) 2 4 3 8 (omega arith) (omega arith) (close_adds m)
most (Finish mark) m = wider m (finish mark m) 3 4 3 8 (omega arith) (omega arith) (finish_adds mark m)

-- Every step keeps a path's entries those of whole subpaths and perhaps an open one.
use Rattle.std.proofs.Common.{◌≡◌, ℕ, suc, ◌<◌, ◌≤◌, Bool, true, false, cond, ◌&&◌, eqb, List, [], ◌∷◌, ◌++◌, length, Some, None, Option, sym, refl, ap, ◌∙◌, subst, append_assoc, append-nil, arith, length-append, eqb-true}
use Rattle.geometry.specs.declared.points.Point.{Point}
use Rattle.geometry.specs.declared.points.Segment.{Segment}
use Rattle.geometry.specs.declared.points.Segment.TheVariants.{Line}
use Rattle.geometry.specs.Segments.{tangent_end, too_short, same_point, end_point}
use Rattle.monoid.specs.declared.path.PathTag.{PathTag}
use Rattle.path.specs.declared.state.PathState.{PathState}
use Rattle.path.specs.declared.state.PathState.TheVariants.{Start, MoveTo, NonemptySubpath}
use Rattle.path.specs.declared.state.Step.{Step}
use Rattle.path.specs.declared.state.Step.TheVariants.{Move, Draw, Close}
use Rattle.path.specs.Entries.{point_words, segment_words, tag_of, end_last, last_point, drop_point}
use Rattle.path.specs.Rules.{Path, fresh, write, mark_end, drop_move, begin, with_tangent, put, join, marker, put_marker, close, leave, leave_in, move_to, put_first, draw, segment_to, segment_in, step, steps}
use Rattle.path.specs.Subpaths.{Subpath, end_of, tags_of, words_of, subpath_tags, subpath_words, all_tags, all_words, Whole, Each, Holds, LaidOut}
use Rattle.path.specs.Subpaths.LaidOut.{at_rest, after_move, in_subpath}
use Rattle.path.proofs.Lists.{last_point-append, drop-point-append, end_last-append, drop-point-one, last_point-segment, two-words}
use Rattle.path.proofs.Cases.{close_at, leave-fill, leave-stroke, draw-at}

-- one more segment, one more subpath
tags_more : (ss : List Segment) (s : Segment) → tags_of (ss ++ s ∷ []) ≡ tags_of ss ++ tag_of s ∷ []
tags_more [] s = refl
tags_more (t ∷ ss) s = ap (λ (z : List PathTag). tag_of t ∷ z) (tags_more ss s)

words_more : (ss : List Segment) (s : Segment) → words_of (ss ++ s ∷ []) ≡ words_of ss ++ segment_words s
words_more [] s = append-nil (segment_words s)
words_more (t ∷ ss) s = ap (λ (z : List ℕ). segment_words t ++ z) (words_more ss s) ∙ sym (append_assoc (segment_words t) (words_of ss) (segment_words s))

end_more : (p : Point) (ss : List Segment) (s : Segment) → end_of p (ss ++ s ∷ []) ≡ end_point s
end_more p [] s = refl
end_more p (t ∷ ss) s = end_more (end_point t) ss s

all_tags_more : (ds : List Subpath) (d : Subpath) → all_tags (ds ++ d ∷ []) ≡ all_tags ds ++ subpath_tags d
all_tags_more [] d = append-nil (subpath_tags d)
all_tags_more (e ∷ ds) d = ap (λ (z : List PathTag). subpath_tags e ++ z) (all_tags_more ds d) ∙ sym (append_assoc (subpath_tags e) (all_tags ds) (subpath_tags d))

all_words_more : (ds : List Subpath) (d : Subpath) → all_words (ds ++ d ∷ []) ≡ all_words ds ++ subpath_words d
all_words_more [] d = append-nil (subpath_words d)
all_words_more (e ∷ ds) d = ap (λ (z : List ℕ). subpath_words e ++ z) (all_words_more ds d) ∙ sym (append_assoc (subpath_words e) (all_words ds) (subpath_words d))

each_more : (P : Subpath → Type 0) (ds : List Subpath) (d : Subpath) → Each P ds → P d → Each P (ds ++ d ∷ [])
each_more P [] d h k = (k, tt)
each_more P (e ∷ ds) d h k = (h.0, each_more P ds d h.1 k)

pub length-tags : (ss : List Segment) → length (tags_of ss) ≡ length ss
length-tags [] = refl
length-tags (s ∷ ss) = ap suc (length-tags ss)

-- a segment is written, a subpath ends, a lone point goes, a subpath begins
written : (s : Segment) (m : Path) (ds : List Subpath) (ss : List Segment) → Holds m ds (tags_of ss) (point_words m.first ++ words_of ss) →
    Holds (write s m) ds (tags_of (ss ++ s ∷ [])) (point_words m.first ++ words_of (ss ++ s ∷ []))
written s m ds ss h = record {
  whole = h.whole;
  tags = ap (λ (z : List PathTag). z ++ tag_of s ∷ []) h.tags ∙ append_assoc (all_tags ds) (tags_of ss) (tag_of s ∷ []) ∙ ap (λ (z : List PathTag). all_tags ds ++ z) (sym (tags_more ss s));
  words =
      ap (λ (z : List ℕ). z ++ segment_words s) h.words ∙ append_assoc (all_words ds) (point_words m.first ++ words_of ss) (segment_words s)
      ∙ ap (λ (z : List ℕ). all_words ds ++ (point_words m.first ++ z)) (sym (words_more ss s));
}

first-written : (s : Segment) (m : Path) (ds : List Subpath) → Holds m ds [] (point_words m.first) →
    Holds (write s m) ds (tags_of (s ∷ [])) (point_words m.first ++ words_of (s ∷ []))
first-written s m ds h = written s m ds [] (record { whole = h.whole; tags = h.tags; words = h.words })

marked : (m : Path) (ds : List Subpath) (ss : List Segment) → 0 < length ss → (m.fill ≡ true → end_of m.first ss ≡ m.first) →
    Holds m ds (tags_of ss) (point_words m.first ++ words_of ss) → Holds (mark_end m) (ds ++ record { first = m.first; segments = ss } ∷ []) [] []
marked m ds ss n e h =
    let d : Subpath = record { first = m.first; segments = ss } in
    let l : 1 ≤ length (tags_of ss) = omega (arith, length-tags ss) in
    record {
      whole = each_more (Whole m.fill) ds d h.whole (record { some = n; closed = e });
      tags = ap end_last h.tags ∙ end_last-append (all_tags ds) (tags_of ss) l ∙ sym (all_tags_more ds d) ∙ sym (append-nil (all_tags (ds ++ d ∷ [])));
      words = h.words ∙ sym (all_words_more ds d) ∙ sym (append-nil (all_words (ds ++ d ∷ [])));
    }

dropped : (m : Path) (ds : List Subpath) → Holds m ds [] (point_words m.first) → Holds (drop_move m) ds [] []
dropped m ds h = record {
  whole = h.whole;
  tags = h.tags;
  words = ap drop_point h.words ∙ drop-point-append (all_words ds) (point_words m.first) (omega arith) ∙ ap (λ (z : List ℕ). all_words ds ++ z) (drop-point-one m.first);
}

begun : (p : Point) (m : Path) (ds : List Subpath) → Holds m ds [] [] → Holds (begin p m) ds [] (point_words p)
begun p m ds h = record {
  whole = h.whole;
  tags = h.tags;
  words = ap (λ (z : List ℕ). z ++ point_words p) h.words ∙ append_assoc (all_words ds) [] (point_words p);
}

-- the last point of an open subpath
last_of : (p : Point) (s : Segment) (ss : List Segment) → last_point (words_of (s ∷ ss)) ≡ end_of p (s ∷ ss)
last_of p s [] = ap last_point (append-nil (segment_words s)) ∙ last_point-segment s
last_of p s (t ∷ ss) =
    let l : 2 ≤ length (words_of (t ∷ ss)) = omega (arith, two-words t, length-append (segment_words t) (words_of ss)) in
    last_point-append (segment_words s) (words_of (t ∷ ss)) l ∙ last_of (end_point s) t ss

last_there : (m : Path) (ds : List Subpath) (ss : List Segment) → 0 < length ss → Holds m ds (tags_of ss) (point_words m.first ++ words_of ss) → last_point m.own.words ≡ end_of m.first ss
last_there m ds [] n h = absurd (omega arith)
last_there m ds (s ∷ ss) n h =
    let l : 2 ≤ length (words_of (s ∷ ss)) = omega (arith, two-words s, length-append (segment_words s) (words_of ss)) in
    let k : 2 ≤ length (point_words m.first ++ words_of (s ∷ ss)) = omega (arith, length-append (point_words m.first) (words_of (s ∷ ss))) in
    ap last_point h.words ∙ last_point-append (all_words ds) (point_words m.first ++ words_of (s ∷ ss)) k ∙ last_point-append (point_words m.first) (words_of (s ∷ ss)) l ∙ last_of m.first s ss

-- an open subpath of n, whose path is m's
record Draws (m n : Path) (ds : List Subpath) : Type 0 where
  pub since : List Segment
  pub some : 0 < length since
  pub state : n.state ≡ NonemptySubpath
  pub fill : n.fill ≡ m.fill
  pub holds : Holds n ds (tags_of since) (point_words n.first ++ words_of since)

writes : (s : Segment) (m n : Path) (ds : List Subpath) → Draws m n ds → Draws m (write s n) ds
writes s m n ds d = record {
  since = d.since ++ s ∷ [];
  some = omega (arith, length-append d.since (s ∷ []));
  state = refl;
  fill = d.fill;
  holds = written s n ds d.since d.holds;
}

put_either : (b : Bool) (s : Segment) (m n : Path) (ds : List Subpath) → Draws m n ds → Draws m (cond b n (write s n)) ds
put_either true s m n ds d = d
put_either false s m n ds d = writes s m n ds d

puts : (s : Segment) (m n : Path) (ds : List Subpath) → Draws m n ds → Draws m (put s n) ds
unfolding put
puts s m n ds d = put_either (too_short (last_point n.own.words) s) s m n ds d

-- an open subpath that is back at its first point
record Joins (m n : Path) (ds : List Subpath) : Type 0 where
  pub draws : Draws m n ds
  pub back : end_of n.first draws.since ≡ n.first

same_points : (p q : Point) → same_point p q ≡ true → p ≡ q
unfolding same_point
same_points p q h = go (eqb p.x q.x) refl h
  where
    go : (b : Bool) → eqb p.x q.x ≡ b → (b && eqb p.y q.y) ≡ true → p ≡ q
    go true e k =
        let u : p.x ≡ q.x = eqb-true p.x q.x e in
        let v : p.y ≡ q.y = eqb-true p.y q.y k in
        λ i. record { x = u i; y = v i }
    go false e k = let z : ◌≡◌ {A = ℕ} 0 1 = cc in absurd (omega arith)

join_either : (b : Bool) (m : Path) (ds : List Subpath) (ss : List Segment) → 0 < length ss → m.state ≡ NonemptySubpath → Holds m ds (tags_of ss) (point_words m.first ++ words_of ss) →
    same_point (last_point m.own.words) m.first ≡ b → Joins m (cond b m (write (Line m.first) m)) ds
unfolding writes
join_either true m ds ss n e h k = record {
  draws = record { since = ss; some = n; state = e; fill = refl; holds = h };
  back = sym (last_there m ds ss n h) ∙ same_points (last_point m.own.words) m.first k;
}
join_either false m ds ss n e h k = record {
  draws = writes (Line m.first) m m ds (record { since = ss; some = n; state = e; fill = refl; holds = h });
  back = end_more m.first ss (Line m.first);
}

joins : (m : Path) (ds : List Subpath) (ss : List Segment) → 0 < length ss → m.state ≡ NonemptySubpath → Holds m ds (tags_of ss) (point_words m.first ++ words_of ss) → Joins m (join m) ds
unfolding join
joins m ds ss n e h = join_either (same_point (last_point m.own.words) m.first) m ds ss n e h refl

-- a path at rest
pub record Rests (m : Path) : Type 0 where
  pub subpaths : List Subpath
  pub state : m.state ≡ Start
  pub holds : Holds m subpaths [] []

stroke_ends : (m n : Path) (ds : List Subpath) → m.fill ≡ false → Draws m n ds → Rests (mark_end n)
stroke_ends m n ds f d = record {
  subpaths = _;
  state = refl;
  holds = marked n ds d.since d.some (λ t. let z : true ≡ false = sym t ∙ d.fill ∙ f in let y : ◌≡◌ {A = ℕ} 0 1 = cc in absurd (omega arith)) d.holds;
}

close_nonempty : (b : Bool) (m : Path) (ds : List Subpath) → m.fill ≡ b → Joins m (join m) ds → Rests (mark_end (cond b (join m) (put_marker true (join m))))
close_nonempty true m ds f j = record { subpaths = _; state = refl; holds = marked (join m) ds j.draws.since j.draws.some (λ t. j.back) j.draws.holds }
close_nonempty false m ds f j = stroke_ends m (put_marker true (join m)) ds f (puts (marker true (join m)) m (join m) ds j.draws)

pub close-rests : (m : Path) → LaidOut m → Rests (close m)
close-rests m (at_rest ds e h) = subst Rests (sym (close_at Start m e)) (record { subpaths = ds; state = e; holds = h })
close-rests m (after_move ds e h) = subst Rests (sym (close_at MoveTo m e)) (record { subpaths = ds; state = refl; holds = dropped m ds h })
close-rests m (in_subpath ds ss n e h) = subst Rests (sym (close_at NonemptySubpath m e)) (close_nonempty m.fill m ds refl (joins m ds ss n e h))

leave-stroke-rests : (m : Path) → m.fill ≡ false → LaidOut m → Rests (leave_in m.state m)
leave-stroke-rests m f (at_rest ds e h) = subst Rests (ap (λ z. leave_in z m) (sym e)) (record { subpaths = ds; state = e; holds = h })
leave-stroke-rests m f (after_move ds e h) = subst Rests (ap (λ z. leave_in z m) (sym e)) (record { subpaths = ds; state = refl; holds = dropped m ds h })
leave-stroke-rests m f (in_subpath ds ss n e h) =
    subst Rests (ap (λ z. leave_in z m) (sym e))
    (stroke_ends m (put_marker false m) ds f (puts (marker false m) m m ds (record { since = ss; some = n; state = e; fill = refl; holds = h })))

pub leave-rests : (m : Path) → LaidOut m → Rests (leave m)
leave-rests m l = go m.fill refl
  where
    go : (b : Bool) → m.fill ≡ b → Rests (leave m)
    go true f = subst Rests (sym (leave-fill m f)) (close-rests m l)
    go false f = subst Rests (sym (leave-stroke m f)) (leave-stroke-rests m f l)

pub rest-laid : (m : Path) → Rests m → LaidOut m
rest-laid m r = at_rest r.subpaths r.state r.holds

-- each step
move-laid : (p : Point) (m : Path) → LaidOut m → LaidOut (move_to p m)
move-laid p m l = let r = leave-rests m l in after_move r.subpaths refl (begun p (leave m) r.subpaths r.holds)

first_either : (b : Bool) (s : Segment) (m : Path) (ds : List Subpath) → m.state ≡ MoveTo → Holds m ds [] (point_words m.first) → LaidOut (cond b m (write s m))
first_either true s m ds e h = after_move ds e h
first_either false s m ds e h = in_subpath ds (s ∷ []) (omega arith) refl (first-written s m ds h)

first-laid : (o : Option Point) (s : Segment) (m : Path) (ds : List Subpath) → m.state ≡ MoveTo → Holds m ds [] (point_words m.first) → LaidOut (put_first o s m)
unfolding put
first-laid None s m ds e h = after_move ds e h
first-laid (Some t) s m ds e h =
    first_either (too_short (last_point m.own.words) s) s (with_tangent t m) ds e (record { whole = h.whole; tags = h.tags; words = h.words })

draw-laid : (s : Segment) (m : Path) → LaidOut m → LaidOut (draw s m)
draw-laid s m (at_rest ds e h) = subst LaidOut (sym (draw-at Start s m e)) (at_rest ds e h)
draw-laid s m (after_move ds e h) = subst LaidOut (sym (draw-at MoveTo s m e)) (first-laid (tangent_end m.first s) s m ds e h)
draw-laid s m (in_subpath ds ss n e h) =
    let d = puts s m m ds (record { since = ss; some = n; state = e; fill = refl; holds = h }) in
    subst LaidOut (sym (draw-at NonemptySubpath s m e)) (in_subpath ds d.since d.some d.state d.holds)

either_laid : (b : Bool) (m n : Path) → LaidOut m → LaidOut n → LaidOut (cond b m n)
either_laid true m n k l = k
either_laid false m n k l = l

segment-laid : (s : Segment) (z : PathState) (m : Path) → LaidOut m → LaidOut (segment_in z s m)
segment-laid s Start m l =
    either_laid m.moved (draw s (move_to m.first m)) (move_to (end_point s) m) (draw-laid s (move_to m.first m) (move-laid m.first m l)) (move-laid (end_point s) m l)
segment-laid s MoveTo m l = draw-laid s m l
segment-laid s NonemptySubpath m l = draw-laid s m l

pub step-laid : (s : Step) (m : Path) → LaidOut m → LaidOut (step s m)
unfolding segment_to
step-laid (Move p) m l = move-laid p m l
step-laid (Draw s) m l = segment-laid s m.state m l
step-laid Close m l = rest-laid (close m) (close-rests m l)

steps-laid : (ss : List Step) (m : Path) → LaidOut m → LaidOut (steps ss m)
steps-laid [] m l = l
steps-laid (s ∷ ss) m l = steps-laid ss (step s m) (step-laid s m l)

pub laid_out : (fill : Bool) (ss : List Step) → LaidOut (steps ss (fresh fill))
laid_out fill ss = steps-laid ss (fresh fill) (at_rest [] refl (record { whole = tt; tags = refl; words = refl }))

-- Rules one after another, and the room for each.
use Rattle.std.proofs.Common.{◌≡◌, ℕ, ◌+◌, ◌<◌, ◌≤◌, Bool, true, false, cond, ◌≢◌, List, [], ◌∷◌, ◌++◌, length, take, Some, None, Option, sym, refl, ap, ◌∙◌, subst, arith, length-append}
use Rattle.std.proofs.lemmas.List.{length-take-le}
use Rattle.geometry.specs.declared.points.Point.{Point}
use Rattle.geometry.specs.declared.points.Segment.{Segment}
use Rattle.geometry.specs.declared.points.Segment.TheVariants.{Line}
use Rattle.geometry.specs.Segments.{tangent_end, too_short, same_point, end_point}
use Rattle.path.specs.declared.open_path.OpenPath.{OpenPath}
use Rattle.path.specs.declared.state.PathState.{PathState}
use Rattle.path.specs.declared.state.PathState.TheVariants.{Start, MoveTo, NonemptySubpath}
use Rattle.path.specs.States.{by_state}
use Rattle.path.specs.Entries.{point_words, segment_words, tag_of, last_point}
use Rattle.path.specs.Rules.{Path, write, put, join, mark_end, marker, put_marker, close, leave, move_to, segment_to, segment_in, finish, begin, with_tangent, put_first, draw}
use Rattle.path.specs.Opening.{draws, draws_in, opened, opened_in}
use Rattle.path.specs.View.{Lent, view, Room, Ready, Does}
use Rattle.path.proofs.Lists.{length-end_last}
use Rattle.path.proofs.Finish.{bounds}
use Rattle.path.proofs.Cases.{draw-at, close_at, either_state, join_open, put_open}

pub as_rule : (f g : Path → Path) (a b : Lent) → f (view a) ≡ g (view a) → Does f a b → Does g a b
as_rule f g a b e d = record { shows = d.shows ∙ e; kept = d.kept }

pub and_then : (f g : Path → Path) (a b d : Lent) → Does f a b → Does g b d → Does (λ m. g (f m)) a d
and_then f g a b d p q = record { shows = q.shows ∙ ap g p.shows; kept = q.kept }

pub room_as : (m n : Path) (t w : ℕ) → m ≡ n → Room m t w → Room n t w
room_as m n t w e r = subst (λ (k : Path). Room k t w) e r

pub ready_as : (f g : Path → Path) (a : Lent) → f (view a) ≡ g (view a) → Ready f a → Ready g a
ready_as f g a e r = record { held = r.held; room = room_as (f (view a)) (g (view a)) _ _ e r.room }

-- the first of two rules, and the next
pub ready_first : (f g h : Path → Path) (a : Lent) → h (view a) ≡ g (f (view a)) → ((t w : ℕ) → Room (g (f (view a))) t w → Room (f (view a)) t w) → Ready h a → Ready f a
ready_first f g h a e less r = record { held = r.held; room = less _ _ (room_as (h (view a)) (g (f (view a))) _ _ e r.room) }

pub ready_next : (f g : Path → Path) (a b : Lent) → Does f a b → length b.tags ≡ length a.tags → length b.words ≡ length a.words →
    Room (g (f (view a))) (length a.tags) (length a.words) → Ready g b
ready_next f g a b d x y r =
    let q : Room (g (view b)) (length a.tags) (length a.words) = room_as (g (f (view a))) (g (view b)) _ _ (ap g (sym d.shows)) r in
    record { held = d.kept; room = record { tags = omega (arith, q.tags); words = omega (arith, q.words) } }

-- a rule that takes no more than what follows it
pub room_either : (b : Bool) (m n : Path) (t w : ℕ) → (Room n t w → Room m t w) → Room (cond b m n) t w → Room m t w
room_either true m n t w f r = r
room_either false m n t w f r = f r

room-write : (s : Segment) (m : Path) (t w : ℕ) → Room (write s m) t w → Room m t w
room-write s m t w r =
    record { tags = omega (arith, r.tags, length-append m.own.tags (tag_of s ∷ [])); words = omega (arith, r.words, length-append m.own.words (segment_words s)) }

pub room-put : (s : Segment) (m : Path) (t w : ℕ) → Room (put s m) t w → Room m t w
unfolding put
room-put s m t w r = room_either (too_short (last_point m.own.words) s) m (write s m) t w (room-write s m t w) r

pub room-join : (m : Path) (t w : ℕ) → Room (join m) t w → Room m t w
unfolding join
room-join m t w r = room_either (same_point (last_point m.own.words) m.first) m (write (Line m.first) m) t w (room-write (Line m.first) m t w) r

pub room_mark : (m : Path) (t w : ℕ) → Room (mark_end m) t w → Room m t w
room_mark m t w r = record { tags = omega (arith, r.tags, length-end_last m.own.tags); words = r.words }

pub room-finish : (mark : Bool) (m : Path) (t w : ℕ) → Room (finish mark m) t w → Room (leave m) t w
room-finish mark m t w r = record { tags = omega (arith, r.tags, (bounds mark (leave m).own.tags).0); words = r.words }

pub room-begin : (p : Point) (m : Path) (t w : ℕ) → Room (begin p m) t w → Room m t w
room-begin p m t w r = record { tags = r.tags; words = omega (arith, r.words, length-append m.own.words (point_words p)) }

room-first : (o : Option Point) (s : Segment) (m : Path) (t w : ℕ) → Room (put_first o s m) t w → Room m t w
room-first None s m t w r = r
room-first (Some p) s m t w r = let q : Room (with_tangent p m) t w = room-put s (with_tangent p m) t w r in record { tags = q.tags; words = q.words }

room-draw : (s : Segment) (m : Path) (t w : ℕ) → m.state ≡ MoveTo → Room (draw s m) t w → Room m t w
room-draw s m t w h r = room-first (tangent_end m.first s) s m t w (room_as _ _ t w (draw-at MoveTo s m h) r)

-- the entries that a segment and a point take
grown : {A : Type 0} (n : ℕ) (xs vs : List A) → n ≤ length xs → length (take n xs ++ vs) ≡ n + length vs
grown n xs vs h = length-append (take n xs) vs ∙ ap (λ k. k + length vs) (length-take-le n xs h)

pub record Spare (a : Lent) (t w : ℕ) : Type 0 where
  pub tags : a.path.tags + t ≤ length a.tags
  pub words : a.path.words + w ≤ length a.words

pub spare_write : (s : Segment) (a : Lent) → Ready (write s) a → Spare a 1 (length (segment_words s))
spare_write s a r = record {
  tags = omega (arith, r.room.tags, grown a.path.tags a.tags (tag_of s ∷ []) r.held.tags);
  words = omega (arith, r.room.words, grown a.path.words a.words (segment_words s) r.held.words);
}

pub spare_begin : (p : Point) (a : Lent) → Ready (begin p) a → Spare a 0 2
spare_begin p a r = record {
  tags = omega (arith, r.held.tags);
  words = omega (arith, r.room.words, grown a.path.words a.words (point_words p) r.held.words);
}

-- an open subpath has a tag, and any subpath its first point
pub tag_held : (e : OpenPath) → e.state ≡ NonemptySubpath → 0 < e.tags
tag_held e h = omega (arith, e.holds_tag, ap (by_state 0 0 1) h)

two-words : (z : PathState) → z ≢ Start → by_state 0 2 2 z ≡ 2
two-words Start h = absurd (h refl)
two-words MoveTo h = refl
two-words NonemptySubpath h = refl

pub point_held : (e : OpenPath) → e.state ≢ Start → 2 ≤ e.words
point_held e h = omega (arith, e.holds_point, two-words e.state h)

-- a subpath is opened for a segment, and then it is drawn
pub opened-at : (z : PathState) (e : Point) (m : Path) → m.state ≡ z → opened e m ≡ opened_in z e m
unfolding opened
opened-at z e m h = ap (λ x. opened_in x e m) h

pub opened_again : (e : Point) (m : Path) → m.state ≡ Start → m.moved ≡ true → opened e m ≡ move_to m.first m
opened_again e m h f = opened-at Start e m h ∙ ap (λ b. cond b (move_to m.first m) (move_to e m)) f

pub opened-first : (e : Point) (m : Path) → m.state ≡ Start → m.moved ≡ false → opened e m ≡ move_to e m
opened-first e m h f = opened-at Start e m h ∙ ap (λ b. cond b (move_to m.first m) (move_to e m)) f

begun : (z : PathState) (e : Point) (m : Path) → z ≢ Start → opened_in z e m ≡ m
begun Start e m h = absurd (h refl)
begun MoveTo e m h = refl
begun NonemptySubpath e m h = refl

pub opened_begun : (e : Point) (m : Path) → m.state ≢ Start → opened e m ≡ m
opened_begun e m h = opened-at m.state e m refl ∙ begun m.state e m h

pub draws-at_start : (m : Path) → m.state ≡ Start → draws m ≡ m.moved
unfolding draws
draws-at_start m h = ap (λ z. draws_in z m) h

begun_draws : (z : PathState) (m : Path) → z ≢ Start → draws_in z m ≡ true
begun_draws Start m h = absurd (h refl)
begun_draws MoveTo m h = refl
begun_draws NonemptySubpath m h = refl

pub draws_begun : (m : Path) → m.state ≢ Start → draws m ≡ true
unfolding draws
draws_begun m h = begun_draws m.state m h

parts_in : (z : PathState) (s : Segment) (m : Path) → segment_in z s m ≡ cond (draws_in z m) (draw s (opened_in z (end_point s) m)) (opened_in z (end_point s) m)
parts_in Start s m = go m.moved
  where
    go : (b : Bool) → cond b (draw s (move_to m.first m)) (move_to (end_point s) m) ≡ cond b (draw s (cond b (move_to m.first m) (move_to (end_point s) m))) (cond b (move_to m.first m) (move_to (end_point s) m))
    go true = refl
    go false = refl
parts_in MoveTo s m = refl
parts_in NonemptySubpath s m = refl

parts : (s : Segment) (m : Path) → segment_to s m ≡ cond (draws m) (draw s (opened (end_point s) m)) (opened (end_point s) m)
unfolding segment_to draws opened
parts s m = parts_in m.state s m

pub segment-drawn : (s : Segment) (m : Path) → draws m ≡ true → segment_to s m ≡ draw s (opened (end_point s) m)
segment-drawn s m h = parts s m ∙ ap (λ b. cond b (draw s (opened (end_point s) m)) (opened (end_point s) m)) h

pub segment-moved : (s : Segment) (m : Path) → draws m ≡ false → segment_to s m ≡ opened (end_point s) m
segment-moved s m h = parts s m ∙ ap (λ b. cond b (draw s (opened (end_point s) m)) (opened (end_point s) m)) h

-- what is opened for a segment that is drawn
moved-not_start : (m : Path) → m.state ≡ MoveTo → m.state ≢ Start
moved-not_start m h k = let e : MoveTo ≡ Start = sym h ∙ k in let y : ◌≡◌ {A = ℕ} 0 1 = cc in omega arith

open-not-start : (z : PathState) (e : Point) (m : Path) → m.state ≡ z → (opened_in z e m).state ≢ Start
open-not-start Start e m h = go m.moved
  where
    go : (b : Bool) → (cond b (move_to m.first m) (move_to e m)).state ≢ Start
    go true = moved-not_start (move_to m.first m) refl
    go false = moved-not_start (move_to e m) refl
open-not-start MoveTo e m h = moved-not_start m h
open-not-start NonemptySubpath e m h = λ k. let i : NonemptySubpath ≡ Start = sym h ∙ k in let y : ◌≡◌ {A = ℕ} 0 1 = cc in omega arith

pub opened-not_start : (e : Point) (m : Path) → (opened e m).state ≢ Start
unfolding opened
opened-not_start e m = open-not-start m.state e m refl

room_in : (z : PathState) (s : Segment) (e : Point) (m : Path) (t w : ℕ) → m.state ≡ z → Room (draw s (opened_in z e m)) t w → Room (opened_in z e m) t w
room_in Start s e m t w h r = go m.moved r
  where
    go : (b : Bool) → Room (draw s (cond b (move_to m.first m) (move_to e m))) t w → Room (cond b (move_to m.first m) (move_to e m)) t w
    go true q = room-draw s (move_to m.first m) t w refl q
    go false q = room-draw s (move_to e m) t w refl q
room_in MoveTo s e m t w h r = room-draw s m t w h r
room_in NonemptySubpath s e m t w h r = room-put s m t w (room_as _ _ t w (draw-at NonemptySubpath s m h) r)

room-opened : (s : Segment) (e : Point) (m : Path) (t w : ℕ) → Room (draw s (opened e m)) t w → Room (opened e m) t w
unfolding opened
room-opened s e m t w r = room_in m.state s e m t w refl r

pub ready_opened : (s : Segment) (a : Lent) → Ready (segment_to s) a → Ready (opened (end_point s)) a
ready_opened s a r = go (draws (view a)) refl
  where
    go : (b : Bool) → draws (view a) ≡ b → Ready (opened (end_point s)) a
    go true h = ready_first (opened (end_point s)) (draw s) (segment_to s) a (segment-drawn s (view a) h) (room-opened s (end_point s) (view a)) r
    go false h = ready_as (segment_to s) (opened (end_point s)) a (segment-moved s (view a) h) r

-- a segment call, by what the opening of a subpath answered
pub ready_drawn : (s : Segment) (a b : Lent) (r : Bool) → r ≡ draws (view a) → r ≡ true → Does (opened (end_point s)) a b →
    length b.tags ≡ length a.tags → length b.words ≡ length a.words → Ready (segment_to s) a → Ready (draw s) b
ready_drawn s a b r e h d x y q = ready_next (opened (end_point s)) (draw s) a b d x y (room_as _ _ _ _ (segment-drawn s (view a) (sym e ∙ h)) q.room)

pub begun_drawn : (e : Point) (a b : Lent) → Does (opened e) a b → b.path.state ≢ Start
begun_drawn e a b d k = opened-not_start e (view a) (sym (ap (λ (m : Path). m.state) d.shows) ∙ k)

pub does_drawn : (s : Segment) (a b d : Lent) (r : Bool) → r ≡ draws (view a) → r ≡ true → Does (opened (end_point s)) a b → Does (draw s) b d → Does (segment_to s) a d
does_drawn s a b d r e h p q =
    as_rule (λ m. draw s (opened (end_point s) m)) (segment_to s) a d (sym (segment-drawn s (view a) (sym e ∙ h))) (and_then (opened (end_point s)) (draw s) a b d p q)

pub does_moved : (s : Segment) (a b : Lent) (r : Bool) → r ≡ draws (view a) → r ≡ false → Does (opened (end_point s)) a b → Does (segment_to s) a b
does_moved s a b r e h p = as_rule (opened (end_point s)) (segment_to s) a b (sym (segment-moved s (view a) (sym e ∙ h))) p

-- the state after a rule
pub state-after : (f : Path → Path) (z : PathState) (a b : Lent) → Does f a b → (f (view a)).state ≡ z → b.path.state ≡ z
state-after f z a b d e = ap (λ (m : Path). m.state) d.shows ∙ e

-- a subpath that is closed, before its last tag is marked
abbrev pub closing : Path → Path
closing m = cond m.fill (join m) (put_marker true (join m))

pub room-closing : (m : Path) (t w : ℕ) → m.state ≡ NonemptySubpath → Room (close m) t w → Room (closing m) t w
room-closing m t w h r = room_mark (closing m) t w (room_as _ _ t w (close_at NonemptySubpath m h) r)

pub room-close : (m : Path) (t w : ℕ) → m.state ≡ NonemptySubpath → Room (close m) t w → Room (join m) t w
room-close m t w h r = room_either m.fill (join m) (put_marker true (join m)) t w (room-put (marker true (join m)) (join m) t w) (room-closing m t w h r)

either_fill : (b : Bool) (m n : Path) → n.fill ≡ m.fill → (cond b m n).fill ≡ m.fill
either_fill true m n e = refl
either_fill false m n e = e

join-fill : (m : Path) → (join m).fill ≡ m.fill
unfolding join
join-fill m = either_fill (same_point (last_point m.own.words) m.first) m (write (Line m.first) m) refl

-- it stays a fill's or a stroke's once the line back is drawn
pub closing-as : (v : Bool) (a b : Lent) → Does join a b → b.path.is_fill ≡ v → closing (view a) ≡ cond v (join (view a)) (put_marker true (join (view a)))
closing-as v a b d f = ap (λ x. cond x (join (view a)) (put_marker true (join (view a)))) (sym (join-fill (view a)) ∙ sym (ap (λ (m : Path). m.fill) d.shows) ∙ f)

pub closing-fill : (a b : Lent) → Does join a b → b.path.is_fill ≡ true → Does closing a b
closing-fill a b d f = as_rule join closing a b (sym (closing-as true a b d f)) d

pub closing-stroke : (a b e : Lent) → Does join a b → b.path.is_fill ≡ false → Does (put_marker true) b e → Does closing a e
closing-stroke a b e d f p = as_rule (λ m. put_marker true (join m)) closing a e (sym (closing-as false a b d f)) (and_then join (put_marker true) a b e d p)

pub marked_open : (b : Bool) (m : Path) → m.state ≡ NonemptySubpath → (put_marker b m).state ≡ NonemptySubpath
marked_open b m h = put_open (marker b m) m h

pub closing_open : (m : Path) → m.state ≡ NonemptySubpath → (closing m).state ≡ NonemptySubpath
closing_open m h = either_state m.fill (join m) (put_marker true (join m)) NonemptySubpath (join_open m h) (marked_open true (join m) (join_open m h))

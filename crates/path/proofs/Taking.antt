-- The segments of whole subpaths, read in turn, and what their tags count.
use Rattle.std.proofs.Common.{◌≡◌, ℕ, ◌+◌, ◌*◌, ◌<◌, Bool, List, [], ◌∷◌, ◌++◌, length, take, drop, sym, refl, ap, ◌∙◌, subst, append_assoc, append-nil, arith, length-append}
use Rattle.geometry.specs.declared.points.Point.{Point}
use Rattle.geometry.specs.declared.points.Segment.{Segment}
use Rattle.geometry.specs.declared.points.Segment.TheVariants.{Line, Quad, Cubic}
use Rattle.geometry.specs.Segments.{end_point}
use Rattle.monoid.specs.Laws.{reduced}
use Rattle.monoid.specs.declared.path.PathTag.{PathTag}
use Rattle.monoid.specs.PathTags.{none, plus, from_tag, bit, ended, tag}
use Rattle.path.specs.Entries.{point_words, segment_words, tag_of, end_last}
use Rattle.path.specs.Subpaths.{Subpath, tags_of, words_of, all_tags, all_words, Whole, Each}
use Rattle.path.specs.Turns.{Piece, reads, passes, pieces, left_over, piece, drawn, all_drawn}
use Rattle.path.specs.Theorems.{points_in, ends_in, segments_in, OneEnd}
use Rattle.path.proofs.Lists.{end_last-append}

-- the last of some segments
pub end_last-one : (t : PathTag) → end_last (t ∷ []) ≡ ended t ∷ []
unfolding end_last
end_last-one t = refl

pub end_last_more : (s t : Segment) (ss : List Segment) → end_last (tags_of (s ∷ t ∷ ss)) ≡ tag_of s ∷ end_last (tags_of (t ∷ ss))
end_last_more s t ss = end_last-append (tag_of s ∷ []) (tags_of (t ∷ ss)) (omega arith)

-- a segment takes its points from the one that it starts from
take-piece : (p : Point) (s : Segment) (ws : List ℕ) → take (reads (tag_of s)) (point_words p ++ (segment_words s ++ ws)) ≡ point_words p ++ segment_words s
take-piece p (Line q) ws = refl
take-piece p (Quad q r) ws = refl
take-piece p (Cubic q r u) ws = refl

take_last : (p : Point) (s : Segment) (ws : List ℕ) → take (reads (ended (tag_of s))) (point_words p ++ (segment_words s ++ ws)) ≡ point_words p ++ segment_words s
take_last p (Line q) ws = refl
take_last p (Quad q r) ws = refl
take_last p (Cubic q r u) ws = refl

-- the next starts at its end, or behind it
drop-piece : (p : Point) (s : Segment) (ws : List ℕ) → drop (passes (tag_of s)) (point_words p ++ (segment_words s ++ ws)) ≡ point_words (end_point s) ++ ws
drop-piece p (Line q) ws = refl
drop-piece p (Quad q r) ws = refl
drop-piece p (Cubic q r u) ws = refl

drop_last : (p : Point) (s : Segment) (ws : List ℕ) → drop (passes (ended (tag_of s))) (point_words p ++ (segment_words s ++ ws)) ≡ ws
drop_last p (Line q) ws = refl
drop_last p (Quad q r) ws = refl
drop_last p (Cubic q r u) ws = refl

pieces_step : (t : PathTag) (ts : List PathTag) (ws vs us : List ℕ) → take (reads t) ws ≡ vs → drop (passes t) ws ≡ us → pieces (t ∷ ts) ws ≡ record { tag = t; words = vs } ∷ pieces ts us
pieces_step t ts ws vs us a b = λ i. record { tag = t; words = a i } ∷ pieces ts (b i)

-- the tags and words of the first of some segments
tags_last : (s : Segment) (ts : List PathTag) → end_last (tags_of (s ∷ [])) ++ ts ≡ ended (tag_of s) ∷ ts
tags_last s ts = ap (λ (z : List PathTag). z ++ ts) (end_last-one (tag_of s))

tags-next : (s t : Segment) (ss : List Segment) (ts : List PathTag) → end_last (tags_of (s ∷ t ∷ ss)) ++ ts ≡ tag_of s ∷ (end_last (tags_of (t ∷ ss)) ++ ts)
tags-next s t ss ts = ap (λ (z : List PathTag). z ++ ts) (end_last_more s t ss)

words_last : (p : Point) (s : Segment) (ws : List ℕ) → point_words p ++ (words_of (s ∷ []) ++ ws) ≡ point_words p ++ (segment_words s ++ ws)
words_last p s ws = ap (λ (z : List ℕ). point_words p ++ (z ++ ws)) (append-nil (segment_words s))

words-next : (p : Point) (s t : Segment) (ss : List Segment) (ws : List ℕ) → point_words p ++ (words_of (s ∷ t ∷ ss) ++ ws) ≡ point_words p ++ (segment_words s ++ (words_of (t ∷ ss) ++ ws))
words-next p s t ss ws = ap (λ (z : List ℕ). point_words p ++ z) (append_assoc (segment_words s) (words_of (t ∷ ss)) ws)

-- a subpath's segments, and then the rest
pieces_subpath : (p : Point) (s : Segment) (ss : List Segment) (ts : List PathTag) (ws : List ℕ) →
    pieces (end_last (tags_of (s ∷ ss)) ++ ts) (point_words p ++ (words_of (s ∷ ss) ++ ws)) ≡ drawn p (s ∷ ss) ++ pieces ts ws
pieces_subpath p s [] ts ws =
    ap (λ (z : List PathTag). pieces z (point_words p ++ (words_of (s ∷ []) ++ ws))) (tags_last s ts) ∙ ap (pieces (ended (tag_of s) ∷ ts)) (words_last p s ws)
    ∙ pieces_step (ended (tag_of s)) ts _ _ _ (take_last p s ws) (drop_last p s ws)
pieces_subpath p s (t ∷ ss) ts ws =
    let more = end_last (tags_of (t ∷ ss)) ++ ts in
    let rest = words_of (t ∷ ss) ++ ws in
    ap (λ (z : List PathTag). pieces z (point_words p ++ (words_of (s ∷ t ∷ ss) ++ ws))) (tags-next s t ss ts) ∙ ap (pieces (tag_of s ∷ more)) (words-next p s t ss ws)
    ∙ pieces_step (tag_of s) more _ _ _ (take-piece p s rest) (drop-piece p s rest) ∙ ap (λ (z : List Piece). piece (tag_of s) p s ∷ z) (pieces_subpath (end_point s) t ss ts ws)

left_subpath : (p : Point) (s : Segment) (ss : List Segment) (ts : List PathTag) (ws : List ℕ) →
    left_over (end_last (tags_of (s ∷ ss)) ++ ts) (point_words p ++ (words_of (s ∷ ss) ++ ws)) ≡ left_over ts ws
left_subpath p s [] ts ws =
    ap (λ (z : List PathTag). left_over z (point_words p ++ (words_of (s ∷ []) ++ ws))) (tags_last s ts) ∙ ap (left_over (ended (tag_of s) ∷ ts)) (words_last p s ws)
    ∙ ap (left_over ts) (drop_last p s ws)
left_subpath p s (t ∷ ss) ts ws =
    let more = end_last (tags_of (t ∷ ss)) ++ ts in
    ap (λ (z : List PathTag). left_over z (point_words p ++ (words_of (s ∷ t ∷ ss) ++ ws))) (tags-next s t ss ts) ∙ ap (left_over (tag_of s ∷ more)) (words-next p s t ss ws)
    ∙ ap (left_over more) (drop-piece p s (words_of (t ∷ ss) ++ ws)) ∙ left_subpath (end_point s) t ss ts ws

-- of whole subpaths nothing is left over
pub pieces_all : (f : Bool) (ds : List Subpath) → Each (Whole f) ds → pieces (all_tags ds) (all_words ds) ≡ all_drawn ds
pieces_all f [] h = refl
pieces_all f (d ∷ ds) h = go (pieces_all f ds h.1) d.segments h.0.some
  where
    go : pieces (all_tags ds) (all_words ds) ≡ all_drawn ds → (ss : List Segment) → 0 < length ss → pieces (end_last (tags_of ss) ++ all_tags ds) ((point_words d.first ++ words_of ss) ++ all_words ds) ≡ drawn d.first ss ++ all_drawn ds
    go e [] n = absurd (omega arith)
    go e (s ∷ ss) n = pieces_subpath d.first s ss (all_tags ds) (all_words ds) ∙ ap (λ (z : List Piece). drawn d.first (s ∷ ss) ++ z) e

pub left_all : (f : Bool) (ds : List Subpath) → Each (Whole f) ds → left_over (all_tags ds) (all_words ds) ≡ []
left_all f [] h = refl
left_all f (d ∷ ds) h = go (left_all f ds h.1) d.segments h.0.some
  where
    go : left_over (all_tags ds) (all_words ds) ≡ [] → (ss : List Segment) → 0 < length ss → left_over (end_last (tags_of ss) ++ all_tags ds) ((point_words d.first ++ words_of ss) ++ all_words ds) ≡ []
    go e [] n = absurd (omega arith)
    go e (s ∷ ss) n = left_subpath d.first s ss (all_tags ds) (all_words ds) ∙ e

-- w words and n segments are what the tags count
pub record Tally (ts : List PathTag) (w n : ℕ) : Type 0 where
  pub words : 2 * ends_in ts + 2 * points_in ts ≡ w
  pub segments : segments_in ts ≡ n
  pub counts : reduced none plus from_tag ts ≡ record { transforms = 0; segments = n; words = w; styles = 0; paths = 0 }

tally_none : Tally [] 0 0
tally_none = record { words = refl; segments = refl; counts = refl }

tally_next : (s : Segment) (ts : List PathTag) (w n : ℕ) → Tally ts w n → Tally (tag_of s ∷ ts) (length (segment_words s) + w) (1 + n)
tally_next (Line p) ts w n t = record { words = omega (arith, t.words); segments = omega (arith, t.segments); counts = ap (plus (from_tag (tag 0x09))) t.counts }
tally_next (Quad p q) ts w n t = record { words = omega (arith, t.words); segments = omega (arith, t.segments); counts = ap (plus (from_tag (tag 0x0A))) t.counts }
tally_next (Cubic p q r) ts w n t = record { words = omega (arith, t.words); segments = omega (arith, t.segments); counts = ap (plus (from_tag (tag 0x0B))) t.counts }

tally_end : (s : Segment) (ts : List PathTag) (w n : ℕ) → Tally ts w n → Tally (ended (tag_of s) ∷ ts) (2 + length (segment_words s) + w) (1 + n)
tally_end (Line p) ts w n t = record { words = omega (arith, t.words); segments = omega (arith, t.segments); counts = ap (plus (from_tag (ended (tag 0x09)))) t.counts }
tally_end (Quad p q) ts w n t = record { words = omega (arith, t.words); segments = omega (arith, t.segments); counts = ap (plus (from_tag (ended (tag 0x0A)))) t.counts }
tally_end (Cubic p q r) ts w n t = record { words = omega (arith, t.words); segments = omega (arith, t.segments); counts = ap (plus (from_tag (ended (tag 0x0B)))) t.counts }

tally_as : (ts us : List PathTag) (w v n k : ℕ) → ts ≡ us → w ≡ v → n ≡ k → Tally ts w n → Tally us v k
tally_as ts us w v n k e f g t = subst (λ (z : List PathTag). Tally z v k) e (subst (λ (x : ℕ). Tally ts x k) f (subst (λ (y : ℕ). Tally ts w y) g t))

-- an open subpath's segments
pub tally_open : (ss : List Segment) → Tally (tags_of ss) (length (words_of ss)) (length (tags_of ss))
tally_open [] = tally_none
tally_open (s ∷ ss) =
    tally_as _ _ _ _ _ _ refl (sym (length-append (segment_words s) (words_of ss))) (omega arith) (tally_next s (tags_of ss) (length (words_of ss)) (length (tags_of ss)) (tally_open ss))

-- a whole subpath, and then the rest
tally_subpath : (s : Segment) (ss : List Segment) (ts : List PathTag) (w n : ℕ) → Tally ts w n →
    Tally (end_last (tags_of (s ∷ ss)) ++ ts) (2 + length (words_of (s ∷ ss)) + w) (length (end_last (tags_of (s ∷ ss))) + n)
tally_subpath s [] ts w n t =
    tally_as _ _ _ _ _ _ (sym (tags_last s ts)) (omega (arith, ap length (append-nil (segment_words s)))) (omega (arith, ap length (end_last-one (tag_of s)))) (tally_end s ts w n t)
tally_subpath s (u ∷ ss) ts w n t =
    let more = end_last (tags_of (u ∷ ss)) in
    tally_as _ _ _ _ _ _ (sym (tags-next s u ss ts)) (omega (arith, length-append (segment_words s) (words_of (u ∷ ss)))) (omega (arith, ap length (end_last_more s u ss)))
    (tally_next s (more ++ ts) (2 + length (words_of (u ∷ ss)) + w) (length more + n) (tally_subpath u ss ts w n t))

pub tally_all : (f : Bool) (ds : List Subpath) → Each (Whole f) ds → (ts : List PathTag) (w n : ℕ) → Tally ts w n → Tally (all_tags ds ++ ts) (length (all_words ds) + w) (length (all_tags ds) + n)
tally_all f [] h ts w n t = tally_as _ _ _ _ _ _ refl (omega arith) (omega arith) t
tally_all f (d ∷ ds) h ts w n t = go (tally_all f ds h.1 ts w n t) d.segments h.0.some
  where
    go : Tally (all_tags ds ++ ts) (length (all_words ds) + w) (length (all_tags ds) + n) → (ss : List Segment) → 0 < length ss →
        Tally ((end_last (tags_of ss) ++ all_tags ds) ++ ts) (length ((point_words d.first ++ words_of ss) ++ all_words ds) + w) (length (end_last (tags_of ss) ++ all_tags ds) + n)
    go e [] k = absurd (omega arith)
    go e (s ∷ ss) k =
        tally_as _ _ _ _ _ _ (sym (append_assoc (end_last (tags_of (s ∷ ss))) (all_tags ds) ts)) (omega (arith, length-append (words_of (s ∷ ss)) (all_words ds))) (omega (arith, length-append (end_last (tags_of (s ∷ ss))) (all_tags ds)))
        (tally_subpath s ss (all_tags ds ++ ts) (length (all_words ds) + w) (length (all_tags ds) + n) e)

-- a whole subpath has one end
ends_next : (s : Segment) → bit 2 (tag_of s) ≡ 0
ends_next (Line p) = refl
ends_next (Quad p q) = refl
ends_next (Cubic p q r) = refl

ends_last : (s : Segment) → bit 2 (ended (tag_of s)) ≡ 1
ends_last (Line p) = refl
ends_last (Quad p q) = refl
ends_last (Cubic p q r) = refl

one-end_of : (s : Segment) (ss : List Segment) → ends_in (end_last (tags_of (s ∷ ss))) ≡ 1
one-end_of s [] = ap ends_in (end_last-one (tag_of s)) ∙ omega (arith, ends_last s)
one-end_of s (t ∷ ss) = ap ends_in (end_last_more s t ss) ∙ omega (arith, ends_next s, one-end_of t ss)

pub one_end : OneEnd
one_end f d h = go d.segments h.some
  where
    go : (ss : List Segment) → 0 < length ss → ends_in (end_last (tags_of ss)) ≡ 1
    go [] n = absurd (omega arith)
    go (s ∷ ss) n = one-end_of s ss

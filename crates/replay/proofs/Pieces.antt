-- A path's segments find their points in its words, and its tags count them. Assumes nothing.
use Rattle.std.proofs.Common.{◌≡◌, ◌+◌, ◌≤◌, true, List, [], ◌∷◌, ◌++◌, length, drop, Option, sym, refl, ap, ◌∙◌, subst, arith, length-drop, length-take}
use Rattle.std.proofs.lemmas.List.{drop-drop}
use Rattle.geometry.specs.declared.points.Point.{Point}
use Rattle.geometry.specs.declared.points.Segment as Geometric
use Rattle.geometry.specs.declared.points.Segment.TheVariants.{Line, Quad, Cubic}
use Rattle.geometry.specs.Segments.{end_point}
use Rattle.monoid.specs.declared.path.PathTag.{PathTag}
use Rattle.monoid.specs.PathTags.{Counts, plus, from_tag, is_segment, ended}
use Rattle.path.specs.Subpaths.{Subpath}
use Rattle.path.specs.Entries.{tag_of}
use Rattle.path.specs.Turns.{Piece, reads, passes, pieces, piece, drawn, all_drawn}
use Rattle.values.specs.declared.transform.Transform.{Transform}
use Rattle.replay.specs.Calls.{Chosen}
use Rattle.replay.specs.Log.{styled}
use Rattle.replay.proofs.Shown.{Store, At, Reads, Around, around-on, head-segment}

-- a segment tag counts itself and the words that it passes
pub record Plain (t : PathTag) : Type 0 where
  pub segment : is_segment t ≡ true
  pub words : (from_tag t).words ≡ passes t
  pub transforms : (from_tag t).transforms ≡ 0
  pub styles : (from_tag t).styles ≡ 0

-- and its piece has all the words that it reads
pub record Good (p : Piece) : Type 0 where
  pub plain : Plain p.tag
  pub size : length p.words ≡ reads p.tag

good : (p : Point) (s : Geometric.Segment) → Good (piece (tag_of s) p s)
good p (Line a) = record { plain = record { segment = refl; words = refl; transforms = refl; styles = refl }; size = refl }
good p (Quad a b) = record { plain = record { segment = refl; words = refl; transforms = refl; styles = refl }; size = refl }
good p (Cubic a b c) = record { plain = record { segment = refl; words = refl; transforms = refl; styles = refl }; size = refl }

good_end : (p : Point) (s : Geometric.Segment) → Good (piece (ended (tag_of s)) p s)
good_end p (Line a) = record { plain = record { segment = refl; words = refl; transforms = refl; styles = refl }; size = refl }
good_end p (Quad a b) = record { plain = record { segment = refl; words = refl; transforms = refl; styles = refl }; size = refl }
good_end p (Cubic a b c) = record { plain = record { segment = refl; words = refl; transforms = refl; styles = refl }; size = refl }

abbrev pub AllGood : List Piece → Type 0
AllGood [] = Unit {0}
AllGood (p ∷ ps) = Good p × AllGood ps

good_++ : (ps qs : List Piece) → AllGood ps → AllGood qs → AllGood (ps ++ qs)
good_++ [] qs h k = k
good_++ (p ∷ ps) qs h k = (h.0, good_++ ps qs h.1 k)

good_drawn : (p : Point) (ss : List Geometric.Segment) → AllGood (drawn p ss)
good_drawn p [] = tt
good_drawn p (s ∷ []) = (good_end p s, tt)
good_drawn p (s ∷ t ∷ ss) = (good p s, good_drawn (end_point s) (t ∷ ss))

pub good_all : (ds : List Subpath) → AllGood (all_drawn ds)
good_all [] = tt
good_all (d ∷ ds) = good_++ (drawn d.first d.segments) (all_drawn ds) (good_drawn d.first d.segments) (good_all ds)

-- tags that come after c, in words of which theirs are the last
pub reads-pieces : (r : Store) (st : Option Chosen) (tr : Option Transform) (ts : List PathTag) (c : Counts) → AllGood (pieces ts (drop c.words r.words)) → c.words ≤ length r.words → Around r st tr c →
    Reads r c ts (styled st tr (pieces ts (drop c.words r.words)))
reads-pieces r st tr [] c g l a = refl
reads-pieces r st tr (t ∷ ts) c g l a =
    let f = g.0.plain in
    let d = plus c (from_tag t) in
    let left = drop c.words r.words in
    let full : reads t ≤ length left = omega (arith, g.0.size, length-take (reads t) left) in
    let len = length-drop c.words r.words in
    let off : d.words ≡ c.words + passes t = ap (λ k. c.words + k) f.words in
    let there : drop (passes t) left ≡ drop d.words r.words = drop-drop (passes t) c.words r.words ∙ ap (λ k. drop k r.words) (sym off) in
    let same-styles : c.styles ≡ d.styles = omega (arith, f.styles) in
    let same-transforms : c.transforms ≡ d.transforms = omega (arith, f.transforms) in
    let rest = reads-pieces r st tr ts d (subst (λ ws. AllGood (pieces ts ws)) there g.1) (omega (arith, full, len, off)) (around-on r st tr c d same-styles same-transforms a) in
    head-segment r t (λ ys. Reads r d ts ys) (λ x. At r c t x) _ _ (is_segment t) f.segment
    (record { tag = refl; inside = omega (arith, full, len); points = refl; styled = a.styled; style = a.style; moved = a.moved; transform = a.transform })
    (subst (λ ws. Reads r d ts (styled st tr (pieces ts ws))) (sym there) rest)

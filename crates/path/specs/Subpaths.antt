-- Whole subpaths, and how an open path's entries are made of them. Assumes nothing.
use Rattle.std.specs.Prelude.{◌≡◌, ℕ, ◌<◌, Bool, true, List, [], ◌∷◌, ◌++◌, length}
use Rattle.geometry.specs.declared.points.Point.{Point}
use Rattle.geometry.specs.declared.points.Segment.{Segment}
use Rattle.geometry.specs.Segments.{end_point}
use Rattle.monoid.specs.declared.path.PathTag.{PathTag}
use Rattle.path.specs.declared.state.PathState.TheVariants.{Start, MoveTo, NonemptySubpath}
use Rattle.path.specs.Entries.{point_words, segment_words, tag_of, end_last}
use Rattle.path.specs.Rules.{Path}

pub record Subpath : Type 0 where
  pub first : Point
  pub segments : List Segment

-- the point at which segments from a point end
abbrev pub end_of : Point → List Segment → Point
end_of p [] = p
end_of p (s ∷ ss) = end_of (end_point s) ss

abbrev pub tags_of : List Segment → List PathTag
tags_of [] = []
tags_of (s ∷ ss) = tag_of s ∷ tags_of ss

abbrev pub words_of : List Segment → List ℕ
words_of [] = []
words_of (s ∷ ss) = segment_words s ++ words_of ss

-- a whole subpath: the tags of its segments, the last with 04, and the words of its first point and of theirs
abbrev pub subpath_tags : Subpath → List PathTag
subpath_tags d = end_last (tags_of d.segments)

abbrev pub subpath_words : Subpath → List ℕ
subpath_words d = point_words d.first ++ words_of d.segments

abbrev pub all_tags : List Subpath → List PathTag
all_tags [] = []
all_tags (d ∷ ds) = subpath_tags d ++ all_tags ds

abbrev pub all_words : List Subpath → List ℕ
all_words [] = []
all_words (d ∷ ds) = subpath_words d ++ all_words ds

-- it has a segment, and a fill's ends, bit for bit, at its first point
pub record Whole (fill : Bool) (d : Subpath) : Type 0 where
  pub some : 0 < length d.segments
  pub closed : fill ≡ true → end_of d.first d.segments ≡ d.first

abbrev pub Each : (Subpath → Type 0) → List Subpath → Type 0
Each P [] = Unit {0}
Each P (d ∷ ds) = P d × Each P ds

-- the entries are those of whole subpaths, and then so many more
pub record Holds (m : Path) (ds : List Subpath) (ts : List PathTag) (ws : List ℕ) : Type 0 where
  pub whole : Each (Whole m.fill) ds
  pub tags : m.own.tags ≡ all_tags ds ++ ts
  pub words : m.own.words ≡ all_words ds ++ ws

-- by its state, nothing more, a lone first point, or an open subpath with its first point and segments
pub data LaidOut (m : Path) : Type 0 where
  at_rest : (ds : List Subpath) → m.state ≡ Start → Holds m ds [] [] → LaidOut m
  after_move : (ds : List Subpath) → m.state ≡ MoveTo → Holds m ds [] (point_words m.first) → LaidOut m
  in_subpath : (ds : List Subpath) (ss : List Segment) → 0 < length ss → m.state ≡ NonemptySubpath → Holds m ds (tags_of ss) (point_words m.first ++ words_of ss) → LaidOut m

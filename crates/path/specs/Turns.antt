-- Segments take their points from a path's words in turn. Assumes nothing.
use Rattle.std.specs.Prelude.{ℕ, ◌+◌, ◌*◌, List, [], ◌∷◌, ◌++◌, take, drop}
use Rattle.geometry.specs.declared.points.Point.{Point}
use Rattle.geometry.specs.declared.points.Segment.{Segment}
use Rattle.geometry.specs.Segments.{end_point}
use Rattle.monoid.specs.declared.path.PathTag.{PathTag}
use Rattle.monoid.specs.PathTags.{segment_type, bit, ended}
use Rattle.path.specs.Entries.{point_words, segment_words, tag_of}
use Rattle.path.specs.Subpaths.{Subpath}

-- a segment as it is read: its tag, and the words of its points from the one that it starts from
pub record Piece : Type 0 where
  pub tag : PathTag
  pub words : List ℕ

-- as many points as the tag counts, and the one before them
abbrev pub reads : PathTag → ℕ
reads t = 2 * (segment_type t + 1)

-- the next segment shares a point with this one, unless this one ends its subpath
abbrev pub passes : PathTag → ℕ
passes t = 2 * (segment_type t + bit 2 t)

abbrev pub pieces : List PathTag → List ℕ → List Piece
pieces [] ws = []
pieces (t ∷ ts) ws = record { tag = t; words = take (reads t) ws } ∷ pieces ts (drop (passes t) ws)

-- the words that no segment takes
abbrev pub left_over : List PathTag → List ℕ → List ℕ
left_over [] ws = ws
left_over (t ∷ ts) ws = left_over ts (drop (passes t) ws)

abbrev pub piece : PathTag → Point → Segment → Piece
piece t p s = record { tag = t; words = point_words p ++ segment_words s }

-- the segments from a point, each from the end of the one before; the last ends its subpath
abbrev pub drawn : Point → List Segment → List Piece
drawn p [] = []
drawn p (s ∷ []) = piece (ended (tag_of s)) p s ∷ []
drawn p (s ∷ t ∷ ss) = piece (tag_of s) p s ∷ drawn (end_point s) (t ∷ ss)

abbrev pub all_drawn : List Subpath → List Piece
all_drawn [] = []
all_drawn (d ∷ ds) = drawn d.first d.segments ++ all_drawn ds

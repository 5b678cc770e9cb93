-- The words and tags of points and segments, and what is done to the last ones. Assumes nothing.
use Rattle.std.specs.Prelude.{ℕ, ◌-◌, Bool, cond, List, [], ◌∷◌, ◌++◌, length, take, ◌==◌, slice_index, slice_index_or, slice_set}
use Rattle.geometry.specs.declared.points.Point.{Point}
use Rattle.geometry.specs.declared.points.Segment.{Segment}
use Rattle.geometry.specs.declared.points.Segment.TheVariants.{Line, Quad, Cubic}
use Rattle.monoid.specs.declared.path.PathTag.{PathTag}
use Rattle.monoid.specs.PathTags.{tag, ended}

-- a point's two words, x then y
abbrev pub point_words : Point → List ℕ
point_words p = p.x ∷ p.y ∷ []

-- the words of a segment's points, but for the point that it starts from
abbrev pub segment_words : Segment → List ℕ
segment_words (Line p) = point_words p
segment_words (Quad p q) = point_words p ++ point_words q
segment_words (Cubic p q r) = point_words p ++ point_words q ++ point_words r

abbrev pub tag_of : Segment → PathTag
tag_of (Line p) = tag 0x09
tag_of (Quad p q) = tag 0x0A
tag_of (Cubic p q r) = tag 0x0B

abbrev pub path_tag : PathTag
path_tag = tag 0x10

-- the last tag gets 04
unfoldable pub end_last : List PathTag → List PathTag
end_last ts = slice_set ts (length ts - 1) (ended (slice_index_or ts (length ts - 1) (tag 0)))

-- a finish: the last tag, if there is one, gets 04, and the path's tag may follow
unfoldable pub finished : Bool → List PathTag → List PathTag
finished mark ts = cond (length ts == 0) ts (cond mark (end_last ts ++ path_tag ∷ []) (end_last ts))

-- the last two words go
unfoldable pub drop_point : List ℕ → List ℕ
drop_point ws = take (length ws - 2) ws

-- the point in the last two words
unfoldable pub last_point : List ℕ → Point
last_point ws = record { x = slice_index ws (length ws - 2); y = slice_index ws (length ws - 1) }

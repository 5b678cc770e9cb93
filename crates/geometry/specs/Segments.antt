-- Segments of points by their patterns: what the path rules ask of a segment.
use Rattle.std.specs.Prelude.{Bool, ◌&&◌, List, [], ◌∷◌, map, Some, None, Option, ◌==◌, from_bits, to_bits, Float}
use Rattle.std.specs.Float.{binary32}
use Rattle.geometry.specs.declared.points.Point.{Point}
use Rattle.geometry.specs.declared.points.Segment.{Segment}
use Rattle.geometry.specs.declared.points.Segment.TheVariants.{Line, Quad, Cubic}
use Rattle.geometry.specs.Tangents.{Coordinates, line_end, quad_end, cubic_end, Finite}
use Rattle.geometry.specs.Extents.{short}

abbrev pub numbers_of : Point → Coordinates
numbers_of p = (from_bits binary32 p.x, from_bits binary32 p.y)

abbrev pub point_of : Float → Float → Point
point_of x y = record { x = to_bits binary32 x; y = to_bits binary32 y }

abbrev pub end_of : Option Coordinates → Option Point
end_of None = None
end_of (Some p) = Some (point_of p.0 p.1)

-- past the point that it starts from
abbrev pub points_of : Segment → List Point
points_of (Line p) = p ∷ []
points_of (Quad p q) = p ∷ q ∷ []
points_of (Cubic p q r) = p ∷ q ∷ r ∷ []

abbrev pub end_point : Segment → Point
end_point (Line p) = p
end_point (Quad p q) = q
end_point (Cubic p q r) = r

-- where the start tangent ends, if `first` is the subpath's first point
unfoldable pub tangent_end : Point → Segment → Option Point
tangent_end first (Line p) = end_of (line_end (numbers_of first) (numbers_of p))
tangent_end first (Quad p q) = end_of (quad_end (numbers_of first) (numbers_of p) (numbers_of q))
tangent_end first (Cubic p q r) = end_of (cubic_end (numbers_of first) (numbers_of p) (numbers_of q) (numbers_of r))

abbrev pub FinitePoint : Point → Type 0
FinitePoint p = Finite (numbers_of p)

abbrev pub FinitePoints : List Point → Type 0
FinitePoints [] = Unit {0}
FinitePoints (p ∷ ps) = FinitePoint p × FinitePoints ps

abbrev pub FiniteTangent : Option Point → Type 0
FiniteTangent None = Unit {0}
FiniteTangent (Some p) = FinitePoint p

-- over the point before it and its own points
unfoldable pub too_short : Point → Segment → Bool
too_short last s = short (numbers_of last) (map numbers_of (points_of s))

-- bit for bit
unfoldable pub same_point : Point → Point → Bool
same_point p q = p.x == q.x && p.y == q.y

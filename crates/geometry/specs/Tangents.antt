-- When two points are far apart, and where a start tangent ends.
use Rattle.std.specs.Prelude.{Bool, false, cond, ◌||◌, T, Some, None, Option, from_bits, Float}
use Rattle.std.specs.Float.Ieee.{add, sub, mul, div, lt}
use Rattle.std.specs.Float.{float_is_finite, float_is_infinite, float_with_sign, binary32}

-- a point by its x and y
abbrev pub Coordinates : Type 0
Coordinates = Float × Float

-- the f32 nearest 1e-12
abbrev pub epsilon : Float
epsilon = from_bits binary32 0x2b8cbccc

-- the f32 quotient 1/3
abbrev pub third : Float
third = div binary32 (from_bits binary32 0x3f800000) (from_bits binary32 0x40400000)

-- the absolute difference exceeds epsilon
abbrev pub apart : Float → Float → Bool
apart a b = lt epsilon (float_with_sign false (sub binary32 a b))

-- in x or in y
abbrev pub far : Coordinates → Coordinates → Bool
far p q = apart p.0 q.0 || apart p.1 q.1

-- a third of a - b, taken of each term where the difference overflows
abbrev pub third_of : Float → Float → Float
third_of a b = cond (float_is_infinite (sub binary32 a b)) (sub binary32 (mul binary32 third a) (mul binary32 third b)) (mul binary32 third (sub binary32 a b))

-- from p a third of the way to q
abbrev pub third_to : Float → Float → Float
third_to p q = add binary32 p (third_of q p)

abbrev pub third_towards : Coordinates → Coordinates → Coordinates
third_towards p q = (third_to p.0 q.0, third_to p.1 q.1)

-- The tangent's end of a segment from p0: none if no other point is far from p0.
abbrev pub line_end : Coordinates → Coordinates → Option Coordinates
line_end p0 p1 = cond (far p1 p0) (Some (third_towards p0 p1)) None

abbrev pub quad_end : Coordinates → Coordinates → Coordinates → Option Coordinates
quad_end p0 p1 p2 = cond (far p1 p0) (Some (third_towards p1 p0)) (cond (far p2 p0) (Some (third_towards p1 p2)) None)

abbrev pub cubic_end : Coordinates → Coordinates → Coordinates → Coordinates → Option Coordinates
cubic_end p0 p1 p2 p3 = cond (far p1 p0) (Some p1) (cond (far p2 p0) (Some p2) (cond (far p3 p0) (Some p3) None))

abbrev pub Finite : Coordinates → Type 0
Finite p = T (float_is_finite p.0) × T (float_is_finite p.1)

abbrev pub FiniteEnd : Option Coordinates → Type 0
FiniteEnd None = Unit {0}
FiniteEnd (Some p) = Finite p

-- Written as a point, the end of a tangent is finite where the segment's points are.
use Rattle.std.proofs.Common.{◌≡◌, Bool, true, false, cond, T, Some, None, Option, sym, subst}
use lib.Ieee.{Float, fits, binary32, of_bits, to_bits}
use lib.Ieee.Bits.{of_bits-to_bits, of_bits-fits}
use lib.Ieee.Fits.{add-fits}
use Rattle.std.specs.Float.{float_is_finite}
use Rattle.geometry.specs.declared.points.Point.{Point}
use Rattle.geometry.specs.declared.points.Segment.{Segment}
use Rattle.geometry.specs.declared.points.Segment.TheVariants.{Line, Quad, Cubic}
use Rattle.geometry.specs.Tangents.{Coordinates, far, third_to, third_towards}
use Rattle.geometry.specs.Segments.{numbers_of, points_of, end_of, tangent_end, FinitePoint, FinitePoints, FiniteTangent}
use Rattle.geometry.proofs.Thirds.{stays_finite}

-- a finite number stays finite through its pattern
kept : (x : Float) → T (fits binary32 x) → T (float_is_finite x) → T (float_is_finite (of_bits binary32 (to_bits binary32 x)))
kept x f t = subst (λ (z : Float). T (float_is_finite z)) (sym (of_bits-to_bits binary32 x f)) t

towards : (p q : Point) → FinitePoint p → FinitePoint q → FiniteTangent (end_of (Some (third_towards (numbers_of p) (numbers_of q))))
towards p q f g = (
  kept (third_to (of_bits binary32 p.x) (of_bits binary32 q.x)) (add-fits binary32 _ _) (stays_finite _ _ (of_bits-fits binary32 p.x) (of_bits-fits binary32 q.x) f.0 g.0),
  kept (third_to (of_bits binary32 p.y) (of_bits binary32 q.y)) (add-fits binary32 _ _) (stays_finite _ _ (of_bits-fits binary32 p.y) (of_bits-fits binary32 q.y) f.1 g.1),
)

there : (p : Point) → FinitePoint p → FiniteTangent (end_of (Some (numbers_of p)))
there p f = (kept (of_bits binary32 p.x) (of_bits-fits binary32 p.x) f.0, kept (of_bits binary32 p.y) (of_bits-fits binary32 p.y) f.1)

-- whichever point is chosen
either : (b : Bool) (p : Coordinates) (o : Option Coordinates) → FiniteTangent (end_of (Some p)) → FiniteTangent (end_of o) → FiniteTangent (end_of (cond b (Some p) o))
either true p o f g = f
either false p o f g = g

tangent_finite : (first : Point) (s : Segment) → FinitePoint first → FinitePoints (points_of s) → FiniteTangent (tangent_end first s)
unfolding tangent_end
tangent_finite first (Line p) f g =
    either (far (numbers_of p) (numbers_of first)) (third_towards (numbers_of first) (numbers_of p)) None (towards first p f g.0) tt
tangent_finite first (Quad p q) f g =
    either (far (numbers_of p) (numbers_of first)) (third_towards (numbers_of p) (numbers_of first)) (cond (far (numbers_of q) (numbers_of first)) (Some (third_towards (numbers_of p) (numbers_of q))) None) (towards p first g.0 f)
    (either (far (numbers_of q) (numbers_of first)) (third_towards (numbers_of p) (numbers_of q)) None (towards p q g.0 g.1.0) tt)
tangent_finite first (Cubic p q r) f g =
    either (far (numbers_of p) (numbers_of first)) (numbers_of p) (cond (far (numbers_of q) (numbers_of first)) (Some (numbers_of q)) (cond (far (numbers_of r) (numbers_of first)) (Some (numbers_of r)) None)) (there p g.0)
    (either (far (numbers_of q) (numbers_of first)) (numbers_of q) (cond (far (numbers_of r) (numbers_of first)) (Some (numbers_of r)) None) (there q g.1.0)
    (either (far (numbers_of r) (numbers_of first)) (numbers_of r) None (there r g.1.1.0) tt))

pub stays : (r : Option Point) (first : Point) (s : Segment) → r ≡ tangent_end first s → FinitePoint first → FinitePoints (points_of s) → FiniteTangent r
stays r first s e f g = subst FiniteTangent (sym e) (tangent_finite first s f g)

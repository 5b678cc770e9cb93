-- Worked examples of tangents and of short segments.
use Rattle.std.specs.Prelude.{◌≡◌, ℕ, true, false, Some, to_bits}
use Rattle.std.specs.Float.{binary32}
use Rattle.geometry.specs.declared.points.Point.{Point}
use Rattle.geometry.specs.declared.points.Segment.TheVariants.{Line}
use Rattle.geometry.specs.Tangents.{third}
use Rattle.geometry.specs.Segments.{tangent_end, too_short}

abbrev pub at : ℕ → ℕ → Point
at x y = record { x = x; y = y }

-- from 0, 0 a line to epsilon, 0 is too short, and one to the next number is not
abbrev pub Dropped : Type 0
Dropped = too_short (at 0 0) (Line (at 0x2b8cbccc 0)) ≡ true

abbrev pub Kept : Type 0
Kept = too_short (at 0 0) (Line (at 0x2b8cbccd 0)) ≡ false

abbrev pub Third : Type 0
Third = to_bits binary32 third ≡ 0x3eaaaaab

-- the tangent from 0, 0 to 3, 0 ends at 1, 0
abbrev pub Tangent : Type 0
Tangent = tangent_end (at 0 0) (Line (at 0x40400000 0)) ≡ Some (at 0x3f800000 0)

-- between the largest numbers of both signs the difference overflows
abbrev pub Overflow : Type 0
Overflow = tangent_end (at 0xff7fffff 0) (Line (at 0x7f7fffff 0)) ≡ Some (at 0xfeaaaaaa 0)

-- from 0, 0 to twice epsilon, 0 there is a tangent, but a line to its end is too short
abbrev pub Hairline : Type 0
Hairline = tangent_end (at 0 0) (Line (at 0x2c0cbccc 0)) ≡ Some (at 0x2b3ba666 0)

abbrev pub NoMarker : Type 0
NoMarker = too_short (at 0 0) (Line (at 0x2b3ba666 0)) ≡ true

-- a NaN in the last x is left out, and an infinity stays
abbrev pub NanLeftOut : Type 0
NanLeftOut = too_short (at 0x7fc00000 0) (Line (at 0x3f800000 0)) ≡ true

abbrev pub InfinityStays : Type 0
InfinityStays = too_short (at 0x7f800000 0) (Line (at 0x3f800000 0)) ≡ false

pub record Worked : Type 0 where
  pub dropped : Dropped
  pub kept : Kept
  pub third-is : Third
  pub tangent : Tangent
  pub overflow : Overflow
  pub hairline : Hairline
  pub no_marker : NoMarker
  pub nan_left_out : NanLeftOut
  pub infinity_stays : InfinityStays

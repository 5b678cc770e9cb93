-- When a segment is too short to keep: neither its extent in x nor that in y exceeds epsilon.
use Rattle.std.specs.Prelude.{◌≡◌, Bool, not, ◌||◌, T, ◌⊎◌, List, [], ◌∷◌, is_nan, Float}
use Rattle.std.specs.Float.Ieee.{sub, lt, le}
use Rattle.std.specs.Float.{float_min, float_max, binary32}
use Rattle.geometry.specs.Tangents.{Coordinates, epsilon}

-- of m and the numbers in a list; a NaN is left out
abbrev pub greatest : Float → List Float → Float
greatest m [] = m
greatest m (x ∷ xs) = greatest (float_max m x) xs

abbrev pub smallest : Float → List Float → Float
smallest m [] = m
smallest m (x ∷ xs) = smallest (float_min m x) xs

abbrev pub wide : Float → List Float → Bool
wide m xs = lt epsilon (sub binary32 (greatest m xs) (smallest m xs))

abbrev pub xs_of : List Coordinates → List Float
xs_of [] = []
xs_of (p ∷ ps) = p.0 ∷ xs_of ps

abbrev pub ys_of : List Coordinates → List Float
ys_of [] = []
ys_of (p ∷ ps) = p.1 ∷ ys_of ps

-- over the point p and a segment's own points
abbrev pub short : Coordinates → List Coordinates → Bool
short p ps = not (wide p.0 (xs_of ps) || wide p.1 (ys_of ps))

-- ---- what the greatest and the smallest are

abbrev pub In : Float → List Float → Type 0
In x [] = ⊥
In x (y ∷ ys) = (x ≡ y) ⊎ In x ys

-- m is one of them, and none that is a number exceeds it
pub record Largest (xs : List Float) (m : Float) : Type 0 where
  pub one : In m xs
  pub above : (x : Float) → In x xs → T (not (is_nan x)) → T (le x m)

pub record Least (xs : List Float) (m : Float) : Type 0 where
  pub one : In m xs
  pub below : (x : Float) → In x xs → T (not (is_nan x)) → T (le m x)

abbrev pub Extremes : Float → List Float → Type 0
Extremes m xs = Largest (m ∷ xs) (greatest m xs) × Least (m ∷ xs) (smallest m xs)

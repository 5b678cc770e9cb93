-- Numbers by their patterns, and numbers compared as numbers.
use Rattle.std.specs.Prelude.{◌≡◌, ℕ, Bool, true, false, cond, ◌&&◌, T, List, [], ◌∷◌, Some, None, Option, from_bits, to_bits, Float}
use Rattle.std.specs.Float.Ieee.{fits, eq, nan_bits}
use Rattle.std.specs.Float.{float_is_finite, binary32}

-- none for a NaN's pattern
abbrev pub number_at : ℕ → Option Float
number_at b = cond (nan_bits binary32 b) None (Some (from_bits binary32 b))

unfoldable pub all_finite : List Float → Bool
all_finite [] = true
all_finite (x ∷ xs) = float_is_finite x && all_finite xs

-- 0.0 equals -0.0, and a NaN equals nothing
abbrev pub same_number : Float → Float → Bool
same_number a b = eq a b

-- of one length, and equal place by place
unfoldable pub same_numbers : List Float → List Float → Bool
same_numbers [] [] = true
same_numbers [] (y ∷ ys) = false
same_numbers (x ∷ xs) [] = false
same_numbers (x ∷ xs) (y ∷ ys) = same_number x y && same_numbers xs ys

-- What the comparison tells of finite numbers of f32.
pub record ComparedAsNumbers : Type 0 where
  pub itself : (x : Float) → T (float_is_finite x) → same_number x x ≡ true
  pub themselves : (xs : List Float) → all_finite xs ≡ true → same_numbers xs xs ≡ true
  -- but for zero, equal numbers have one pattern
  pub one_pattern : (x y : Float) → T (fits binary32 x) → T (fits binary32 y) → T (float_is_finite x) → T (float_is_finite y)
      → same_number x (from_bits binary32 0) ≡ false → same_number x y ≡ true → to_bits binary32 x ≡ to_bits binary32 y

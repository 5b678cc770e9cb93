-- Lists of numbers, tested one by one.
use Rattle.std.proofs.Common.{◌≡◌, Bool, true, false, not, ◌&&◌, T, List, [], ◌∷◌, refl, ap, ◌∙◌, subst}
use lib.Ieee.{Float, eq}
use lib.Pointwise.{pointwise}
use Rattle.std.specs.List.{list_all}
use Rattle.std.specs.Float.{float_is_finite}
use Rattle.geometry.specs.Numbers.{all_finite, same_number, same_numbers}

pub each_finite : (xs : List Float) → list_all float_is_finite xs ≡ all_finite xs
unfolding all_finite
each_finite [] = refl
each_finite (x ∷ xs) = ap (λ (b : Bool). float_is_finite x && b) (each_finite xs)

pub each_same : (xs ys : List Float) → pointwise eq xs ys ≡ same_numbers xs ys
unfolding same_numbers
each_same [] [] = refl
each_same [] (y ∷ ys) = refl
each_same (x ∷ xs) [] = refl
each_same (x ∷ xs) (y ∷ ys) = ap (λ (b : Bool). eq x y && b) (each_same xs ys)

-- ---- the laws of lists

pub themselves : ((x : Float) → float_is_finite x ≡ true → same_number x x ≡ true) → (xs : List Float) → all_finite xs ≡ true → same_numbers xs xs ≡ true
unfolding all_finite same_numbers
themselves one [] e = refl
themselves one (x ∷ xs) e =
    ap (λ (b : Bool). b && same_numbers xs xs) (one x (left (float_is_finite x) (all_finite xs) e)) ∙ themselves one xs (right (float_is_finite x) (all_finite xs) e)
  where
    left : (a b : Bool) → (a && b) ≡ true → a ≡ true
    left true b h = refl
    left false b h = h

    right : (a b : Bool) → (a && b) ≡ true → b ≡ true
    right true b h = h
    right false b h = absurd (subst (λ (z : Bool). T (not z)) h tt)

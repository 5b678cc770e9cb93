-- The greatest and the smallest of a list are what their names say.
use Rattle.std.proofs.Common.{◌≡◌, Bool, true, false, cond, not, ◌||◌, T, ◌⊎◌, List, [], ◌∷◌, sym, refl, ◌∙◌, subst, inl, inr}
use lib.Ieee.{Float, le, is_nan}
use Rattle.std.specs.Float.Order.{le_refl, le_trans, le_left, le_right, le_of_lt, lt_of_not-le}
use Rattle.std.specs.Float.{float_min, float_max}
use Rattle.geometry.specs.Extents.{In, Largest, Least, greatest, smallest, Extremes}

or_left : (a b : Bool) → (a || b) ≡ true → T (not b) → T a
or_left true b e t = tt
or_left false true e t = t
or_left false false e t = subst (λ (z : Bool). T z) (sym e) tt

neither : (a b : Bool) → (a || b) ≡ false → T (not a) × T (not b)
neither true b e = absurd (subst (λ (z : Bool). T z) e tt)
neither false true e = absurd (subst (λ (z : Bool). T z) e tt)
neither false false e = (tt, tt)

record Up (m x r : Float) : Type 0 where
  first : T (not (is_nan m)) → T (le m r)
  second : T (not (is_nan x)) → T (le x r)
  which : (r ≡ m) ⊎ (r ≡ x)

up : (m x : Float) → Up m x (float_max m x)
up m x = go (le x m || is_nan x) refl
  where
    go : (b : Bool) → (le x m || is_nan x) ≡ b → Up m x (cond b m x)
    go true e = record { first = le_refl m; second = λ n. or_left (le x m) (is_nan x) e n; which = inl refl }
    go false e = record {
      first = λ n. le_of_lt m x (lt_of_not-le x m (neither (le x m) (is_nan x) e).1 n (neither (le x m) (is_nan x) e).0);
      second = le_refl x;
      which = inr refl;
    }

record Down (m x r : Float) : Type 0 where
  first : T (not (is_nan m)) → T (le r m)
  second : T (not (is_nan x)) → T (le r x)
  which : (r ≡ m) ⊎ (r ≡ x)

down : (m x : Float) → Down m x (float_min m x)
down m x = go (le m x || is_nan x) refl
  where
    go : (b : Bool) → (le m x || is_nan x) ≡ b → Down m x (cond b m x)
    go true e = record { first = le_refl m; second = λ n. or_left (le m x) (is_nan x) e n; which = inl refl }
    go false e = record {
      first = λ n. le_of_lt x m (lt_of_not-le m x n (neither (le m x) (is_nan x) e).1 (neither (le m x) (is_nan x) e).0);
      second = le_refl x;
      which = inr refl;
    }

widen : (r m x g : Float) (xs : List Float) → (r ≡ m) ⊎ (r ≡ x) → In g (r ∷ xs) → In g (m ∷ x ∷ xs)
widen r m x g xs w (inr i) = inr (inr i)
widen r m x g xs (inl e) (inl i) = inl (i ∙ e)
widen r m x g xs (inr e) (inl i) = inr (inl (i ∙ e))

largest_more : (m x g : Float) (xs : List Float) → Largest (float_max m x ∷ xs) g → Largest (m ∷ x ∷ xs) g
largest_more m x g xs rest = record { one = widen (float_max m x) m x g xs u.which rest.one; above = here }
  where
    u : Up m x (float_max m x)
    u = up m x

    past : (y : Float) → T (le y (float_max m x)) → T (le y g)
    past y h = le_trans y (float_max m x) g h (rest.above (float_max m x) (inl refl) (le_right y (float_max m x) h))

    here : (y : Float) → In y (m ∷ x ∷ xs) → T (not (is_nan y)) → T (le y g)
    here y (inl e) n = past y (subst (λ (z : Float). T (le z (float_max m x))) (sym e) (u.first (subst (λ (z : Float). T (not (is_nan z))) e n)))
    here y (inr (inl e)) n = past y (subst (λ (z : Float). T (le z (float_max m x))) (sym e) (u.second (subst (λ (z : Float). T (not (is_nan z))) e n)))
    here y (inr (inr i)) n = rest.above y (inr i) n

largest : (m : Float) (xs : List Float) → Largest (m ∷ xs) (greatest m xs)
largest m [] = record { one = inl refl; above = here }
  where
    here : (y : Float) → In y (m ∷ []) → T (not (is_nan y)) → T (le y m)
    here y (inl e) n = subst (λ (z : Float). T (le y z)) e (le_refl y n)
    here y (inr i) n = absurd i
largest m (x ∷ xs) = largest_more m x (greatest (float_max m x) xs) xs (largest (float_max m x) xs)

lowest_more : (m x g : Float) (xs : List Float) → Least (float_min m x ∷ xs) g → Least (m ∷ x ∷ xs) g
lowest_more m x g xs rest = record { one = widen (float_min m x) m x g xs u.which rest.one; below = here }
  where
    u : Down m x (float_min m x)
    u = down m x

    past : (y : Float) → T (le (float_min m x) y) → T (le g y)
    past y h = le_trans g (float_min m x) y (rest.below (float_min m x) (inl refl) (le_left (float_min m x) y h)) h

    here : (y : Float) → In y (m ∷ x ∷ xs) → T (not (is_nan y)) → T (le g y)
    here y (inl e) n = past y (subst (λ (z : Float). T (le (float_min m x) z)) (sym e) (u.first (subst (λ (z : Float). T (not (is_nan z))) e n)))
    here y (inr (inl e)) n = past y (subst (λ (z : Float). T (le (float_min m x) z)) (sym e) (u.second (subst (λ (z : Float). T (not (is_nan z))) e n)))
    here y (inr (inr i)) n = rest.below y (inr i) n

lowest : (m : Float) (xs : List Float) → Least (m ∷ xs) (smallest m xs)
lowest m [] = record { one = inl refl; below = here }
  where
    here : (y : Float) → In y (m ∷ []) → T (not (is_nan y)) → T (le m y)
    here y (inl e) n = subst (λ (z : Float). T (le z y)) e (le_refl y n)
    here y (inr i) n = absurd i
lowest m (x ∷ xs) = lowest_more m x (smallest (float_min m x) xs) xs (lowest (float_min m x) xs)

pub extremes : (m : Float) (xs : List Float) → Extremes m xs
extremes m xs = (largest m xs, lowest m xs)

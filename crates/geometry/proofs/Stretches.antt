-- A point that is far from the first makes a segment long, and for a line this is all.
use Rattle.std.proofs.Common.{◌≡◌, ℕ, zero, suc, ◌<◌, Bool, true, false, cond, not, ◌||◌, T, ◌⊎◌, List, [], ◌∷◌, length, map, get_or, negsuc, sym, refl, ap, ◌∙◌, subst, inl, inr, arith}
use lib.Ieee.{Float, nan, inf, fin, binary32, neg, add, sub, lt, eq, le, is_nan}
use lib.Ieee.Bits.{is_true}
use Rattle.std.specs.List.{fold}
use Rattle.std.specs.Float.{float_is_finite, float_with_sign, float_min, float_max}
use Rattle.geometry.specs.declared.extents.Extent.{Extent}
use Rattle.geometry.specs.Tangents.{Coordinates, epsilon, apart, far}
use Rattle.geometry.specs.Extents.{In, Extremes, greatest, smallest, wide, short, xs_of, ys_of}
use Rattle.geometry.proofs.Epsilon.{epsilon-is}
use Rattle.geometry.proofs.Extremes.{extremes}
use Rattle.geometry.proofs.Differences.{finite_stretch, either_way, no_distance}

-- ---- numbers and infinities

no_nan_exceeds : T (lt epsilon nan) → ⊥
unfolding lt
no_nan_exceeds t = subst (λ (e : Float). T (lt e nan)) epsilon-is t

infinity_exceeds : T (lt epsilon (inf false))
unfolding lt
infinity_exceeds = subst (λ (e : Float). T (lt e (inf false))) (sym epsilon-is) tt

under_low : (x : Float) → T (le x (inf true)) → x ≡ inf true
unfolding le lt eq
under_low nan t = absurd t
under_low (inf true) t = refl
under_low (inf false) t = absurd t
under_low (fin s m e) t = absurd t

over_high : (x : Float) → T (le (inf false) x) → x ≡ inf false
unfolding le lt eq
over_high nan t = absurd t
over_high (inf true) t = absurd t
over_high (inf false) t = refl
over_high (fin s m e) t = absurd t

between : (x : Float) (s t : Bool) (m n : _) (e d : _) → T (le x (fin s m e)) → T (le (fin t n d) x) → T (float_is_finite x)
unfolding le lt eq float_is_finite
between nan s t m n e d h l = absurd h
between (inf true) s t m n e d h l = absurd l
between (inf false) s t m n e d h l = absurd h
between (fin i k f) s t m n e d h l = tt

same_infinity : (s : Bool) → T (apart (inf s) (inf s)) → ⊥
unfolding sub add neg float_with_sign
same_infinity true t = no_nan_exceeds t
same_infinity false t = no_nan_exceeds t

-- what is far from something is a number
numbers : (x y : Float) → T (apart x y) → T (not (is_nan x)) × T (not (is_nan y))
unfolding sub add neg float_with_sign is_nan
numbers nan y t = absurd (no_nan_exceeds t)
numbers (inf s) nan t = absurd (no_nan_exceeds t)
numbers (fin s m e) nan t = absurd (no_nan_exceeds t)
numbers (inf s) (inf i) t = (tt, tt)
numbers (inf s) (fin i n d) t = (tt, tt)
numbers (fin s m e) (inf i) t = (tt, tt)
numbers (fin s m e) (fin i n d) t = (tt, tt)

-- two numbers, and what holds both
record Held (x y g s : Float) : Type 0 where
  apart_is : T (apart x y)
  x_under : T (le x g)
  y_under : T (le y g)
  x_over : T (le s x)
  y_over : T (le s y)

nan_above : (x : Float) → T (le x nan) → ⊥
unfolding le lt eq
nan_above nan t = t
nan_above (inf s) t = t
nan_above (fin s m e) t = t

nan_below : (x : Float) → T (le nan x) → ⊥
unfolding le lt eq
nan_below x t = t

not_over : (s : Bool) (m : _) (e : _) → T (le (inf false) (fin s m e)) → ⊥
unfolding le lt eq
not_over s m e t = t

at-end : (x y : Float) (s : Bool) → x ≡ inf s → y ≡ inf s → T (apart x y) → ⊥
at-end x y s p q t = same_infinity s (subst (λ (z : Float). T (apart (inf s) z)) q (subst (λ (z : Float). T (apart z y)) p t))

stretch : (x y g s : Float) → Held x y g s → T (lt epsilon (sub binary32 g s))
unfolding sub add neg float_is_finite
stretch x y nan s h = absurd (nan_above x h.x_under)
stretch x y (inf true) s h = absurd (at-end x y true (under_low x h.x_under) (under_low y h.y_under) h.apart_is)
stretch x y (inf false) nan h = absurd (nan_below x h.x_over)
stretch x y (inf false) (inf false) h = absurd (at-end x y false (over_high x h.x_over) (over_high y h.y_over) h.apart_is)
stretch x y (inf false) (inf true) h = infinity_exceeds
stretch x y (inf false) (fin t n d) h = infinity_exceeds
stretch x y (fin r m e) nan h = absurd (nan_below x h.x_over)
stretch x y (fin r m e) (inf false) h = absurd (not_over r m e (subst (λ (z : Float). T (le z (fin r m e))) (over_high x h.x_over) h.x_under))
stretch x y (fin r m e) (inf true) h = infinity_exceeds
stretch x y (fin r m e) (fin t n d) h =
    finite_stretch x y (fin r m e) (fin t n d) (between x r t m n e d h.x_under h.x_over) (between y r t m n e d h.y_under h.y_over) tt tt h.apart_is h.x_under h.y_under h.x_over h.y_over

-- ---- over a list

wide_of : (m x : Float) (xs : List Float) → In x xs → T (apart x m) → T (wide m xs)
wide_of m x xs i h =
    let e : Extremes m xs = extremes m xs in
    let n : T (not (is_nan x)) × T (not (is_nan m)) = numbers x m h in
    stretch x m (greatest m xs) (smallest m xs) record {
      apart_is = h;
      x_under = e.0.above x (inr i) n.0;
      y_under = e.0.above m (inl refl) n.1;
      x_over = e.1.below x (inr i) n.0;
      y_over = e.1.below m (inl refl) n.1;
    }

one_of : (a b : Bool) → (a || b) ≡ true → (a ≡ true) ⊎ (b ≡ true)
one_of true b e = inl refl
one_of false b e = inr e

none_or : (a b : Bool) → (a ≡ true) ⊎ (b ≡ true) → false ≡ not (a || b)
none_or true b w = refl
none_or false true w = refl
none_or false false (inl e) = e
none_or false false (inr e) = e

held_true : (b : Bool) → b ≡ true → T b
held_true b e = subst T (sym e) tt

in_x : (ps : List Coordinates) (i : ℕ) (d : Coordinates) → i < length ps → In (get_or ps i d).0 (xs_of ps)
in_x [] i d h = absurd (omega arith)
in_x (p ∷ ps) zero d h = inl refl
in_x (p ∷ ps) (suc i) d h = inr (in_x ps i d (omega arith))

in_y : (ps : List Coordinates) (i : ℕ) (d : Coordinates) → i < length ps → In (get_or ps i d).1 (ys_of ps)
in_y [] i d h = absurd (omega arith)
in_y (p ∷ ps) zero d h = inl refl
in_y (p ∷ ps) (suc i) d h = inr (in_y ps i d (omega arith))

-- a number of x and one of y that are far, of one point or of two, make it long
pub long : (p q : Coordinates) (ps : List Coordinates) → In q.0 (xs_of ps) → In q.1 (ys_of ps) → far q p ≡ true → false ≡ short p ps
long p q ps ix iy h =
    none_or (wide p.0 (xs_of ps)) (wide p.1 (ys_of ps))
    (elim (one_of (apart q.0 p.0) (apart q.1 p.1) h) [
      | inl e ↦ inl (is_true _ (wide_of p.0 q.0 (xs_of ps) ix (held_true _ e)))
      | inr e ↦ inr (is_true _ (wide_of p.1 q.1 (ys_of ps) iy (held_true _ e)))
    ])

pub long_at : (p : Coordinates) (ps : List Coordinates) (i : ℕ) (d : Coordinates) → i < length ps → far (get_or ps i d) p ≡ true → false ≡ short p ps
long_at p ps i d l h = long p (get_or ps i d) ps (in_x ps i d l) (in_y ps i d l) h

-- ---- a line

bare : (z : Float) → T (lt (fin false 2305843 (negsuc 60)) z) → T (lt (fin false 2305843 (negsuc 60)) (float_with_sign false z))
unfolding lt float_with_sign
bare nan h = h
bare (inf false) h = h
bare (inf true) h = absurd h
bare (fin false m e) h = h
bare (fin true m e) h = absurd h

sized : (z : Float) → T (lt epsilon z) → T (lt epsilon (float_with_sign false z))
sized z h = subst (λ (e : Float). T (lt e (float_with_sign false z))) (sym epsilon-is) (bare z (subst (λ (e : Float). T (lt e z)) epsilon-is h))

not_itself : (x : Float) → T (lt epsilon (sub binary32 x x)) → ⊥
unfolding float_is_finite is_nan
not_itself nan h = (numbers nan nan (sized _ h)).0
not_itself (inf s) h = same_infinity s (sized _ h)
not_itself (fin s m e) h = no_distance (fin s m e) tt (sized _ h)

turned : (x y : Float) → T (apart x y) → T (apart y x)
unfolding float_is_finite is_nan sub add neg float_with_sign
turned nan y h = absurd (numbers nan y h).0
turned (inf s) nan h = absurd (numbers (inf s) nan h).1
turned (inf true) (inf true) h = absurd (same_infinity true h)
turned (inf true) (inf false) h = infinity_exceeds
turned (inf false) (inf true) h = infinity_exceeds
turned (inf false) (inf false) h = absurd (same_infinity false h)
turned (inf s) (fin t n d) h = infinity_exceeds
turned (fin s m e) nan h = absurd (numbers (fin s m e) nan h).1
turned (fin s m e) (inf t) h = infinity_exceeds
turned (fin s m e) (fin t n d) h = subst (λ (z : Float). T (lt epsilon z)) (either_way (fin s m e) (fin t n d) tt tt) h

apart_of : (m x : Float) → T (wide m (x ∷ [])) → T (apart x m)
apart_of m x h = go (le x m || is_nan x) (le m x || is_nan x) h
  where
    go : (a b : Bool) → T (lt epsilon (sub binary32 (cond a m x) (cond b m x))) → T (apart x m)
    go true true t = absurd (not_itself m t)
    go true false t = turned m x (sized _ t)
    go false true t = sized _ t
    go false false t = absurd (not_itself x t)

alike : (a b : Bool) → (T a → T b) → (T b → T a) → a ≡ b
alike true true h k = refl
alike true false h k = absurd (h tt)
alike false true h k = absurd (k tt)
alike false false h k = refl

in_one : (m x : Float) → apart x m ≡ wide m (x ∷ [])
in_one m x = alike (apart x m) (wide m (x ∷ [])) (wide_of m x (x ∷ []) (inl refl)) (apart_of m x)

pub by_its_ends : (p q : Coordinates) → not (far q p) ≡ short p (q ∷ [])
by_its_ends p q =
    ap (λ (z : Bool). not (z || apart q.1 p.1)) (in_one p.0 q.0) ∙ ap (λ (z : Bool). not (wide p.0 (q.0 ∷ []) || z)) (in_one p.1 q.1)

-- no point, and one that is not far
pub alone : (p : Coordinates) (ps : List Coordinates) → length ps < 1 → true ≡ short p ps
alone p [] l = neither (wide p.0 []) (wide p.1 []) (not_itself p.0) (not_itself p.1)
  where
    neither : (a b : Bool) → (T a → ⊥) → (T b → ⊥) → true ≡ not (a || b)
    neither true b h k = absurd (h tt)
    neither false true h k = absurd (k tt)
    neither false false h k = refl
alone p (q ∷ ps) l = absurd (omega arith)

pub near : (p : Coordinates) (ps : List Coordinates) (i : ℕ) (d : Coordinates) → length ps ≡ 1 → i < length ps → far (get_or ps i d) p ≡ false → true ≡ short p ps
near p [] i d l h e = absurd (omega arith)
near p (q ∷ []) zero d l h e = ap not (sym e) ∙ by_its_ends p q
near p (q ∷ []) (suc i) d l h e = absurd (omega arith)
near p (q ∷ r ∷ ps) i d l h e = absurd (omega arith)

-- ---- the extent in one pass

pub xs_pass : {A : Type 0} (v : A → Coordinates) (s : Extent) (qs : List A)
    → fold (λ (t : Extent) (q : A). record { least = float_min t.least (v q).0; greatest = float_max t.greatest (v q).0 }) s qs
    ≡ record { least = smallest s.least (xs_of (map v qs)); greatest = greatest s.greatest (xs_of (map v qs)) }
xs_pass v s [] = refl
xs_pass v s (q ∷ qs) = xs_pass v (record { least = float_min s.least (v q).0; greatest = float_max s.greatest (v q).0 }) qs

pub ys_pass : {A : Type 0} (v : A → Coordinates) (s : Extent) (qs : List A)
    → fold (λ (t : Extent) (q : A). record { least = float_min t.least (v q).1; greatest = float_max t.greatest (v q).1 }) s qs
    ≡ record { least = smallest s.least (ys_of (map v qs)); greatest = greatest s.greatest (ys_of (map v qs)) }
ys_pass v s [] = refl
ys_pass v s (q ∷ qs) = ys_pass v (record { least = float_min s.least (v q).1; greatest = float_max s.greatest (v q).1 }) qs

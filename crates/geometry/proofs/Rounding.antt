-- How far rounding to f32 goes, and when it gives a number.
use Rattle.std.proofs.Common.{◌≡◌, ℕ, suc, ◌+◌, ◌-◌, ◌*◌, ◌/◌, ◌%◌, ◌^◌, ◌<◌, ◌≤◌, Bool, true, false, cond, not, T, eqb, ltb, pos, sym, refl, ap, subst, inl, inr, mul-le-mul_right, mul_assoc, mul_comm, add-mul, mul-le-mul_left, one-mul, div-add-mod', mul_left_comm, arith, lit<, eqb→eq, ltb→lt, leb→le, pow_pos, pow-add}
use Prim.Native.Nat.{compare, Ordering}
use lib.Count.{count_trailing_zeros}
use lib.Arith.{lt_of_le-ne}
use lib.Dec.{is_le, compare_is_eq, nleb→lt, eqb_refl}
use lib.Ieee.{Float, inf, fin, binary32, span, climb, size, odd, units, round, lt, eq, le, nearest}
use lib.Ieee.Fits.{round_is}
use lib.Ieee.Exact.{units_val}
use lib.Ieee.Digits.{size_reaches}
use lib.Ieee.Nearest.{closest}
use lib.Ieee.Order.{drop, kept, round_mono}
use lib.Ieee.Scale.{grid, overflow}
use Rattle.std.specs.Float.{float_is_infinite}
use Rattle.math.proofs.Sizes.{two_ways}
use Rattle.geometry.proofs.Units.{most, mostU, Is}

abbrev Cmp : Ordering → ℕ → ℕ → Type 0
Cmp Ordering.lt a b = a < b
Cmp Ordering.eq a b = a ≡ b
Cmp Ordering.gt a b = b < a

cmp : (a b : ℕ) → Cmp (compare a b) a b
cmp a b = go (compare a b) (leb→le a b) (nleb→lt a b) (eqb→eq a b) (λ (e : a ≡ b). subst (λ (x : ℕ). T (eqb a x)) e (eqb_refl a))
  where
    go : (o : Ordering) → (T (is_le o) → a ≤ b) → (T (not (is_le o)) → b < a) → (T (compare_is_eq o) → a ≡ b) → (a ≡ b → T (compare_is_eq o)) → Cmp o a b
    go Ordering.lt h k e n = lt_of_le-ne (h tt) n
    go Ordering.eq h k e n = e tt
    go Ordering.gt h k e n = k tt

closest_by : (n u : ℕ) (o : Ordering) → Cmp o (n % u * 2) u → 2 * (nearest (n / u) o * u) ≤ 2 * n + u
closest_by n u Ordering.lt c = omega (arith, div-add-mod' n u)
closest_by n u Ordering.eq c =
    let h : n / u + n / u % 2 ≤ n / u + 1 = omega arith in
    let a : (n / u + n / u % 2) * u ≤ (n / u + 1) * u = mul-le-mul_right u h in
    omega (arith, add-mul (n / u) 1 u, one-mul u, div-add-mod' n u)
closest_by n u Ordering.gt c =
    let e : suc (n / u) * u ≡ (n / u + 1) * u = ap (λ (z : ℕ). z * u) (omega arith) in
    omega (arith, add-mul (n / u) 1 u, one-mul u, div-add-mod' n u)

-- the unit is small against the number, or it is the least
unit_bound : (n c : ℕ) → 64 * (c * 2 ^ (size (n / c) - 24)) ≤ n + 64 * c
unit_bound n c =
    elim (two_ways (size (n / c)) 25) [
      | inl h ↦
          let z : size (n / c) - 24 ≡ 0 = omega arith in
          let e : c * 2 ^ (size (n / c) - 24) ≡ c * 1 = ap (λ (k : ℕ). c * 2 ^ k) z in
          omega arith
      | inr h ↦
          let k : size (n / c) - 24 + 23 < size (n / c) = omega arith in
          let r : 2 ^ (size (n / c) - 24 + 23) ≤ n / c = size_reaches (n / c) (size (n / c) - 24 + 23) k in
          let p : 2 ^ (size (n / c) - 24) * 2 ^ 23 ≤ n / c = subst (λ (z : ℕ). z ≤ n / c) (pow-add 2 (size (n / c) - 24) 23) r in
          let q : c * (2 ^ (size (n / c) - 24) * 2 ^ 23) ≤ c * (n / c) = mul-le-mul_left c p in
          omega (arith, mul_assoc c (2 ^ (size (n / c) - 24)) (2 ^ 23), mul_comm c (n / c), div-add-mod' n c)
    ]

pub grid_bound : (a c : ℕ) → 128 * (c * grid binary32 a c) ≤ 129 * (a * 2 ^ 149) + 64 * c
grid_bound a c = go (a * 2 ^ 149) (size (a * 2 ^ 149 / c) - 24) (closest (a * 2 ^ 149) (c * 2 ^ (size (a * 2 ^ 149 / c) - 24))) (closest_by (a * 2 ^ 149) (c * 2 ^ (size (a * 2 ^ 149 / c) - 24)) _ (cmp _ _)) (unit_bound (a * 2 ^ 149) c)
  where
    go : (n k q : ℕ) → 2 * (q * (c * 2 ^ k)) ≤ 2 * n + c * 2 ^ k → 64 * (c * 2 ^ k) ≤ n + 64 * c → 128 * (c * (q * 2 ^ k)) ≤ 129 * n + 64 * c
    go n k q x y = omega (arith, mul_left_comm c q (2 ^ k))

top_is : round binary32 false most 1 ≡ fin false 16777215 (pos 104)
unfolding count_trailing_zeros span climb size odd units round
top_is = refl

by_test : (b : Bool) (x : Float) → T (le (cond b x (inf false)) (fin false 16777215 (pos 104))) → T b
unfolding le lt eq
by_test true x t = tt
by_test false x t = t

units_under : (q k : ℕ) → T (le (units binary32 false q k) (fin false 16777215 (pos 104))) → q * 2 ^ k < overflow binary32
unfolding units
units_under q k t = ltb→lt (q * 2 ^ k) (overflow binary32) (by_test (ltb (q * 2 ^ k) (overflow binary32)) (odd 25 false q k 149) t)

-- what is at most the greatest number rounds to a number
pub round_unit : (s : Bool) (a c : ℕ) → 0 < c → a ≤ most * c → Is (round binary32 s a c) s (grid binary32 a c)
round_unit s a c p h =
    let m : a * 1 ≤ most * c = omega arith in
    let l : T (le (round binary32 false a c) (fin false 16777215 (pos 104))) = subst (λ (y : Float). T (le (round binary32 false a c) y)) top_is (round_mono binary32 a c most 1 p (lit< tt) m) in
    let t : grid binary32 a c < overflow binary32 = units_under (kept 24 (a * 2 ^ 149) c) (drop 24 (a * 2 ^ 149) c) (subst (λ (z : Float). T (le z (fin false 16777215 (pos 104)))) (round_is binary32 false a c) l) in
    subst (λ (z : Float). Is z s (grid binary32 a c)) (sym (round_is binary32 s a c)) (units_val binary32 s (kept 24 (a * 2 ^ 149) c) (drop 24 (a * 2 ^ 149) c) t)

infinite_test : (b s : Bool) (q k : ℕ) → (T b → q * 2 ^ k < overflow binary32) → float_is_infinite (cond b (odd 25 s q k 149) (inf s)) ≡ false → q * 2 ^ k < overflow binary32
unfolding float_is_infinite
infinite_test true s q k h e = h tt
infinite_test false s q k h e = absurd (subst (λ (z : Bool). T z) e tt)

units_finite : (s : Bool) (q k : ℕ) → float_is_infinite (units binary32 s q k) ≡ false → q * 2 ^ k < overflow binary32
unfolding units
units_finite s q k e = infinite_test (ltb (q * 2 ^ k) (overflow binary32)) s q k (ltb→lt (q * 2 ^ k) (overflow binary32)) e

-- what does not round to an infinity rounds to a number
pub round_finite : (s : Bool) (a c : ℕ) → float_is_infinite (round binary32 s a c) ≡ false → Is (round binary32 s a c) s (grid binary32 a c) × (grid binary32 a c < 2 ^ 277)
round_finite s a c e =
    let t : grid binary32 a c < overflow binary32 = units_finite s (kept 24 (a * 2 ^ 149) c) (drop 24 (a * 2 ^ 149) c) (subst (λ (z : Float). float_is_infinite z ≡ false) (round_is binary32 s a c) e) in
    (subst (λ (z : Float). Is z s (grid binary32 a c)) (sym (round_is binary32 s a c)) (units_val binary32 s (kept 24 (a * 2 ^ 149) c) (drop 24 (a * 2 ^ 149) c) t), t)

-- a sum or difference that is at most the greatest number, rounded
pub record Rounded (y : Float) (s : Bool) (k : ℕ) : Type 0 where
  pub size_is : ℕ
  pub is : Is y s size_is
  pub bound : 128 * size_is ≤ 129 * k + 64

pub rounded : (y : Float) (s : Bool) (k : ℕ) → y ≡ round binary32 s k (2 ^ 149) → k ≤ mostU → Rounded y s k
rounded y s k e h = record {
  size_is = grid binary32 k (2 ^ 149);
  is = subst (λ (z : Float). Is z s (grid binary32 k (2 ^ 149))) (sym e) (round_unit s k (2 ^ 149) (pow_pos 149) h);
  bound = scale (grid binary32 k (2 ^ 149)) (grid_bound k (2 ^ 149));
}
  where
    scale : (g : ℕ) → 128 * (2 ^ 149 * g) ≤ 129 * (k * 2 ^ 149) + 64 * 2 ^ 149 → 128 * g ≤ 129 * k + 64
    scale g b = omega arith

-- A tangent's end is finite where its points are.
use Rattle.std.proofs.Common.{◌≡◌, ℕ, ◌+◌, ◌-◌, ◌*◌, ◌^◌, ◌<◌, ◌≤◌, Bool, true, false, cond, not, T, leb, ◌⊎◌, negsuc, sym, refl, ap, ◌∙◌, subst, inl, inr, zero-le, mul_assoc, eq-or-lt_of_le, mul-pos, mul_left_comm, arith, pow_pos}
use lib.Count.{count_trailing_zeros}
use lib.Ieee.{Float, nan, inf, fin, binary32, up, down, span, climb, size, odd, units, round, neg, add, sub, mul, div, fits, of_fields, of_bits, to_bits, unlike}
use lib.Ieee.Fits.{down_pos}
use lib.Ieee.Scale.{grid, round_same}
use Rattle.std.specs.Float.{float_is_finite, float_is_infinite}
use Rattle.math.proofs.Sizes.{two_ways}
use Rattle.geometry.specs.Tangents.{third, third_of}
use Rattle.geometry.proofs.Units.{most, mostU, Is, finite_of, not_infinite, neg_is, add_same, add_more, add-less, add_even, sub_is, UnitOf, unit_of}
use Rattle.geometry.proofs.Rounding.{grid_bound, round_unit, round_finite, Rounded, rounded}

third-is : third ≡ fin false 11184811 (negsuc 24)
unfolding count_trailing_zeros span climb size odd units round div of_fields of_bits
third-is = refl

like : (s : Bool) → unlike false s ≡ s
like true = refl
like false = refl

third_fin : (y : Float) (s : Bool) (k : ℕ) → Is y s k → mul binary32 (fin false 11184811 (negsuc 24)) y ≡ round binary32 s (11184811 * k) (2 ^ 174)
unfolding mul
third_fin nan s k q = absurd q
third_fin (inf t) s k q = absurd q
third_fin (fin t l d) s k q =
    let e : 11184811 * (l * up d) * 2 ^ 174 ≡ 11184811 * k * (2 ^ 25 * down d) = omega (arith, q.1, mul_assoc 11184811 k (2 ^ 25 * down d), mul_left_comm k (2 ^ 25) (down d)) in
    ap (λ (z : Bool). round binary32 z (11184811 * (l * up d)) (2 ^ 25 * down d)) (like t ∙ q.0)
    ∙ round_same binary32 s (11184811 * (l * up d)) (2 ^ 25 * down d) (11184811 * k) (2 ^ 174) (mul-pos (pow_pos 25) (down_pos d)) (pow_pos 174) e

record Thirded (y : Float) (s : Bool) (k : ℕ) : Type 0 where
  size_is : ℕ
  is : Is y s size_is
  bound : 128 * 2 ^ 25 * size_is ≤ 129 * 11184811 * k + 64 * 2 ^ 25

third-step : (y : Float) (s : Bool) (k : ℕ) → Is y s k → k < 2 ^ 278 → Thirded (mul binary32 third y) s k
third-step y s k q h =
    let e : mul binary32 third y ≡ round binary32 s (11184811 * k) (2 ^ 174) = ap (λ (z : Float). mul binary32 z y) third-is ∙ third_fin y s k q in
    let l : 11184811 * k ≤ most * 2 ^ 174 = omega arith in
    record {
      size_is = grid binary32 (11184811 * k) (2 ^ 174);
      is = subst (λ (z : Float). Is z s (grid binary32 (11184811 * k) (2 ^ 174))) (sym e) (round_unit s (11184811 * k) (2 ^ 174) (pow_pos 174) l);
      bound = scale (grid binary32 (11184811 * k) (2 ^ 174)) (grid_bound (11184811 * k) (2 ^ 174));
    }
  where
    scale : (g : ℕ) → 128 * (2 ^ 174 * g) ≤ 129 * (11184811 * k * 2 ^ 149) + 64 * 2 ^ 174 → 128 * 2 ^ 25 * g ≤ 129 * 11184811 * k + 64 * 2 ^ 25
    scale g b = omega arith

same_finite : (p x : Float) (s : Bool) (n k : ℕ) → Is p s n → Is x s k → n + k ≤ mostU → T (float_is_finite (add binary32 p x))
same_finite p x s n k a b h =
    let r : Rounded (add binary32 p x) s (n + k) = rounded (add binary32 p x) s (n + k) (add_same (2 ^ 149) (pow_pos 149) p x s n k a b) h in
    finite_of (add binary32 p x) s r.size_is r.is

opposite_finite : (p x : Float) (s : Bool) (n k : ℕ) → Is p s n → Is x (not s) k → n ≤ mostU → k ≤ mostU → T (float_is_finite (add binary32 p x))
opposite_finite p x s n k a b h l =
    elim (two_ways n k) [
      | inl o ↦
          let m : k - n ≤ mostU = omega arith in
          let r : Rounded (add binary32 p x) (not s) (k - n) = rounded (add binary32 p x) (not s) (k - n) (add_more (2 ^ 149) (pow_pos 149) p x s n k a b o) m in
          finite_of (add binary32 p x) (not s) r.size_is r.is
      | inr o ↦
          elim (eq-or-lt_of_le o) [
            | inl e ↦
                let r : Rounded (add binary32 p x) false 0 = rounded (add binary32 p x) false 0 (add_even (2 ^ 149) (pow_pos 149) p x s n k a b (sym e)) zero-le in
                finite_of (add binary32 p x) false r.size_is r.is
            | inr g ↦
                let m : n - k ≤ mostU = omega arith in
                let r : Rounded (add binary32 p x) s (n - k) = rounded (add binary32 p x) s (n - k) (add-less (2 ^ 149) (pow_pos 149) p x s n k a b g) m in
                finite_of (add binary32 p x) s r.size_is r.is
          ]
    ]

by_sign : (p x : Float) (s : Bool) (n k : ℕ) → Is p s n → Is x false k → n + k ≤ mostU → T (float_is_finite (add binary32 p x))
by_sign p x false n k a b h = same_finite p x false n k a b h
by_sign p x true n k a b h = opposite_finite p x true n k a b (omega arith) (omega arith)

plain : (p q : Float) → float_is_infinite (sub binary32 q p) ≡ false → mul binary32 third (sub binary32 q p) ≡ third_of q p
plain p q e = sym (ap (λ (z : Bool). cond z (sub binary32 (mul binary32 third q) (mul binary32 third p)) (mul binary32 third (sub binary32 q p))) e)

-- with the third of the difference in hand
with_third : (p q : Float) (r : Bool) (g : ℕ) → Is (sub binary32 q p) r g → g < 2 ^ 278 → Thirded (third_of q p) r g
with_third p q r g d l = subst (λ (z : Float). Thirded z r g) (plain p q (not_infinite (sub binary32 q p) r g d)) (third-step (sub binary32 q p) r g d l)

alike : (p q : Float) (s : Bool) (n k : ℕ) → Is p s n → Is q s k → n ≤ mostU → k ≤ mostU → T (float_is_finite (add binary32 p (third_of q p)))
alike p q s n k a b h l =
    elim (two_ways n k) [
      | inl o ↦
          let m : k - n ≤ mostU = omega arith in
          let d : Rounded (sub binary32 q p) s (k - n) = rounded (sub binary32 q p) s (k - n) (sub_is q p ∙ add-less (2 ^ 149) (pow_pos 149) q (neg p) s k n b (neg_is (2 ^ 149) p s n a) o) m in
          let w : d.size_is < 2 ^ 278 = omega (arith, d.bound) in
          let t : Thirded (third_of q p) s d.size_is = with_third p q s d.size_is d.is w in
          same_finite p (third_of q p) s n t.size_is a t.is (omega (arith, d.bound, t.bound))
      | inr o ↦
          elim (eq-or-lt_of_le o) [
            | inl e ↦
                let d : Rounded (sub binary32 q p) false 0 = rounded (sub binary32 q p) false 0 (sub_is q p ∙ add_even (2 ^ 149) (pow_pos 149) q (neg p) s k n b (neg_is (2 ^ 149) p s n a) e) zero-le in
                let w : d.size_is < 2 ^ 278 = omega (arith, d.bound) in
                let t : Thirded (third_of q p) false d.size_is = with_third p q false d.size_is d.is w in
                by_sign p (third_of q p) s n t.size_is a t.is (omega (arith, d.bound, t.bound))
            | inr g ↦
                let m : n - k ≤ mostU = omega arith in
                let d : Rounded (sub binary32 q p) (not s) (n - k) = rounded (sub binary32 q p) (not s) (n - k) (sub_is q p ∙ add_more (2 ^ 149) (pow_pos 149) q (neg p) s k n b (neg_is (2 ^ 149) p s n a) g) m in
                let w : d.size_is < 2 ^ 278 = omega (arith, d.bound) in
                let t : Thirded (third_of q p) (not s) d.size_is = with_third p q (not s) d.size_is d.is w in
                opposite_finite p (third_of q p) s n t.size_is a t.is h (omega (arith, d.bound, t.bound))
          ]
    ]

opposed : (p q : Float) (s : Bool) (n k : ℕ) → Is p s n → Is q (not s) k → n ≤ mostU → k ≤ mostU → T (float_is_finite (add binary32 p (third_of q p)))
opposed p q s n k a b h l = go (float_is_infinite (sub binary32 q p)) refl
  where
    go : (i : Bool) → float_is_infinite (sub binary32 q p) ≡ i → T (float_is_finite (add binary32 p (third_of q p)))
    go false e =
        let d : sub binary32 q p ≡ round binary32 (not s) (k + n) (2 ^ 149) = sub_is q p ∙ add_same (2 ^ 149) (pow_pos 149) q (neg p) (not s) k n b (neg_is (2 ^ 149) p s n a) in
        let f : Is (round binary32 (not s) (k + n) (2 ^ 149)) (not s) (grid binary32 (k + n) (2 ^ 149)) × (grid binary32 (k + n) (2 ^ 149) < 2 ^ 277) = round_finite (not s) (k + n) (2 ^ 149) (subst (λ (z : Float). float_is_infinite z ≡ false) d e) in
        let w : grid binary32 (k + n) (2 ^ 149) < 2 ^ 278 = omega (arith, f.1) in
        let v : Is (sub binary32 q p) (not s) (grid binary32 (k + n) (2 ^ 149)) = subst (λ (z : Float). Is z (not s) (grid binary32 (k + n) (2 ^ 149))) (sym d) f.0 in
        let t : Thirded (third_of q p) (not s) (grid binary32 (k + n) (2 ^ 149)) = with_third p q (not s) (grid binary32 (k + n) (2 ^ 149)) v w in
        opposite_finite p (third_of q p) s n t.size_is a t.is h (omega (arith, f.1, t.bound))
    go true e =
        let x : Thirded (mul binary32 third q) (not s) k = third-step q (not s) k b (omega arith) in
        let y : Thirded (mul binary32 third p) s n = third-step p s n a (omega arith) in
        let c : third_of q p ≡ sub binary32 (mul binary32 third q) (mul binary32 third p) = ap (λ (z : Bool). cond z (sub binary32 (mul binary32 third q) (mul binary32 third p)) (mul binary32 third (sub binary32 q p))) e in
        let m : x.size_is + y.size_is ≤ mostU = omega (arith, x.bound, y.bound) in
        let d : Rounded (third_of q p) (not s) (x.size_is + y.size_is) = rounded (third_of q p) (not s) (x.size_is + y.size_is) (c ∙ sub_is (mul binary32 third q) (mul binary32 third p) ∙ add_same (2 ^ 149) (pow_pos 149) (mul binary32 third q) (neg (mul binary32 third p)) (not s) x.size_is y.size_is x.is (neg_is (2 ^ 149) (mul binary32 third p) s y.size_is y.is)) m in
        opposite_finite p (third_of q p) s n d.size_is a d.is h (omega (arith, d.bound, x.bound, y.bound))

signs : (s t : Bool) → (t ≡ s) ⊎ (t ≡ not s)
signs true true = inl refl
signs true false = inr refl
signs false true = inr refl
signs false false = inl refl

pub stays_finite : (p q : Float) → T (fits binary32 p) → T (fits binary32 q) → T (float_is_finite p) → T (float_is_finite q) → T (float_is_finite (add binary32 p (third_of q p)))
stays_finite p q fp fq tp tq = go (leb 0x80000000 (to_bits binary32 p)) (leb 0x80000000 (to_bits binary32 q)) _ _ a.is b.is a.bound b.bound
  where
    a : UnitOf p
    a = unit_of p fp tp

    b : UnitOf q
    b = unit_of q fq tq

    go : (s t : Bool) (n k : ℕ) → Is p s n → Is q t k → n ≤ mostU → k ≤ mostU → T (float_is_finite (add binary32 p (third_of q p)))
    go s t n k x y h l =
        elim (signs s t) [
          | inl e ↦ alike p q s n k x (subst (λ (z : Bool). Is q z k) e y) h l
          | inr e ↦ opposed p q s n k x (subst (λ (z : Bool). Is q z k) e y) h l
        ]

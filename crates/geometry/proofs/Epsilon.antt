-- The number that differences are compared with, and sizes compared with it.
use Rattle.std.proofs.Common.{◌≡◌, ℕ, ◌+◌, ◌*◌, ◌^◌, ◌≤◌, Bool, true, false, not, T, pos, negsuc, sym, refl, ap, ◌∙◌, subst, arith}
use lib.Count.{count_trailing_zeros}
use lib.Dec.{ltb, ltb→lt, nltb→le}
use lib.Ieee.{Float, nan, inf, fin, span, climb, size, odd, neg, lt, up, down, binary32, of_fields, of_bits}
use Rattle.std.specs.Float.{float_with_sign}
use Rattle.geometry.specs.Tangents.{epsilon}

pub epsilon-is : epsilon ≡ fin false 2305843 (negsuc 60)
unfolding count_trailing_zeros span climb size odd of_fields of_bits
epsilon-is = refl

zero-is : of_bits binary32 0 ≡ fin false 0 (pos 0)
unfolding count_trailing_zeros span climb size odd of_fields of_bits
zero-is = refl

no : false ≡ true → ⊥
no h = subst T (sym h) tt

none_below : (n : ℕ) → ltb n 0 ≡ false
none_below n = go (ltb n 0) refl
  where
    go : (b : Bool) → ltb n 0 ≡ b → ltb n 0 ≡ false
    go true e = absurd (omega (arith, ltb→lt n 0 (subst T (sym e) tt)))
    go false e = e

below_zero : (z : Float) → lt z (fin false 0 (pos 0)) ≡ true → lt (fin false 2305843 (negsuc 60)) (neg z) ≡ lt (fin false 2305843 (negsuc 60)) (float_with_sign false z)
unfolding lt neg float_with_sign
below_zero nan h = refl
below_zero (inf true) h = refl
below_zero (inf false) h = absurd (no h)
below_zero (fin true m e) h = refl
below_zero (fin false m e) h = absurd (omega (arith, ltb→lt _ _ (subst T (sym h) tt)))

not_below : (z : Float) → lt z (fin false 0 (pos 0)) ≡ false → lt (fin false 2305843 (negsuc 60)) z ≡ lt (fin false 2305843 (negsuc 60)) (float_with_sign false z)
unfolding lt neg float_with_sign
not_below nan h = refl
not_below (inf false) h = refl
not_below (inf true) h = absurd (no (sym h))
not_below (fin false m e) h = refl
not_below (fin true m e) h =
    let k : m * up e * 1 + 0 * 1 * down e ≤ 0 = nltb→le _ _ (subst (λ (b : Bool). T (not b)) (sym h) tt) in
    let w : m * up e ≡ 0 = omega arith in
    sym (ap (λ (n : ℕ). ltb (2305843 * 1 * down e) (n * 2 ^ 61)) w ∙ none_below (2305843 * 1 * down e))

pub turned : (z : Float) → lt z (of_bits binary32 0) ≡ true → lt epsilon (neg z) ≡ lt epsilon (float_with_sign false z)
turned z h = subst (λ (e : Float). lt e (neg z) ≡ lt e (float_with_sign false z)) (sym epsilon-is) (below_zero z (subst (λ (o : Float). lt z o ≡ true) zero-is h))

pub kept : (z : Float) → lt z (of_bits binary32 0) ≡ false → lt epsilon z ≡ lt epsilon (float_with_sign false z)
kept z h = subst (λ (e : Float). lt e z ≡ lt e (float_with_sign false z)) (sym epsilon-is) (not_below z (subst (λ (o : Float). lt z o ≡ false) zero-is h))

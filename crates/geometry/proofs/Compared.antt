-- Finite numbers compared as numbers: each equals itself, and equal ones other than zero have one pattern.
use Rattle.std.proofs.Common.{◌≡◌, ℕ, ◌*◌, ◌%◌, ◌^◌, ◌<◌, Bool, true, false, not, ◌&&◌, T, eqb, leb, ◌⊎◌, sym, refl, ap, ◌∙◌, subst, inl, inr, arith, lit<, rules}
use native.Mathlib.Nat.{eq_of_mul-eq-mul_right}
use lib.Dec.{eqb_refl}
use lib.Ieee.{Float, nan, inf, fin, binary32, up, down, eq, fits, of_fields, of_bits, odd, to_bits, level}
use lib.Ieee.Bits.{is_true, to_bits-lt}
use Rattle.std.specs.Float.{float_is_finite}
use Rattle.math.specs.Sizes.{single_size}
use Rattle.math.proofs.Sizes.{two_ways, same_size}
use Rattle.geometry.specs.Numbers.{same_number, ComparedAsNumbers}
use Rattle.geometry.proofs.Units.{Is, Compared, compared, UnitOf, unit_of}
use Rattle.geometry.proofs.Lists.{themselves}

level_itself : (s : Bool) (a : ℕ) → level s a s a ≡ true
level_itself true a = ap (λ (b : Bool). b && true) (is_true (eqb a a) (eqb_refl a))
level_itself false a = ap (λ (b : Bool). b && true) (is_true (eqb a a) (eqb_refl a))

itself : (x : Float) → T (float_is_finite x) → same_number x x ≡ true
unfolding float_is_finite eq
itself nan t = absurd t
itself (inf s) t = absurd t
itself (fin s m e) t = level_itself s (m * up e * down e)

zero_is : Is (of_bits binary32 0) false 0
unfolding of_bits of_fields odd
zero_is = (refl, refl)

-- the sizes agree, and the signs unless both are zero
agree : (s t : Bool) (a b : ℕ) → level s a t b ≡ true → (a ≡ b) × ((s ≡ t) ⊎ (a ≡ 0))
agree true true a b e = (search (rules, e), inl refl)
agree false false a b e = (search (rules, e), inl refl)
agree true false a b e = (search (rules, e), inr (search (rules, e)))
agree false true a b e = (search (rules, e), inr (search (rules, e)))

over_one : (a b c n k : ℕ) → 0 < c → a * 2 ^ 149 ≡ n * c → b * 2 ^ 149 ≡ k * c → a ≡ b → n ≡ k
over_one a b c n k p x y e = eq_of_mul-eq-mul_right c p n k (sym x ∙ ap (λ (z : ℕ). z * 2 ^ 149) e ∙ y)

apart : false ≡ true → ⊥
apart e = subst (λ (z : Bool). T (not z)) e tt

same_sign : (a b : ℕ) → a < 0x100000000 → b < 0x100000000 → leb 0x80000000 a ≡ leb 0x80000000 b → a % 0x80000000 ≡ b % 0x80000000 → a ≡ b
same_sign a b h l e m =
    elim (two_ways a 0x80000000) [
      | inl p ↦
          elim (two_ways b 0x80000000) [
            | inl q ↦ omega arith
            | inr q ↦
                let x : leb 0x80000000 a ≡ false = search rules in
                let y : leb 0x80000000 b ≡ true = search rules in
                absurd (apart (sym x ∙ e ∙ y))
          ]
      | inr p ↦
          elim (two_ways b 0x80000000) [
            | inl q ↦
                let x : leb 0x80000000 a ≡ true = search rules in
                let y : leb 0x80000000 b ≡ false = search rules in
                absurd (apart (sym y ∙ sym e ∙ x))
            | inr q ↦ omega arith
          ]
    ]

-- a number other than zero has a size
no_size : (x : Float) (s : Bool) (n : ℕ) → Is x s n → same_number x (of_bits binary32 0) ≡ false → n ≡ 0 → ⊥
no_size x s n i z e = apart (sym z ∙ c.same ∙ ap (λ (q : ℕ). level s q false c.b) left ∙ ap (λ (q : ℕ). level s 0 false q) right ∙ none s)
  where
    c : Compared (2 ^ 149) x (of_bits binary32 0) s false n 0
    c = compared (2 ^ 149) x (of_bits binary32 0) s false n 0 i zero_is

    left : c.a ≡ 0
    left = let h : n * c.c ≡ 0 * c.c = ap (λ (q : ℕ). q * c.c) e in omega (arith, c.left)

    right : c.b ≡ 0
    right = omega (arith, c.right)

    none : (r : Bool) → level r 0 false 0 ≡ true
    none true = refl
    none false = refl

one_pattern : (x y : Float) → T (fits binary32 x) → T (fits binary32 y) → T (float_is_finite x) → T (float_is_finite y)
    → same_number x (of_bits binary32 0) ≡ false → same_number x y ≡ true → to_bits binary32 x ≡ to_bits binary32 y
one_pattern x y fx fy tx ty z e = same_sign (to_bits binary32 x) (to_bits binary32 y) (to_bits-lt binary32 x fx) (to_bits-lt binary32 y fy) signs (same_size 8388608 (lit< tt) _ _ sizes)
  where
    s : Bool
    s = leb 0x80000000 (to_bits binary32 x)

    t : Bool
    t = leb 0x80000000 (to_bits binary32 y)

    n : ℕ
    n = single_size (to_bits binary32 x % 0x80000000)

    k : ℕ
    k = single_size (to_bits binary32 y % 0x80000000)

    a : UnitOf x
    a = unit_of x fx tx

    b : UnitOf y
    b = unit_of y fy ty

    c : Compared (2 ^ 149) x y s t n k
    c = compared (2 ^ 149) x y s t n k a.is b.is

    both : (c.a ≡ c.b) × ((s ≡ t) ⊎ (c.a ≡ 0))
    both = agree s t c.a c.b (sym c.same ∙ e)

    sizes : n ≡ k
    sizes = over_one c.a c.b c.c n k c.above c.left c.right both.0

    signs : s ≡ t
    signs = elim both.1 [ inl q ↦ q | inr q ↦ absurd (no_size x s n a.is z (over_one c.a 0 c.c n 0 c.above c.left (omega arith) q)) ]

pub compares : ComparedAsNumbers
compares = record { itself = itself; themselves = themselves (λ x e. itself x (subst T (sym e) tt)); one_pattern = one_pattern }

-- Patterns in their order stand for sizes in their order, and the sizes at the ends of the ranges.
use Rattle.std.proofs.Common.{◌≡◌, ℕ, zero, suc, ◌+◌, ◌*◌, ◌/◌, ◌%◌, ◌^◌, ◌<◌, ◌≤◌, ◌⊎◌, sym, refl, ap, ◌∙◌, subst, inl, inr, le_trans, lt_of_lt_of_le, le_of_lt, mul-le-mul_right, mod-lt, mul_assoc, add-mul, eq-or-lt_of_le, mul-le-mul_left, mul-lt-mul_of_pos_right, one-mul, pow-suc, div-add-mod', arith, lit<, lit≤, pow_pos}
use native.Mathlib.Nat.{pow-le-pow_right}
use lib.Arith.{digits_div, digits_mod}
use lib.Ieee.Nearest.{div_mono}
use Rattle.math.specs.Sizes.{scaled, size_in, half_steps, single_size}

pub two_ways : (a b : ℕ) → (a < b) ⊎ (b ≤ a)
two_ways a b = search arith

lo : (w e t : ℕ) → w * 2 ^ e ≤ scaled w (suc e) t
lo w e t = let h : w ≤ w + t = omega arith in mul-le-mul_right (2 ^ e) h

hi : (w e t : ℕ) → t < w → scaled w e t < w * 2 ^ e
hi w zero t h = omega arith
hi w (suc e) t h =
    let k : w + t < w + w = omega arith in
    let a : (w + t) * 2 ^ e < (w + w) * 2 ^ e = mul-lt-mul_of_pos_right k (pow_pos e) in
    rw (pow-suc 2 e) (omega (arith, a, add-mul w w (2 ^ e), mul_assoc w (2 ^ e) 2))

fields_lt : (w e t e' t' : ℕ) → t < w → e < e' → scaled w e t < scaled w e' t'
fields_lt w e t zero t' h l = absurd (omega arith)
fields_lt w e t (suc e') t' h l =
    let k : e ≤ e' = omega arith in
    lt_of_lt_of_le (hi w e t h) (le_trans (mul-le-mul_left w (pow-le-pow_right (lit< tt) k)) (lo w e' t'))

digits_up : (w e t t' : ℕ) → t < t' → scaled w e t < scaled w e t'
digits_up w zero t t' l = l
digits_up w (suc e) t t' l = let h : w + t < w + t' = omega arith in mul-lt-mul_of_pos_right h (pow_pos e)

-- a larger pattern stands for a larger size
pub strict : (w : ℕ) → 0 < w → (n m : ℕ) → n < m → size_in w n < size_in w m
unfolding size_in
strict w p n m l =
    elim (two_ways (n / w) (m / w)) [
      | inl h ↦ fields_lt w (n / w) (n % w) (m / w) (m % w) (mod-lt n p) h
      | inr h ↦
          let g : n / w ≤ m / w = div_mono n w m w p p (mul-le-mul_right w (le_of_lt l)) in
          let e : n / w ≡ m / w = omega arith in
          let x : n / w * w ≡ m / w * w = ap (λ (y : ℕ). y * w) e in
          let d : n % w < m % w = omega (arith, div-add-mod' n w, div-add-mod' m w) in
          subst (λ (y : ℕ). scaled w (n / w) (n % w) < scaled w y (m % w)) e (digits_up w (n / w) (n % w) (m % w) d)
    ]

pub mono : (w : ℕ) → 0 < w → (n m : ℕ) → n ≤ m → size_in w n ≤ size_in w m
mono w p n m l = elim (eq-or-lt_of_le l) [ inl e ↦ omega (arith, ap (size_in w) e) | inr h ↦ le_of_lt (strict w p n m h) ]

pub at : (w e t : ℕ) → t < w → size_in w (e * w + t) ≡ scaled w e t
unfolding size_in
at w e t h = rw (digits_div e h, digits_mod e h)

-- a size has one pattern
pub same_size : (w : ℕ) → 0 < w → (n k : ℕ) → size_in w n ≡ size_in w k → n ≡ k
same_size w p n k e =
    elim (two_ways n k) [
      | inl h ↦ absurd (omega (arith, strict w p n k h))
      | inr h ↦ elim (eq-or-lt_of_le h) [ inl q ↦ sym q | inr g ↦ absurd (omega (arith, strict w p k n g)) ]
    ]

-- ---- halves and their neighbours

pub half_at : (e g : ℕ) → g ≤ 1024 → half_steps (suc e * 1024 + g) ≡ (1024 + g) * 2 ^ e
half_at e g h =
    elim (two_ways g 1024) [
      | inl k ↦ at 1024 (suc e) g k
      | inr k ↦
          let q : g ≡ 1024 = omega arith in
          let s : suc e * 1024 + g ≡ suc (suc e) * 1024 + 0 = omega arith in
          let x : (1024 + g) * 2 ^ e ≡ (1024 + 1024) * 2 ^ e = ap (λ (y : ℕ). (1024 + y) * 2 ^ e) q in
          let y : half_steps (suc e * 1024 + g) ≡ half_steps (suc (suc e) * 1024 + 0) = ap half_steps s in
          omega (arith, at 1024 (suc (suc e)) 0 (lit< tt), pow-suc 2 e)
    ]

pub half_small : (n : ℕ) → n ≤ 1024 → half_steps n ≡ n
half_small n h =
    elim (two_ways n 1024) [
      | inl k ↦ let s : n ≡ 0 * 1024 + n = omega arith in ap half_steps s ∙ at 1024 0 n k
      | inr k ↦
          let s : n ≡ 1 * 1024 + 0 = omega arith in
          let y : half_steps n ≡ half_steps (1 * 1024 + 0) = ap half_steps s in
          omega (arith, at 1024 1 0 (lit< tt))
    ]

pub up_gap : (e g k : ℕ) → g ≤ 1024 → suc e * 1024 + g < k → (1024 + g) * 2 ^ e + 2 ^ e ≤ half_steps k
up_gap e g k h l =
    elim (two_ways g 1024) [
      | inl b ↦
          let s : suc e * 1024 + suc g ≤ k = omega arith in
          let y : 1024 + suc g ≡ (1024 + g) + 1 = omega arith in
          omega (arith, mono 1024 (lit< tt) (suc e * 1024 + suc g) k s, half_at e (suc g) b, ap (λ (z : ℕ). z * 2 ^ e) y, add-mul (1024 + g) 1 (2 ^ e), one-mul (2 ^ e))
      | inr b ↦
          let q : g ≡ 1024 = omega arith in
          let s : suc (suc e) * 1024 + 1 ≤ k = omega arith in
          let x : (1024 + g) * 2 ^ e ≡ (1024 + 1024) * 2 ^ e = ap (λ (y : ℕ). (1024 + y) * 2 ^ e) q in
          omega (arith, mono 1024 (lit< tt) (suc (suc e) * 1024 + 1) k s, half_at (suc e) 1 (lit≤ tt), pow-suc 2 e)
    ]

pub low_gap : (e g k : ℕ) → g < 1024 → k < suc e * 1024 + suc g → half_steps k ≤ (1024 + g) * 2 ^ e
low_gap e g k h l =
    let s : k ≤ suc e * 1024 + g = omega arith in
    omega (arith, mono 1024 (lit< tt) k (suc e * 1024 + g) s, half_at e g (le_of_lt h))

-- the sizes at the ends of the ranges
line_65520 : single_size 0x477ff000 ≡ 65520 * 2 ^ 149
unfolding size_in
line_65520 = refl

pub line_half_least : single_size 0x33000000 ≡ 2 ^ 124
unfolding size_in
line_half_least = refl

pub half_none : half_steps 0 ≡ 0
unfolding size_in
half_none = refl

pub greatest : half_steps 0x7bff ≡ 65504 * 2 ^ 24
unfolding size_in
greatest = refl

pub big : (u : ℕ) → 0x477ff000 ≤ u → 65520 * 2 ^ 149 ≤ single_size u
big u h = omega (arith, mono 8388608 (lit< tt) 0x477ff000 u h, line_65520)

pub under : (u : ℕ) → u < 0x477ff000 → single_size u < 65520 * 2 ^ 149
under u h = omega (arith, strict 8388608 (lit< tt) u 0x477ff000 h, line_65520)

pub single-none : single_size 0 ≡ 0
unfolding size_in
single-none = refl

-- The arithmetic of f32 reads a pattern as its size, its sign and its two exceptions.
use Rattle.std.proofs.Common.{◌≡◌, ℕ, zero, suc, ◌+◌, ◌*◌, ◌/◌, ◌%◌, ◌^◌, ◌<◌, Bool, true, not, T, eqb, leb, sym, refl, ap, ◌∙◌, subst, mul-one, arith, rules}
use lib.Ieee.{Float, nan, inf, fin, binary32, odd, is_nan, of_fields, of_bits}
use lib.Ieee.Bits.{cond_no, nan_bits_is, nan_bits_above}
use lib.Ieee.Exact.{HasValue, odd_sign}
use Rattle.math.specs.Sizes.{scaled, size_in, single_size, half_size, Means}
use Rattle.math.specs.Halves.{WidensTo}

not_eq : (a b : ℕ) → a < b → T (not (eqb a b))
not_eq a b h = search rules

fields : (s : Bool) (e t : ℕ) → e < 255 → HasValue (of_fields binary32 s e t) s (scaled 8388608 e t) (2 ^ 149)
unfolding of_fields
fields s zero t h = subst (λ (q : ℕ). HasValue (odd 24 s t 0 149) s q (2 ^ 149)) (mul-one t) (odd_sign 24 s t 0 149)
fields s (suc x) t h =
    subst (λ (v : Float). HasValue v s ((8388608 + t) * 2 ^ x) (2 ^ 149)) (sym (cond_no (eqb (suc x) 255) _ (odd 24 s (8388608 + t) x 149) (not_eq (suc x) 255 h)))
    (odd_sign 24 s (8388608 + t) x 149)

number : (b : ℕ) → b % 0x80000000 < 0x7f800000 → HasValue (of_bits binary32 b) (leb 0x80000000 b) (single_size (b % 0x80000000)) (2 ^ 149)
unfolding of_bits size_in
number b h =
    let e : b % 8388608 ≡ b % 2147483648 % 8388608 = omega arith in
    let l : b % 2147483648 / 8388608 < 255 = omega arith in
    subst (λ (t : ℕ). HasValue (of_fields binary32 (leb 0x80000000 b) (b % 2147483648 / 8388608) t) (leb 0x80000000 b) (scaled 8388608 (b % 2147483648 / 8388608) (b % 2147483648 % 8388608)) (2 ^ 149)) (sym e)
    (fields (leb 0x80000000 b) (b % 2147483648 / 8388608) (b % 2147483648 % 8388608) l)

infinite : (b : ℕ) → b % 0x80000000 ≡ 0x7f800000 → of_bits binary32 b ≡ inf (leb 0x80000000 b)
unfolding of_bits of_fields
infinite b h =
    let e : b % 2147483648 / 8388608 ≡ 255 = omega arith in
    let t : b % 8388608 ≡ 0 = omega arith in
    ap (λ (x : ℕ). of_fields binary32 (leb 0x80000000 b) x (b % 8388608)) e ∙ ap (λ (x : ℕ). of_fields binary32 (leb 0x80000000 b) 255 x) t

nan_alone : (x : Float) → is_nan x ≡ true → x ≡ nan
unfolding is_nan
nan_alone nan e = refl
nan_alone (inf s) e = absurd (subst (λ (z : Bool). T (not z)) e tt)
nan_alone (fin s m k) e = absurd (subst (λ (z : Bool). T (not z)) e tt)

none : (b : ℕ) → 0x7f800000 < b % 0x80000000 → of_bits binary32 b ≡ nan
none b h = nan_alone (of_bits binary32 b) (sym (nan_bits_is binary32 b) ∙ nan_bits_above binary32 b ∙ search rules)

pub means : (b : ℕ) → Means b
means b = record { number = number b; infinite = infinite b; none = none b }

-- a finite half is read as its size
pub half_means : (h b : ℕ) → b < 0x100000000 → WidensTo h b → h % 0x8000 < 0x7c00 → HasValue (of_bits binary32 b) (leb 0x8000 h) (half_size (h % 0x8000)) (2 ^ 149)
half_means h b l x n =
    let e : leb 0x80000000 b ≡ leb 0x8000 h = search (rules, x.sign) in
    subst (λ (s : Bool). HasValue (of_bits binary32 b) s (half_size (h % 0x8000)) (2 ^ 149)) e
    (subst (λ (v : ℕ). HasValue (of_bits binary32 b) (leb 0x80000000 b) v (2 ^ 149)) (x.size.number n).1 (number b (x.size.number n).0))

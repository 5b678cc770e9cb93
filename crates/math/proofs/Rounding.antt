-- The half that a single rounds to: it is the nearest, and the only one.
use Rattle.std.proofs.Common.{◌≡◌, ℕ, suc, ◌+◌, ◌-◌, ◌*◌, ◌/◌, ◌%◌, ◌^◌, ◌<◌, ◌≤◌, Bool, true, false, cond, T, eqb, sym, refl, ap, ◌∙◌, subst, inl, inr, mul-le-mul_right, mod-lt, mul_assoc, add-mul, eq-or-lt_of_le, mul-lt-mul_of_pos_right, one-mul, div-add-mod', mul_left_comm, arith, lit<, pow_pos, pow-add}
use native.Mathlib.Nat.{pow-le-pow_right}
use lib.Arith.{digits_div, digits_mod}
use lib.Dec.{eqb_refl}
use lib.Ieee.Bits.{is_true}
use Rattle.math.specs.Sizes.{half_steps, single_size, half_size}
use Rattle.math.specs.Halves.{apart, distance, Nearest, Rounded, RoundsTo, NoneNearer}
use Rattle.math.proofs.Sizes.{two_ways, strict, at, same_size, half_at, half_small, up_gap, low_gap, big, under, half_none, line_half_least}

-- between the middles to its neighbours, a half is nearest
pub nearest_of : (v n : ℕ) → n < 0x7c00 → ((k : ℕ) → k < n → half_size k + half_size n ≤ 2 * v) → ((k : ℕ) → n < k → 2 * v < half_size k + half_size n) → Nearest v n
nearest_of v n b low high = record { number = b; nearer = λ k _. near k; away = λ k _. far k }
  where
    near : (k : ℕ) → apart v (half_size n) ≤ apart v (half_size k)
    near k =
        elim (two_ways k n) [
          | inl h ↦ omega (arith, low k h, strict 1024 (lit< tt) k n h)
          | inr h ↦
              elim (eq-or-lt_of_le h) [ inl e ↦ omega (arith, ap half_steps e) | inr g ↦ omega (arith, high k g, strict 1024 (lit< tt) n k g) ]
        ]

    far : (k : ℕ) → apart v (half_size k) ≡ apart v (half_size n) → half_size k ≤ half_size n
    far k e =
        elim (two_ways k n) [
          | inl h ↦ omega (arith, strict 1024 (lit< tt) k n h)
          | inr h ↦
              elim (eq-or-lt_of_le h) [ inl q ↦ omega (arith, ap half_steps q) | inr g ↦ omega (arith, high k g, strict 1024 (lit< tt) n k g) ]
        ]

-- ---- a normal half

normal_core : (j f g v n : ℕ) → g ≤ 1024 → n ≡ suc j * 1024 + g → n < 0x7c00
    → 8192 * (1024 + g) ≤ 8388608 + f + 4096 → 8388608 + f < 8192 * (1024 + g) + 4096
    → v ≡ 2 ^ 112 * ((8388608 + f) * 2 ^ j) → Nearest v n
normal_core j f g v n gl nf nb lm hm ve = nearest_of v n nb low high
  where
    X : ℕ
    X = 2 ^ j

    M : ℕ
    M = 8388608 + f

    is : half_steps n ≡ (1024 + g) * 2 ^ j
    is = ap half_steps nf ∙ half_at j g gl

    high : (k : ℕ) → n < k → 2 * v < half_size k + half_size n
    high k h =
        let a : (8388608 + f) * 2 ^ j < (8192 * (1024 + g) + 4096) * 2 ^ j = mul-lt-mul_of_pos_right hm (pow_pos j) in
        let l : suc j * 1024 + g < k = omega arith in
        omega (arith, is, add-mul (8192 * (1024 + g)) 4096 (2 ^ j), mul_assoc 8192 (1024 + g) (2 ^ j), up_gap j g k gl l)

    low : (k : ℕ) → k < n → half_size k + half_size n ≤ 2 * v
    low k h =
        elim (two_ways (8388608 + f) (8192 * (1024 + g))) [
          | inr d ↦
              let a : 8192 * (1024 + g) * 2 ^ j ≤ (8388608 + f) * 2 ^ j = mul-le-mul_right (2 ^ j) d in
              omega (arith, is, mul_assoc 8192 (1024 + g) (2 ^ j), strict 1024 (lit< tt) k n h)
          | inl d ↦
              let a : 8192 * (1024 + g) * 2 ^ j ≤ (8388608 + f + 4096) * 2 ^ j = mul-le-mul_right (2 ^ j) lm in
              let q : 1024 + (g - 1) + 1 ≡ 1024 + g = omega arith in
              let b : g - 1 < 1024 = omega arith in
              let l : k < suc j * 1024 + suc (g - 1) = omega arith in
              omega (arith, is, mul_assoc 8192 (1024 + g) (2 ^ j), add-mul (8388608 + f) 4096 (2 ^ j), low_gap j (g - 1) k b l, add-mul (1024 + (g - 1)) 1 (2 ^ j), one-mul (2 ^ j), ap (λ (z : ℕ). z * 2 ^ j) q)
        ]

pub normal_near : (u : ℕ) → 0x38800000 ≤ u → u < 0x477ff000 → Nearest (single_size u) ((u / 4096 + 1) / 2 - 114688)
normal_near u a b =
    let j : ℕ = u / 8388608 - 113 in
    let f : ℕ = u % 8388608 in
    let n : ℕ = (u / 4096 + 1) / 2 - 114688 in
    let g : ℕ = n - suc j * 1024 in
    let s : u ≡ suc (112 + j) * 8388608 + f = omega arith in
    let fb : f < 8388608 = omega arith in
    let v : single_size u ≡ (8388608 + f) * 2 ^ (112 + j) = ap single_size s ∙ at 8388608 (suc (112 + j)) f fb in
    let w : (8388608 + f) * 2 ^ (112 + j) ≡ (8388608 + f) * (2 ^ 112 * 2 ^ j) = ap (λ (y : ℕ). (8388608 + f) * y) (pow-add 2 112 j) in
    normal_core j f g (single_size u) n (omega arith) (omega arith) (omega arith) (omega arith) (omega arith) (v ∙ w ∙ mul_left_comm (8388608 + f) (2 ^ 112) (2 ^ j))

-- ---- a subnormal half

small_core : (M P Y v n : ℕ) → n ≤ 1024 → 0 < Y → P * Y ≡ 2 ^ 124 → v ≡ M * Y → 2 * n * P ≤ M + P → M < (2 * n + 1) * P → Nearest v n
small_core M P Y v n nb yp py ve lm hm = nearest_of v n (omega arith) low high
  where
    is : half_steps n ≡ n
    is = half_small n nb

    up : 2 * n * (P * Y) ≡ 2 * n * 2 ^ 124
    up = ap (λ (z : ℕ). 2 * n * z) py

    high : (k : ℕ) → n < k → 2 * v < half_size k + half_size n
    high k h =
        let a : M * Y < (2 * n + 1) * P * Y = mul-lt-mul_of_pos_right hm yp in
        omega (arith, is, up, py, mul_assoc (2 * n + 1) P Y, add-mul (2 * n) 1 (P * Y), one-mul (P * Y), strict 1024 (lit< tt) n k h)

    low : (k : ℕ) → k < n → half_size k + half_size n ≤ 2 * v
    low k h =
        let a : 2 * n * P * Y ≤ (M + P) * Y = mul-le-mul_right Y lm in
        omega (arith, is, up, py, mul_assoc (2 * n) P Y, add-mul M P Y, strict 1024 (lit< tt) k n h)

-- the quotient rounded, a half up
half_up_low : (M P : ℕ) → 2 * ((M / P + 1) / 2) * P ≤ M + P
half_up_low M P =
    let h : 2 * ((M / P + 1) / 2) ≤ M / P + 1 = omega arith in
    let a : 2 * ((M / P + 1) / 2) * P ≤ (M / P + 1) * P = mul-le-mul_right P h in
    omega (arith, add-mul (M / P) 1 P, one-mul P, div-add-mod' M P)

half_up_high : (M P : ℕ) → 0 < P → M < (2 * ((M / P + 1) / 2) + 1) * P
half_up_high M P p =
    let h : M / P + 1 ≤ 2 * ((M / P + 1) / 2) + 1 = omega arith in
    let a : (M / P + 1) * P ≤ (2 * ((M / P + 1) / 2) + 1) * P = mul-le-mul_right P h in
    omega (arith, add-mul (M / P) 1 P, one-mul P, div-add-mod' M P, mod-lt M p)

half_up_bound : (M P : ℕ) → M < 2048 * P → (M / P + 1) / 2 ≤ 1024
half_up_bound M P h =
    elim (two_ways (M / P) 2048) [
      | inl b ↦ omega arith
      | inr b ↦ let a : 2048 * P ≤ M / P * P = mul-le-mul_right P b in absurd (omega (arith, div-add-mod' M P))
    ]

pub small_near : (u : ℕ) → 0x33000000 ≤ u → u < 0x38800000 → Nearest (single_size u) (((8388608 + u % 8388608) / 2 ^ (125 - u / 8388608) + 1) / 2)
small_near u a b = small_core M P Y (single_size u) n nb (pow_pos d) py v lm hm
  where
    d : ℕ
    d = u / 8388608 - 1

    M : ℕ
    M = 8388608 + u % 8388608

    P : ℕ
    P = 2 ^ (125 - u / 8388608)

    Y : ℕ
    Y = 2 ^ d

    n : ℕ
    n = (M / P + 1) / 2

    fb : u % 8388608 < 8388608
    fb = omega arith

    s : u ≡ suc (u / 8388608 - 1) * 8388608 + u % 8388608
    s = omega arith

    v : single_size u ≡ (8388608 + u % 8388608) * 2 ^ (u / 8388608 - 1)
    v = ap single_size s ∙ at 8388608 (suc (u / 8388608 - 1)) (u % 8388608) fb

    sm : 125 - u / 8388608 + (u / 8388608 - 1) ≡ 124
    sm = omega arith

    py : 2 ^ (125 - u / 8388608) * 2 ^ (u / 8388608 - 1) ≡ 2 ^ 124
    py = sym (pow-add 2 (125 - u / 8388608) (u / 8388608 - 1)) ∙ ap (λ (z : ℕ). 2 ^ z) sm

    wide : 2 ^ 13 ≤ 2 ^ (125 - u / 8388608)
    wide = let h : 13 ≤ 125 - u / 8388608 = omega arith in pow-le-pow_right (lit< tt) h

    nb : n ≤ 1024
    nb = half_up_bound M P (omega (arith, wide))

    lm : 2 * n * P ≤ M + P
    lm = half_up_low M P

    hm : M < (2 * n + 1) * P
    hm = half_up_high M P (pow_pos (125 - u / 8388608))

pub zero_near : (u : ℕ) → u < 0x33000000 → Nearest (single_size u) 0
zero_near u h =
    nearest_of (single_size u) 0 (lit< tt) (λ k l. absurd (omega arith))
    (λ k l. omega (arith, strict 1024 (lit< tt) 0 k l, half_none, strict 8388608 (lit< tt) u 0x33000000 h, line_half_least))

pub rounds_near : (u n : ℕ) → u < 0x477ff000 → Nearest (single_size u) n → Rounded u n
rounds_near u n h x = record {
  nearest = λ _. x;
  infinite = λ b _. absurd (omega (arith, b, under u h));
  none = λ b. absurd (omega arith);
  unsigned = omega (arith, x.number);
}

pub rounds_infinite : (u : ℕ) → 0x477ff000 ≤ u → u ≤ 0x7f800000 → Rounded u 0x7c00
rounds_infinite u h l = record {
  nearest = λ b. absurd (omega (arith, b, big u h));
  infinite = λ _ _. refl;
  none = λ b. absurd (omega arith);
  unsigned = lit< tt;
}

pub rounds-none : (u : ℕ) → 0x7f800000 < u → Rounded u 0x7e00
rounds-none u h =
    let l : 0x477ff000 ≤ u = omega arith in
    record {
      nearest = λ b. absurd (omega (arith, b, big u l));
      infinite = λ _ b. absurd (omega arith);
      none = λ _. refl;
      unsigned = lit< tt;
    }

pub signed : (b n : ℕ) → Rounded (b % 0x80000000) n → RoundsTo b (b / 0x80000000 * 0x8000 + n)
signed b n x = record {
  sign = digits_div (b / 0x80000000) x.unsigned;
  size = subst (λ (k : ℕ). Rounded (b % 0x80000000) k) (sym (digits_mod (b / 0x80000000) x.unsigned)) x;
}

-- ---- a single has one half

one_near : (v n k : ℕ) → Nearest v n → Nearest v k → n ≡ k
one_near v n k x y =
    let a : apart v (half_size n) ≤ apart v (half_size k) = x.nearer k y.number in
    let b : apart v (half_size k) ≤ apart v (half_size n) = y.nearer n x.number in
    let e : apart v (half_size k) ≡ apart v (half_size n) = omega arith in
    same_size 1024 (lit< tt) n k (omega (arith, x.away k y.number e, y.away n x.number (sym e)))

one_size : (u n k : ℕ) → Rounded u n → Rounded u k → n ≡ k
one_size u n k x y =
    elim (two_ways 0x7f800000 u) [
      | inl h ↦ x.none h ∙ sym (y.none h)
      | inr h ↦
          elim (two_ways (single_size u) (65520 * 2 ^ 149)) [
            | inl l ↦ one_near (single_size u) n k (x.nearest l) (y.nearest l)
            | inr l ↦ x.infinite l h ∙ sym (y.infinite l h)
          ]
    ]

pub one_half : (b h k : ℕ) → RoundsTo b h → RoundsTo b k → h ≡ k
one_half b h k x y =
    omega (arith, x.sign, y.sign, one_size (b % 0x80000000) (h % 0x8000) (k % 0x8000) x.size y.size)

pub none-nearer : (b h : ℕ) → RoundsTo b h → NoneNearer b h
none-nearer b h x l k kb = subst (λ (z : ℕ). z ≤ distance b k) (sym same) (go (eqb (b / 0x80000000) (k / 0x8000)))
  where
    v : ℕ
    v = single_size (b % 0x80000000)

    near : Nearest (single_size (b % 0x80000000)) (h % 0x8000)
    near = x.size.nearest l

    test : eqb (b / 0x80000000) (h / 0x8000) ≡ true
    test = is_true (eqb (b / 0x80000000) (h / 0x8000)) (subst (λ (z : ℕ). T (eqb (b / 0x80000000) z)) (sym x.sign) (eqb_refl (b / 0x80000000)))

    same : distance b h ≡ apart (single_size (b % 0x80000000)) (half_size (h % 0x8000))
    same = ap (λ (z : Bool). cond z (apart (single_size (b % 0x80000000)) (half_size (h % 0x8000))) (single_size (b % 0x80000000) + half_size (h % 0x8000))) test

    go : (t : Bool) → apart (single_size (b % 0x80000000)) (half_size (h % 0x8000)) ≤ cond t (apart (single_size (b % 0x80000000)) (half_size (k % 0x8000))) (single_size (b % 0x80000000) + half_size (k % 0x8000))
    go true = near.nearer (k % 0x8000) kb
    go false = omega (arith, near.nearer 0 (lit< tt), half_none)

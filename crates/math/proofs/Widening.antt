-- The single that a half is: it is the only one, and rounds back to the half.
use Rattle.std.proofs.Common.{◌≡◌, ℕ, suc, ◌+◌, ◌-◌, ◌*◌, ◌/◌, ◌%◌, ◌^◌, ◌<◌, ◌≤◌, sym, refl, ap, ◌∙◌, subst, inl, inr, le_of_lt, mul-le-mul_right, mul_assoc, eq-or-lt_of_le, mul-lt-mul_of_pos_right, mul_left_comm, arith, lit<, pow_pos, pow-add}
use native.Mathlib.Nat.{pow-le-pow_right, pow-succ'}
use lib.Arith.{digits_div, digits_mod}
use lib.Count.{count_leading_zeros}
use Rattle.std.proofs.lemmas.Nat.{leading_top}
use Rattle.math.specs.Sizes.{half_steps, single_size, half_size}
use Rattle.math.specs.Halves.{Nearest, Rounded, RoundsTo, Exact, WidensTo}
use Rattle.math.proofs.Sizes.{two_ways, mono, at, same_size, half_at, half_small, big, single-none, greatest}
use Rattle.math.proofs.Rounding.{rounds_near, rounds_infinite}

pub normal_exact : (n : ℕ) → 1024 ≤ n → n < 0x7c00 → Exact n (n * 8192 + 0x38000000)
normal_exact n a b =
    let j : ℕ = n / 1024 - 1 in
    let t : ℕ = n % 1024 in
    let tb : t * 8192 < 8388608 = omega arith in
    let tc : t ≤ 1024 = omega arith in
    let s : n * 8192 + 0x38000000 ≡ suc (112 + j) * 8388608 + t * 8192 = omega arith in
    let r : n ≡ suc j * 1024 + t = omega arith in
    let x : single_size (n * 8192 + 0x38000000) ≡ (8388608 + t * 8192) * 2 ^ (112 + j) = ap single_size s ∙ at 8388608 (suc (112 + j)) (t * 8192) tb in
    let y : half_steps n ≡ (1024 + t) * 2 ^ j = ap half_steps r ∙ half_at j t tc in
    let z : (8388608 + t * 8192) * 2 ^ (112 + j) ≡ (8388608 + t * 8192) * (2 ^ 112 * 2 ^ j) = ap (λ (i : ℕ). (8388608 + t * 8192) * i) (pow-add 2 112 j) in
    let q : 8388608 + t * 8192 ≡ 8192 * (1024 + t) = omega arith in
    let w : (8388608 + t * 8192) * 2 ^ j ≡ 8192 * (1024 + t) * 2 ^ j = ap (λ (i : ℕ). i * 2 ^ j) q in
    record {
      number = λ _. (omega arith, omega (arith, mul_left_comm (8388608 + t * 8192) (2 ^ 112) (2 ^ j), mul_assoc 8192 (1024 + t) (2 ^ j)));
      infinite = λ e. absurd (omega arith);
      none = λ e. absurd (omega arith);
      unsigned = omega arith;
    }

pub small_exact : (n m j : ℕ) → 0 < n → n < 1024 → m * 2 ^ j ≡ n * 1024 → 1024 ≤ m → m < 2048 → j ≤ 10 → Exact n ((102 + j) * 8388608 + m * 8192)
small_exact n m j np nb e ml mh jl =
    let tb : (m - 1024) * 8192 < 8388608 = omega arith in
    let s : (102 + j) * 8388608 + m * 8192 ≡ suc (102 + j) * 8388608 + (m - 1024) * 8192 = omega arith in
    let x : single_size ((102 + j) * 8388608 + m * 8192) ≡ (8388608 + (m - 1024) * 8192) * 2 ^ (102 + j) = ap single_size s ∙ at 8388608 (suc (102 + j)) ((m - 1024) * 8192) tb in
    let q : 8388608 + (m - 1024) * 8192 ≡ 8192 * m = omega arith in
    let y : (8388608 + (m - 1024) * 8192) * 2 ^ (102 + j) ≡ 8192 * m * 2 ^ (102 + j) = ap (λ (i : ℕ). i * 2 ^ (102 + j)) q in
    let z : 8192 * m * 2 ^ (102 + j) ≡ 8192 * m * (2 ^ 102 * 2 ^ j) = ap (λ (i : ℕ). 8192 * m * i) (pow-add 2 102 j) in
    record {
      number = λ _. (omega arith, omega (arith, mul_left_comm (8192 * m) (2 ^ 102) (2 ^ j), mul_assoc 8192 m (2 ^ j), half_small n (le_of_lt nb)));
      infinite = λ b. absurd (omega arith);
      none = λ b. absurd (omega arith);
      unsigned = omega arith;
    }

pub zero_exact : (n : ℕ) → n ≤ 0 → Exact n 0
zero_exact n h =
    let l : n ≤ 1024 = omega arith in
    record {
      number = λ _. (lit< tt, omega (arith, single-none, half_small n l));
      infinite = λ e. absurd (omega arith);
      none = λ e. absurd (omega arith);
      unsigned = lit< tt;
    }

-- ---- a subnormal half, its leading digit moved up to 1024

place_1024 : count_leading_zeros 32 1024 ≡ 21
unfolding count_leading_zeros
place_1024 = refl

pub record Leading (n s : ℕ) : Type 0 where
  pub above : count_leading_zeros 32 1024 ≤ count_leading_zeros 32 n
  pub within : s ≤ 10
  pub whole : n * 2 ^ s % 4294967296 ≡ n * 2 ^ s
  pub low : 1024 ≤ n * 2 ^ s
  pub high : n * 2 ^ s < 2048

pub leading : (n : ℕ) → 0 < n → n < 1024 → Leading n (count_leading_zeros 32 n - count_leading_zeros 32 1024)
leading n np nb = record { above = omega (arith, jb, place_1024, t.1); within = omega (arith, place_1024, t.1); whole = omega (arith, high); low = omega (arith, ten, up); high = high }
  where
    t : (j : ℕ) × (count_leading_zeros 32 n + suc j ≡ 32) × (2 ^ j ≤ n) × (n < 2 ^ suc j)
    t = leading_top 32 n np (omega arith)

    s : ℕ
    s = count_leading_zeros 32 n - count_leading_zeros 32 1024

    jb : t.0 < 10
    jb = elim (two_ways t.0 10) [ inl h ↦ h | inr h ↦ absurd (omega (arith, t.2, pow-le-pow_right {n = 2} (lit< tt) h)) ]

    ten : 2 ^ t.0 * 2 ^ s ≡ 1024
    ten = let e : t.0 + s ≡ 10 = omega (arith, jb, place_1024, t.1) in sym (pow-add 2 t.0 s) ∙ ap (λ (i : ℕ). 2 ^ i) e

    up : 2 ^ t.0 * 2 ^ s ≤ n * 2 ^ s
    up = mul-le-mul_right (2 ^ s) t.2

    high : n * 2 ^ s < 2048
    high =
        let a : n * 2 ^ s < 2 ^ suc t.0 * 2 ^ s = mul-lt-mul_of_pos_right t.3 (pow_pos s) in
        omega (arith, a, ten, pow-succ' 2 t.0, mul_assoc 2 (2 ^ t.0) (2 ^ s), ap (λ (i : ℕ). i * 2 ^ s) (pow-succ' 2 t.0))

pub shifted_exact : (n s : ℕ) → 0 < n → n < 1024 → Leading n s → Exact n ((112 - s) * 8388608 + n * 2 ^ s % 4294967296 * 8192)
shifted_exact n s np nb x =
    let j : ℕ = 10 - s in
    let e : s + j ≡ 10 = omega (arith, x.within) in
    let p : 102 + j ≡ 112 - s = omega (arith, x.within) in
    let m : n * 2 ^ s % 4294967296 * 2 ^ j ≡ n * 1024 =
    ap (λ (i : ℕ). i * 2 ^ j) x.whole ∙ mul_assoc n (2 ^ s) (2 ^ j) ∙ ap (λ (i : ℕ). n * i) (sym (pow-add 2 s j) ∙ ap (λ (i : ℕ). 2 ^ i) e) in
    subst (λ (i : ℕ). Exact n (i * 8388608 + n * 2 ^ s % 4294967296 * 8192)) p
    (small_exact n (n * 2 ^ s % 4294967296) j np nb m (omega (arith, x.whole, x.low)) (omega (arith, x.whole, x.high)) (omega arith))

pub signed : (h u : ℕ) → Exact (h % 0x8000) u → WidensTo h (h / 0x8000 * 0x80000000 + u)
signed h u x = record {
  sign = digits_div (h / 0x8000) x.unsigned;
  size = subst (λ (k : ℕ). Exact (h % 0x8000) k) (sym (digits_mod (h / 0x8000) x.unsigned)) x;
}

-- ---- a half is one single

one_exact : (n u w : ℕ) → Exact n u → Exact n w → u ≡ w
one_exact n u w x y =
    elim (two_ways 0x7c00 n) [
      | inl h ↦ x.none h ∙ sym (y.none h)
      | inr h ↦
          elim (eq-or-lt_of_le h) [
            | inl e ↦ x.infinite e ∙ sym (y.infinite e)
            | inr l ↦ same_size 8388608 (lit< tt) u w ((x.number l).1 ∙ sym (y.number l).1)
          ]
    ]

pub one_single : (h b c : ℕ) → WidensTo h b → WidensTo h c → b ≡ c
one_single h b c x y =
    omega (arith, x.sign, y.sign, one_exact (h % 0x8000) (b % 0x80000000) (c % 0x80000000) x.size y.size)

-- ---- there and back

itself : (v n : ℕ) → n < 0x7c00 → v ≡ half_size n → Nearest v n
itself v n h e = record { number = h; nearer = λ k _. omega arith; away = λ k _ a. omega arith }

size_back : (n u : ℕ) → n ≤ 0x7c00 → Exact n u → Rounded u n
size_back n u h x =
    elim (eq-or-lt_of_le h) [
      | inl e ↦
          let ue : u ≡ 0x7f800000 = x.infinite e in
          let l : 0x477ff000 ≤ u = omega arith in
          let m : u ≤ 0x7f800000 = omega arith in
          subst (λ (k : ℕ). Rounded u k) (sym e) (rounds_infinite u l m)
      | inr b ↦
          let v : single_size u ≡ half_size n = (x.number b).1 in
          let nb : n ≤ 0x7bff = omega arith in
          let s : single_size u < 65520 * 2 ^ 149 = omega (arith, mono 1024 (lit< tt) n 0x7bff nb, greatest) in
          let l : u < 0x477ff000 = elim (two_ways u 0x477ff000) [ inl g ↦ g | inr g ↦ absurd (omega (arith, big u g)) ] in
          rounds_near u n l (itself (single_size u) n b v)
    ]

pub back : (h b : ℕ) → h % 0x8000 ≤ 0x7c00 → WidensTo h b → RoundsTo b h
back h b l x = record { sign = sym x.sign; size = size_back (h % 0x8000) (b % 0x80000000) l x.size }

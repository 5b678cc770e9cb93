-- Finite f32 numbers in units of one size: their sums, differences and comparisons; by their patterns in units of 2 ^ -149.
use Rattle.std.proofs.Common.{◌≡◌, ℕ, ◌+◌, ◌-◌, ◌*◌, ◌/◌, ◌%◌, ◌^◌, ◌<◌, ◌≤◌, Bool, true, false, cond, not, ◌&&◌, T, eqb, ltb, leb, sym, refl, ap, ◌∙◌, subst, inl, inr, mul_assoc, mul_comm, add-mul, mul-lt-mul_of_pos_right, mul-pos, mul_right_comm, arith, lit<, lt→ltb, rules}
use native.Mathlib.Nat.{eq_of_mul-eq-mul_right, mul-le-mul_right, mul-sub}
use lib.Ieee.{Float, nan, inf, fin, binary32, up, down, round, neg, sum, add, sub, lt, eq, fits, of_fields, of_bits, to_bits, below, level}
use lib.Ieee.Bits.{is_true, is_false, of_bits-to_bits}
use lib.Ieee.Fits.{down_pos}
use lib.Ieee.Exact.{HasValue}
use lib.Ieee.Scale.{round_same}
use Rattle.std.specs.Float.{float_is_finite, float_is_infinite}
use Rattle.math.specs.Sizes.{single_size, size_in}
use Rattle.math.proofs.Sizes.{two_ways, mono}
use Rattle.math.proofs.Means.{means}

-- the greatest finite number, and in units of 2 ^ -149
abbrev pub most : ℕ
most = 16777215 * 2 ^ 104

abbrev pub mostU : ℕ
mostU = 16777215 * 2 ^ 253

abbrev pub Is : Float → Bool → ℕ → Type 0
Is x s n = HasValue x s n (2 ^ 149)

pub finite_of : (x : Float) (s : Bool) (n : ℕ) → Is x s n → T (float_is_finite x)
unfolding float_is_finite
finite_of nan s n p = absurd p
finite_of (inf t) s n p = absurd p
finite_of (fin t m e) s n p = tt

pub not_infinite : (x : Float) (s : Bool) (n : ℕ) → Is x s n → float_is_infinite x ≡ false
unfolding float_is_infinite
not_infinite nan s n p = absurd p
not_infinite (inf t) s n p = absurd p
not_infinite (fin t m e) s n p = refl

pub neg_is : (d : ℕ) (x : Float) (s : Bool) (n : ℕ) → HasValue x s n d → HasValue (neg x) (not s) n d
unfolding neg
neg_is d nan s n p = absurd p
neg_is d (inf t) s n p = absurd p
neg_is d (fin t m e) s n p = (ap not p.0, p.1)

-- ---- sums and differences

num_of : (m u n d d' q : ℕ) → m * u * q ≡ n * d → m * u * d' * q ≡ n * (d * d')
num_of m u n d d' q e = mul_right_comm (m * u) d' q ∙ ap (λ (z : ℕ). z * d') e ∙ mul_assoc n d d'

sum_alike : (s : Bool) (a b c : ℕ) → sum binary32 s a s b c ≡ round binary32 s (a + b) c
unfolding sum
sum_alike true a b c = refl
sum_alike false a b c = refl

below_yes : (a b : ℕ) → a < b → ltb a b ≡ true
below_yes a b h = is_true (ltb a b) (lt→ltb a b h)

below_no : (a b : ℕ) → b ≤ a → ltb a b ≡ false
below_no a b h = let t : T (not (ltb a b)) = search rules in is_false (ltb a b) t

sum_up : (s : Bool) (a b c : ℕ) → a < b → sum binary32 s a (not s) b c ≡ round binary32 (not s) (b - a) c
unfolding sum
sum_up false a b c h = ap (λ (z : Bool). cond z (round binary32 true (b - a) c) (round binary32 false (a - b) c)) (below_yes a b h)
sum_up true a b c h = ap (λ (z : Bool). cond z (round binary32 false (b - a) c) (round binary32 (true && ltb b a) (a - b) c)) (below_yes a b h)

sum_down : (s : Bool) (a b c : ℕ) → b < a → sum binary32 s a (not s) b c ≡ round binary32 s (a - b) c
unfolding sum
sum_down false a b c h = let l : b ≤ a = omega arith in ap (λ (z : Bool). cond z (round binary32 true (b - a) c) (round binary32 false (a - b) c)) (below_no a b l)
sum_down true a b c h =
    let l : b ≤ a = omega arith in
    ap (λ (z : Bool). cond z (round binary32 false (b - a) c) (round binary32 (true && ltb b a) (a - b) c)) (below_no a b l)
    ∙ ap (λ (z : Bool). round binary32 (true && z) (a - b) c) (below_yes b a h)

sum_level : (s : Bool) (a b c : ℕ) → a ≡ b → sum binary32 s a (not s) b c ≡ round binary32 false (a - b) c
unfolding sum
sum_level false a b c h = let l : b ≤ a = omega arith in ap (λ (z : Bool). cond z (round binary32 true (b - a) c) (round binary32 false (a - b) c)) (below_no a b l)
sum_level true a b c h =
    let l : b ≤ a = omega arith in
    let m : a ≤ b = omega arith in
    ap (λ (z : Bool). cond z (round binary32 false (b - a) c) (round binary32 (true && ltb b a) (a - b) c)) (below_no a b l)
    ∙ ap (λ (z : Bool). round binary32 (true && z) (a - b) c) (below_no b a m)

-- two numbers in units of 1 / d over one denominator
record Parts (d : ℕ) (x y : Float) (s r : Bool) (n k : ℕ) : Type 0 where
  a : ℕ
  b : ℕ
  c : ℕ
  above : 0 < c
  left : a * d ≡ n * c
  right : b * d ≡ k * c
  is : add binary32 x y ≡ sum binary32 s a r b c

parts : (d : ℕ) (x y : Float) (s r : Bool) (n k : ℕ) → HasValue x s n d → HasValue y r k d → Parts d x y s r n k
unfolding add
parts u nan y s r n k p q = absurd p
parts u (inf t) y s r n k p q = absurd p
parts u (fin t m e) nan s r n k p q = absurd q
parts u (fin t m e) (inf i) s r n k p q = absurd q
parts u (fin t m e) (fin i l d) s r n k p q = record {
  a = m * up e * down d;
  b = l * up d * down e;
  c = down e * down d;
  above = mul-pos (down_pos e) (down_pos d);
  left = num_of m (up e) n (down e) (down d) u p.1;
  right = num_of l (up d) k (down d) (down e) u q.1 ∙ ap (λ (z : ℕ). k * z) (mul_comm (down d) (down e));
  is = ap (λ (z : Bool). sum binary32 z (m * up e * down d) i (l * up d * down e) (down e * down d)) p.0
      ∙ ap (λ (z : Bool). sum binary32 s (m * up e * down d) z (l * up d * down e) (down e * down d)) q.0;
}

pub add_same : (d : ℕ) → 0 < d → (x y : Float) (s : Bool) (n k : ℕ) → HasValue x s n d → HasValue y s k d → add binary32 x y ≡ round binary32 s (n + k) d
add_same d h x y s n k p q =
    let z : Parts d x y s s n k = parts d x y s s n k p q in
    z.is ∙ sum_alike s z.a z.b z.c ∙ round_same binary32 s (z.a + z.b) z.c (n + k) d z.above h (omega (arith, z.left, z.right, add-mul z.a z.b d, add-mul n k z.c))

minus_over : (d a b c n k : ℕ) → a * d ≡ n * c → b * d ≡ k * c → (b - a) * d ≡ (k - n) * c
minus_over d a b c n k x y =
    omega (arith, mul_comm (b - a) d, mul-sub d b a, mul_comm d b, mul_comm d a, mul_comm (k - n) c, mul-sub c k n, mul_comm c k, mul_comm c n)

less_over : (d a b c n k : ℕ) → 0 < c → a * d ≡ n * c → b * d ≡ k * c → n < k → a < b
less_over d a b c n k p x y h =
    elim (two_ways a b) [
      | inl l ↦ l
      | inr l ↦
          let i : b * d ≤ a * d = mul-le-mul_right d l in
          let j : n * c < k * c = mul-lt-mul_of_pos_right h p in
          absurd (omega arith)
    ]

pub add_more : (d : ℕ) → 0 < d → (x y : Float) (s : Bool) (n k : ℕ) → HasValue x s n d → HasValue y (not s) k d → n < k → add binary32 x y ≡ round binary32 (not s) (k - n) d
add_more d o x y s n k p q h =
    let z : Parts d x y s (not s) n k = parts d x y s (not s) n k p q in
    let l : z.a < z.b = less_over d z.a z.b z.c n k z.above z.left z.right h in
    z.is ∙ sum_up s z.a z.b z.c l ∙ round_same binary32 (not s) (z.b - z.a) z.c (k - n) d z.above o (minus_over d z.a z.b z.c n k z.left z.right)

pub add-less : (d : ℕ) → 0 < d → (x y : Float) (s : Bool) (n k : ℕ) → HasValue x s n d → HasValue y (not s) k d → k < n → add binary32 x y ≡ round binary32 s (n - k) d
add-less d o x y s n k p q h =
    let z : Parts d x y s (not s) n k = parts d x y s (not s) n k p q in
    let l : z.b < z.a = less_over d z.b z.a z.c k n z.above z.right z.left h in
    z.is ∙ sum_down s z.a z.b z.c l ∙ round_same binary32 s (z.a - z.b) z.c (n - k) d z.above o (minus_over d z.b z.a z.c k n z.right z.left)

pub add_even : (d : ℕ) → 0 < d → (x y : Float) (s : Bool) (n k : ℕ) → HasValue x s n d → HasValue y (not s) k d → n ≡ k → add binary32 x y ≡ round binary32 false 0 d
add_even d o x y s n k p q h =
    let z : Parts d x y s (not s) n k = parts d x y s (not s) n k p q in
    let m : n * z.c ≡ k * z.c = ap (λ (i : ℕ). i * z.c) h in
    let l : z.a ≡ z.b = eq_of_mul-eq-mul_right d o z.a z.b (z.left ∙ m ∙ sym z.right) in
    let i : z.a - z.b ≡ 0 = omega arith in
    let j : (z.a - z.b) * d ≡ 0 * d = ap (λ (v : ℕ). v * d) i in
    z.is ∙ sum_level s z.a z.b z.c l ∙ round_same binary32 false (z.a - z.b) z.c 0 d z.above o (omega arith)

pub sub_is : (x y : Float) → sub binary32 x y ≡ add binary32 x (neg y)
unfolding sub
sub_is x y = refl

-- ---- comparisons

pub record Compared (d : ℕ) (x y : Float) (s r : Bool) (n k : ℕ) : Type 0 where
  pub a : ℕ
  pub b : ℕ
  pub c : ℕ
  pub above : 0 < c
  pub left : a * d ≡ n * c
  pub right : b * d ≡ k * c
  pub less : lt x y ≡ below s a r b
  pub same : eq x y ≡ level s a r b

pub compared : (d : ℕ) (x y : Float) (s r : Bool) (n k : ℕ) → HasValue x s n d → HasValue y r k d → Compared d x y s r n k
unfolding lt eq
compared u nan y s r n k p q = absurd p
compared u (inf t) y s r n k p q = absurd p
compared u (fin t m e) nan s r n k p q = absurd q
compared u (fin t m e) (inf i) s r n k p q = absurd q
compared u (fin t m e) (fin i l d) s r n k p q = record {
  a = m * up e * down d;
  b = l * up d * down e;
  c = down e * down d;
  above = mul-pos (down_pos e) (down_pos d);
  left = num_of m (up e) n (down e) (down d) u p.1;
  right = num_of l (up d) k (down d) (down e) u q.1 ∙ ap (λ (z : ℕ). k * z) (mul_comm (down d) (down e));
  less = ap (λ (z : Bool). below z (m * up e * down d) i (l * up d * down e)) p.0
      ∙ ap (λ (z : Bool). below s (m * up e * down d) z (l * up d * down e)) q.0;
  same = ap (λ (z : Bool). level z (m * up e * down d) i (l * up d * down e)) p.0
      ∙ ap (λ (z : Bool). level s (m * up e * down d) z (l * up d * down e)) q.0;
}

-- ---- a finite number in units, by its pattern

ends : single_size 0x7f7fffff ≡ mostU
unfolding size_in
ends = refl

none-there : (b s : Bool) → T (float_is_finite (cond b (inf s) nan)) → ⊥
unfolding float_is_finite
none-there true s t = t
none-there false s t = t

all_ones : (b : ℕ) → 0x7f800000 ≤ b % 0x80000000 → T (float_is_finite (of_bits binary32 b)) → ⊥
unfolding of_bits of_fields
all_ones b h t =
    let e : b % 0x80000000 / 8388608 ≡ 255 = omega arith in
    none-there (eqb (b % 8388608) 0) (leb 0x80000000 b) (subst (λ (x : ℕ). T (float_is_finite (of_fields binary32 (leb 0x80000000 b) x (b % 8388608)))) e t)

pub record UnitOf (x : Float) : Type 0 where
  pub is : Is x (leb 0x80000000 (to_bits binary32 x)) (single_size (to_bits binary32 x % 0x80000000))
  pub bound : single_size (to_bits binary32 x % 0x80000000) ≤ mostU

pub unit_of : (x : Float) → T (fits binary32 x) → T (float_is_finite x) → UnitOf x
unit_of x f t =
    let e : of_bits binary32 (to_bits binary32 x) ≡ x = of_bits-to_bits binary32 x f in
    let b : ℕ = to_bits binary32 x in
    let l : b % 0x80000000 < 0x7f800000 = elim (two_ways (b % 0x80000000) 0x7f800000) [ inl h ↦ h | inr h ↦ absurd (all_ones b h (subst (λ (z : Float). T (float_is_finite z)) (sym e) t)) ] in
    let m : b % 0x80000000 ≤ 0x7f7fffff = omega arith in
    record {
      is = subst (λ (z : Float). Is z (leb 0x80000000 b) (single_size (b % 0x80000000))) e ((means b).number l);
      bound = omega (arith, mono 8388608 (lit< tt) (b % 0x80000000) 0x7f7fffff m, ends);
    }

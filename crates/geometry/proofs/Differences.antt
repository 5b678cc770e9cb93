-- Differences of finite numbers grow with the distance of their places on a line.
use Rattle.std.proofs.Common.{◌≡◌, ℕ, zero, suc, ◌+◌, ◌-◌, ◌*◌, ◌^◌, ◌<◌, ◌≤◌, Bool, true, false, cond, ◌&&◌, ◌||◌, T, eqb, ltb, ◌⊎◌, sym, refl, ap, ◌∙◌, subst, inl, inr, mul-le-mul_right, mul_assoc, mul_comm, mul_left_comm, mul_right_comm, mul-pos, eq-or-lt_of_le, mul-lt-mul_of_pos_right, arith, lit<, rules}
use lib.Count.{count_trailing_zeros}
use lib.Ieee.{Float, nan, inf, fin, binary32, up, down, span, climb, size, odd, units, round, neg, sub, lt, le, of_fields, of_bits, below, level}
use lib.Ieee.Exact.{HasValue}
use lib.Ieee.Fits.{round_is, down_pos}
use lib.Ieee.Order.{round_mono}
use lib.Ieee.Scale.{round_same}
use Rattle.std.specs.Float.Order.{lt_of_lt_of_le}
use Rattle.std.specs.Float.{float_is_finite, float_with_sign}
use Rattle.math.proofs.Sizes.{two_ways}
use Rattle.geometry.specs.Tangents.{epsilon, apart}
use Rattle.geometry.proofs.Units.{neg_is, sub_is, add_same, add_more, add-less, add_even, Compared, compared}

-- ---- rounding does not look at the sign

odd_size : (s : Bool) (d q k l : ℕ) → float_with_sign false (odd d s q k l) ≡ odd d false q k l
unfolding odd float_with_sign
odd_size s d zero k l = refl
odd_size s d (suc q) k l = refl

cond-size : (b s : Bool) (x y : Float) → float_with_sign false x ≡ y → float_with_sign false (cond b x (inf s)) ≡ cond b y (inf false)
unfolding float_with_sign
cond-size true s x y e = e
cond-size false s x y e = refl

units_size : (s : Bool) (q k : ℕ) → float_with_sign false (units binary32 s q k) ≡ units binary32 false q k
unfolding units
units_size s q k = cond-size (ltb (q * 2 ^ k) (2 ^ 277)) s (odd 25 s q k 149) (odd 25 false q k 149) (odd_size s 25 q k 149)

round_size : (s : Bool) (n c : ℕ) → float_with_sign false (round binary32 s n c) ≡ round binary32 false n c
round_size s n c = ap (float_with_sign false) (round_is binary32 s n c) ∙ units_size s _ _ ∙ sym (round_is binary32 false n c)

-- ---- finite numbers by their place on a line

-- in units of 1 / d about the place m
abbrev place : ℕ → Bool → ℕ → ℕ
place m false n = m + n
place m true n = m - n

record At (d m : ℕ) (x : Float) (p : ℕ) : Type 0 where
  sign : Bool
  units_is : ℕ
  is : HasValue x sign units_is d
  bound : units_is ≤ m
  there : p ≡ place m sign units_is

-- the larger less the smaller
above_by : (d m : ℕ) → 0 < d → (x y : Float) (s t : Bool) (n k : ℕ) → HasValue x s n d → HasValue y t k d → n ≤ m → k ≤ m → place m t k < place m s n → sub binary32 x y ≡ round binary32 false (place m s n - place m t k) d
above_by d m u x y false false n k a b h l o =
    let g : k < n = omega arith in
    let e : n - k ≡ place m false n - place m false k = omega arith in
    sub_is x y ∙ add-less d u x (neg y) false n k a (neg_is d y false k b) g ∙ ap (λ (z : ℕ). round binary32 false z d) e
above_by d m u x y false true n k a b h l o =
    let e : n + k ≡ place m false n - place m true k = omega arith in
    sub_is x y ∙ add_same d u x (neg y) false n k a (neg_is d y true k b) ∙ ap (λ (z : ℕ). round binary32 false z d) e
above_by d m u x y true false n k a b h l o = absurd (omega arith)
above_by d m u x y true true n k a b h l o =
    let g : n < k = omega arith in
    let e : k - n ≡ place m true n - place m true k = omega arith in
    sub_is x y ∙ add_more d u x (neg y) true n k a (neg_is d y true k b) g ∙ ap (λ (z : ℕ). round binary32 false z d) e

-- the smaller less the larger
below_by : (d m : ℕ) → 0 < d → (x y : Float) (s t : Bool) (n k : ℕ) → HasValue x s n d → HasValue y t k d → n ≤ m → k ≤ m → place m s n < place m t k → sub binary32 x y ≡ round binary32 true (place m t k - place m s n) d
below_by d m u x y false false n k a b h l o =
    let g : n < k = omega arith in
    let e : k - n ≡ place m false k - place m false n = omega arith in
    sub_is x y ∙ add_more d u x (neg y) false n k a (neg_is d y false k b) g ∙ ap (λ (z : ℕ). round binary32 true z d) e
below_by d m u x y false true n k a b h l o = absurd (omega arith)
below_by d m u x y true false n k a b h l o =
    let e : n + k ≡ place m false k - place m true n = omega arith in
    sub_is x y ∙ add_same d u x (neg y) true n k a (neg_is d y false k b) ∙ ap (λ (z : ℕ). round binary32 true z d) e
below_by d m u x y true true n k a b h l o =
    let g : k < n = omega arith in
    let e : n - k ≡ place m true k - place m true n = omega arith in
    sub_is x y ∙ add-less d u x (neg y) true n k a (neg_is d y true k b) g ∙ ap (λ (z : ℕ). round binary32 true z d) e

-- of one place: a zero
record Zero (d : ℕ) (z : Float) : Type 0 where
  sign : Bool
  is : z ≡ round binary32 sign 0 d

level_by : (d m : ℕ) → 0 < d → (x y : Float) (s t : Bool) (n k : ℕ) → HasValue x s n d → HasValue y t k d → n ≤ m → k ≤ m → place m s n ≡ place m t k → Zero d (sub binary32 x y)
level_by d m u x y false false n k a b h l o =
    let g : n ≡ k = omega arith in
    record { sign = false; is = sub_is x y ∙ add_even d u x (neg y) false n k a (neg_is d y false k b) g }
level_by d m u x y false true n k a b h l o =
    let g : n + k ≡ 0 = omega arith in
    record { sign = false; is = sub_is x y ∙ add_same d u x (neg y) false n k a (neg_is d y true k b) ∙ ap (λ (z : ℕ). round binary32 false z d) g }
level_by d m u x y true false n k a b h l o =
    let g : n + k ≡ 0 = omega arith in
    record { sign = true; is = sub_is x y ∙ add_same d u x (neg y) true n k a (neg_is d y false k b) ∙ ap (λ (z : ℕ). round binary32 true z d) g }
level_by d m u x y true true n k a b h l o =
    let g : n ≡ k = omega arith in
    record { sign = false; is = sub_is x y ∙ add_even d u x (neg y) true n k a (neg_is d y true k b) g }

zero_within : T (lt epsilon (round binary32 false 0 1)) → ⊥
unfolding count_trailing_zeros span climb size odd units round lt of_fields of_bits
zero_within t = t

no_zero : (d : ℕ) → 0 < d → T (lt epsilon (round binary32 false 0 d)) → ⊥
no_zero d u t = zero_within (subst (λ (z : Float). T (lt epsilon z)) (round_same binary32 false 0 d 0 1 u (lit< tt) (omega arith)) t)

-- ---- the order of places

scaled_le : (d a b c n k : ℕ) → 0 < c → a * d ≡ n * c → b * d ≡ k * c → a ≤ b → n ≤ k
scaled_le d a b c n k p x y h =
    elim (two_ways k n) [
      | inl g ↦
          let i : k * c < n * c = mul-lt-mul_of_pos_right g p in
          let j : a * d ≤ b * d = mul-le-mul_right d h in
          absurd (omega arith)
      | inr g ↦ g
    ]

up_to : (a b : ℕ) (r : Bool) → T (ltb a b || (eqb a b && r)) → a ≤ b
up_to a b r t = search rules

down_to : (a b : ℕ) (r : Bool) → T (ltb b a || (eqb a b && r)) → b ≤ a
down_to a b r t = search rules

both_zero : (a b : ℕ) → T (eqb a b && eqb a 0) → (a ≤ 0) × (b ≤ 0)
both_zero a b t = search rules

ordered : (d m : ℕ) (s t : Bool) (a b c n k : ℕ) → 0 < c → a * d ≡ n * c → b * d ≡ k * c → n ≤ m → k ≤ m → T (below s a t b || level s a t b) → place m s n ≤ place m t k
ordered d m false false a b c n k p x y h l o =
    let g : n ≤ k = scaled_le d a b c n k p x y (up_to a b _ o) in omega arith
ordered d m false true a b c n k p x y h l o =
    let z : (a ≤ 0) × (b ≤ 0) = both_zero a b o in
    let i : n ≤ 0 = scaled_le d a 0 c n 0 p x (omega arith) z.0 in
    let j : k ≤ 0 = scaled_le d b 0 c k 0 p y (omega arith) z.1 in
    omega arith
ordered d m true false a b c n k p x y h l o = omega arith
ordered d m true true a b c n k p x y h l o =
    let g : k ≤ n = scaled_le d b a c k n p y x (down_to a b _ o) in omega arith

in_order : (d m : ℕ) (x y : Float) (s t : Bool) (n k : ℕ) → HasValue x s n d → HasValue y t k d → n ≤ m → k ≤ m → T (le x y) → place m s n ≤ place m t k
unfolding le
in_order d m x y s t n k a b h l o =
    let c : Compared d x y s t n k = compared d x y s t n k a b in
    ordered d m s t c.a c.b c.c n k c.above c.left c.right h l
    (subst (λ (z : Bool). T (z || level s c.a t c.b)) c.less (subst (λ (z : Bool). T (lt x y || z)) c.same o))

rises : (d m : ℕ) (x y : Float) (p q : ℕ) → At d m x p → At d m y q → T (le x y) → p ≤ q
rises d m x y p q a b h =
    let i : place m a.sign a.units_is ≤ place m b.sign b.units_is = in_order d m x y a.sign b.sign a.units_is b.units_is a.is b.is a.bound b.bound h in
    subst (λ (z : ℕ). z ≤ q) (sym a.there) (subst (λ (z : ℕ). place m a.sign a.units_is ≤ z) (sym b.there) i)

over : (d m : ℕ) → 0 < d → (x y : Float) (p q : ℕ) → At d m x p → At d m y q → q < p → sub binary32 x y ≡ round binary32 false (p - q) d
over d m u x y p q a b h =
    let i : place m b.sign b.units_is < place m a.sign a.units_is = subst (λ (z : ℕ). z < place m a.sign a.units_is) b.there (subst (λ (z : ℕ). q < z) a.there h) in
    above_by d m u x y a.sign b.sign a.units_is b.units_is a.is b.is a.bound b.bound i
    ∙ ap (λ (z : ℕ). round binary32 false (z - place m b.sign b.units_is) d) (sym a.there)
    ∙ ap (λ (z : ℕ). round binary32 false (p - z) d) (sym b.there)

under : (d m : ℕ) → 0 < d → (x y : Float) (p q : ℕ) → At d m x p → At d m y q → p < q → sub binary32 x y ≡ round binary32 true (q - p) d
under d m u x y p q a b h =
    let i : place m a.sign a.units_is < place m b.sign b.units_is = subst (λ (z : ℕ). z < place m b.sign b.units_is) a.there (subst (λ (z : ℕ). p < z) b.there h) in
    below_by d m u x y a.sign b.sign a.units_is b.units_is a.is b.is a.bound b.bound i
    ∙ ap (λ (z : ℕ). round binary32 true (z - place m a.sign a.units_is) d) (sym b.there)
    ∙ ap (λ (z : ℕ). round binary32 true (q - z) d) (sym a.there)

level_at : (d m : ℕ) → 0 < d → (x y : Float) (p q : ℕ) → At d m x p → At d m y q → p ≡ q → Zero d (sub binary32 x y)
level_at d m u x y p q a b h =
    level_by d m u x y a.sign b.sign a.units_is b.units_is a.is b.is a.bound b.bound (sym a.there ∙ h ∙ b.there)

-- how far apart two finite numbers that are far apart lie
record Gap (d p q : ℕ) : Type 0 where
  size_is : ℕ
  some : 0 < size_is
  beyond_epsilon : T (lt epsilon (round binary32 false size_is d))
  which : ((p ≡ q + size_is) ⊎ (q ≡ p + size_is))

gap : (d m : ℕ) → 0 < d → (x y : Float) (p q : ℕ) → At d m x p → At d m y q → T (apart x y) → Gap d p q
gap d m u x y p q a b h =
    elim (two_ways p q) [
      | inl o ↦
          let e : float_with_sign false (sub binary32 x y) ≡ round binary32 false (q - p) d = ap (float_with_sign false) (under d m u x y p q a b o) ∙ round_size true (q - p) d in
          record { size_is = q - p; some = omega arith; beyond_epsilon = subst (λ (z : Float). T (lt epsilon z)) e h; which = inr (omega arith) }
      | inr o ↦
          elim (eq-or-lt_of_le o) [
            | inl i ↦
                let z : Zero d (sub binary32 x y) = level_at d m u x y p q a b (sym i) in
                let e : float_with_sign false (sub binary32 x y) ≡ round binary32 false 0 d = ap (float_with_sign false) z.is ∙ round_size z.sign 0 d in
                absurd (no_zero d u (subst (λ (v : Float). T (lt epsilon v)) e h))
            | inr i ↦
                let e : float_with_sign false (sub binary32 x y) ≡ round binary32 false (p - q) d = ap (float_with_sign false) (over d m u x y p q a b i) ∙ round_size false (p - q) d in
                record { size_is = p - q; some = omega arith; beyond_epsilon = subst (λ (z : Float). T (lt epsilon z)) e h; which = inl (omega arith) }
          ]
    ]

wider : (d m : ℕ) → 0 < d → (g s : Float) (p q n : ℕ) → At d m g p → At d m s q → 0 < n → q + n ≤ p → T (lt epsilon (round binary32 false n d)) → T (lt epsilon (sub binary32 g s))
wider d m u g s p q n a b o h t =
    let l : q < p = omega arith in
    let i : n ≤ p - q = omega arith in
    subst (λ (z : Float). T (lt epsilon z)) (sym (over d m u g s p q a b l))
    (lt_of_lt_of_le epsilon (round binary32 false n d) (round binary32 false (p - q) d) t (round_mono binary32 n d (p - q) d u u (mul-le-mul_right d i)))

-- what holds two numbers that are far apart is wide
held : (d m : ℕ) → 0 < d → (x y g s : Float) (p q i j : ℕ) → At d m x p → At d m y q → At d m g i → At d m s j → p ≤ i → q ≤ i → j ≤ p → j ≤ q → T (apart x y) → T (lt epsilon (sub binary32 g s))
held d m u x y g s p q i j a b c e k l v w h =
    let z : Gap d p q = gap d m u x y p q a b h in
    wider d m u g s i j z.size_is c e z.some (elim z.which [ inl o ↦ omega arith | inr o ↦ omega arith ]) z.beyond_epsilon

-- ---- finite numbers over one denominator

record Number (x : Float) : Type 0 where
  sign : Bool
  top : ℕ
  bottom : ℕ
  above : 0 < bottom
  is : HasValue x sign top bottom

number : (x : Float) → T (float_is_finite x) → Number x
unfolding float_is_finite
number nan t = absurd t
number (inf s) t = absurd t
number (fin s m e) t = record { sign = s; top = m * up e; bottom = down e; above = down_pos e; is = (refl, refl) }

grown : (x : Float) (s : Bool) (n b k : ℕ) → HasValue x s n b → HasValue x s (n * k) (b * k)
grown nan s n b k v = v
grown (inf t) s n b k v = v
grown (fin t m e) s n b k v = (v.0, sym (mul_assoc (m * up e) b k) ∙ ap (λ (z : ℕ). z * k) v.1 ∙ mul_right_comm n (down e) k)

record Placed (d m : ℕ) (x : Float) : Type 0 where
  p : ℕ
  at : At d m x p

placed : (d m : ℕ) (x : Float) (n : Number x) (k : ℕ) → d ≡ n.bottom * k → n.top * k ≤ m → Placed d m x
placed d m x n k e h = record {
  p = place m n.sign (n.top * k);
  at = record {
    sign = n.sign;
    units_is = n.top * k;
    is = subst (λ (z : ℕ). HasValue x n.sign (n.top * k) z) (sym e) (grown x n.sign n.top n.bottom k n.is);
    bound = h;
    there = refl;
  };
}

pub finite_stretch : (x y g s : Float) → T (float_is_finite x) → T (float_is_finite y) → T (float_is_finite g) → T (float_is_finite s) → T (apart x y)
    → T (le x g) → T (le y g) → T (le s x) → T (le s y) → T (lt epsilon (sub binary32 g s))
finite_stretch x y g s nx ny ng ns = go (number x nx) (number y ny) (number g ng) (number s ns)
  where
    at : (d m : ℕ) → 0 < d → Placed d m x → Placed d m y → Placed d m g → Placed d m s → T (apart x y) → T (le x g) → T (le y g) → T (le s x) → T (le s y) → T (lt epsilon (sub binary32 g s))
    at d m u a b c e h i j k l =
        held d m u x y g s a.p b.p c.p e.p a.at b.at c.at e.at (rises d m x g _ _ a.at c.at i) (rises d m y g _ _ b.at c.at j) (rises d m s x _ _ e.at a.at k) (rises d m s y _ _ e.at b.at l) h

    go : Number x → Number y → Number g → Number s → T (apart x y) → T (le x g) → T (le y g) → T (le s x) → T (le s y) → T (lt epsilon (sub binary32 g s))
    go a b c e =
        let k1 : ℕ = b.bottom * (c.bottom * e.bottom) in
        let k2 : ℕ = a.bottom * (c.bottom * e.bottom) in
        let k3 : ℕ = a.bottom * (b.bottom * e.bottom) in
        let k4 : ℕ = a.bottom * (b.bottom * c.bottom) in
        let d : ℕ = a.bottom * (b.bottom * (c.bottom * e.bottom)) in
        let m : ℕ = a.top * k1 + b.top * k2 + c.top * k3 + e.top * k4 in
        at d m (mul-pos a.above (mul-pos b.above (mul-pos c.above e.above)))
        (placed d m x a k1 refl (omega arith))
        (placed d m y b k2 (simp mul_left_comm) (omega arith))
        (placed d m g c k3 (simp mul_left_comm) (omega arith))
        (placed d m s e k4 (simp (mul_comm, mul_left_comm)) (omega arith))

-- both ways round, a difference has one size
pub either_way : (x y : Float) → T (float_is_finite x) → T (float_is_finite y) → float_with_sign false (sub binary32 x y) ≡ float_with_sign false (sub binary32 y x)
either_way x y nx ny = go (number x nx) (number y ny)
  where
    at : (d m : ℕ) → 0 < d → (p q : ℕ) → At d m x p → At d m y q → float_with_sign false (sub binary32 x y) ≡ float_with_sign false (sub binary32 y x)
    at d m u p q a b =
        elim (two_ways p q) [
          | inl o ↦
              ap (float_with_sign false) (under d m u x y p q a b o) ∙ round_size true (q - p) d
              ∙ sym (round_size false (q - p) d) ∙ sym (ap (float_with_sign false) (over d m u y x q p b a o))
          | inr o ↦
              elim (eq-or-lt_of_le o) [
                | inl i ↦
                    let z : Zero d (sub binary32 x y) = level_at d m u x y p q a b (sym i) in
                    let w : Zero d (sub binary32 y x) = level_at d m u y x q p b a i in
                    ap (float_with_sign false) z.is ∙ round_size z.sign 0 d
                    ∙ sym (round_size w.sign 0 d) ∙ sym (ap (float_with_sign false) w.is)
                | inr i ↦
                    ap (float_with_sign false) (over d m u x y p q a b i) ∙ round_size false (p - q) d
                    ∙ sym (round_size true (p - q) d) ∙ sym (ap (float_with_sign false) (under d m u y x q p b a i))
              ]
        ]

    go : Number x → Number y → float_with_sign false (sub binary32 x y) ≡ float_with_sign false (sub binary32 y x)
    go a b =
        let d : ℕ = a.bottom * b.bottom in
        let m : ℕ = a.top * b.bottom + b.top * a.bottom in
        let p : Placed d m x = placed d m x a b.bottom refl (omega arith) in
        let q : Placed d m y = placed d m y b a.bottom (mul_comm a.bottom b.bottom) (omega arith) in
        at d m (mul-pos a.above b.above) p.p q.p p.at q.at

-- a number less itself is not beyond epsilon
pub no_distance : (x : Float) → T (float_is_finite x) → T (apart x x) → ⊥
no_distance x n h = go (number x n)
  where
    at : (d m : ℕ) → 0 < d → Placed d m x → ⊥
    at d m u a =
        let z : Zero d (sub binary32 x x) = level_at d m u x x a.p a.p a.at a.at refl in
        let e : float_with_sign false (sub binary32 x x) ≡ round binary32 false 0 d = ap (float_with_sign false) z.is ∙ round_size z.sign 0 d in
        no_zero d u (subst (λ (v : Float). T (lt epsilon v)) e h)

    go : Number x → ⊥
    go a = at (a.bottom * 1) (a.top * 1) (omega (arith, a.above)) (placed (a.bottom * 1) (a.top * 1) x a 1 refl (omega arith))

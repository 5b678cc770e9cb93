-- Four bytes side by side. Assumes nothing.
use Rattle.std.proofs.Common.{◌≡◌, ℕ, zero, suc, ◌+◌, ◌*◌, ◌/◌, ◌%◌, ◌^◌, ◌<◌, ◌≤◌, cond, not, eqb, sym, refl, ap, ◌∙◌, add-zero, zero-mul, arith, pow-add, ne_eqb}
use lib.Bits.{bit_and, and_block, and_lt, and_high, and_mask, and_zero_r}
use lib.Count.{ones, ones_cat}
use Rattle.std.proofs.lemmas.Nat.{shr-shr, shr_split, pow_pos, mul-le, div-mul-add, mod-mul-add}

abbrev pub word : ℕ → ℕ → ℕ → ℕ → ℕ
word d c b a = ((d * 2 ^ 8 + c) * 2 ^ 8 + b) * 2 ^ 8 + a

stacked : (w x y z d c b a : ℕ) → w ≡ x * 256 + a → x ≡ y * 256 + b → y ≡ z * 256 + c → z ≡ d → w ≡ word d c b a
stacked w x y z d c b a p q r e = omega arith

pub word_of : (w : ℕ) → w < 2 ^ 32 → w ≡ word (w / 16777216 % 256) (w / 65536 % 256) (w / 256 % 256) (w % 256)
word_of w h =
    stacked w (w / 256) (w / 65536) (w / 16777216) (w / 16777216 % 256) (w / 65536 % 256) (w / 256 % 256) (w % 256)
    (sym (shr_split w 8))
    (sym (shr_split (w / 256) 8) ∙ ap (λ x. x * 256 + w / 256 % 256) (shr-shr w 8 8))
    (sym (shr_split (w / 65536) 8) ∙ ap (λ x. x * 256 + w / 65536 % 256) (shr-shr w 16 8))
    (omega arith)

pub and_word : (d c b a s r q p : ℕ) → c < 2 ^ 8 → b < 2 ^ 8 → a < 2 ^ 8 → r < 2 ^ 8 → q < 2 ^ 8 → p < 2 ^ 8 →
    bit_and (word d c b a) (word s r q p) ≡ word (bit_and d s) (bit_and c r) (bit_and b q) (bit_and a p)
and_word d c b a s r q p hc hb ha hr hq hp =
    and_block 8 ((d * 2 ^ 8 + c) * 2 ^ 8 + b) ((s * 2 ^ 8 + r) * 2 ^ 8 + q) a p ha hp
    ∙ ap (λ x. x * 2 ^ 8 + bit_and a p) (and_block 8 (d * 2 ^ 8 + c) (s * 2 ^ 8 + r) b q hb hq ∙ ap (λ x. x * 2 ^ 8 + bit_and b q) (and_block 8 d s c r hc hr))

pub ones_word : (d c b a : ℕ) → c < 2 ^ 8 → b < 2 ^ 8 → a < 2 ^ 8 → ones (word d c b a) ≡ ones d + ones c + ones b + ones a
ones_word d c b a hc hb ha =
    ones_cat 8 ((d * 2 ^ 8 + c) * 2 ^ 8 + b) a ha
    ∙ ap (λ x. x + ones a) (ones_cat 8 (d * 2 ^ 8 + c) b hb ∙ ap (λ x. x + ones b) (ones_cat 8 d c hc))

-- one digit, at place k
ones_digit : (x : ℕ) → x < 2 → ones x ≡ x
unfolding ones
ones_digit zero h = refl
ones_digit (suc zero) h = refl
ones_digit (suc (suc x)) h = absurd (omega arith)

pub ones_at : (k x : ℕ) → x < 2 → ones (x * 2 ^ k) ≡ x
ones_at k x h = ap ones (sym (add-zero (x * 2 ^ k))) ∙ ones_cat k x 0 (pow_pos k) ∙ ap (λ n. ones x + n) (ones_digit 0 (omega arith)) ∙ add-zero (ones x) ∙ ones_digit x h

-- bits of one byte that are counted
pub ones_32 : (t : ℕ) → ones (bit_and t 32) ≡ t / 2 ^ 5 % 2
ones_32 t = ap ones (and_high t 1 5) ∙ ones_at 5 (t / 2 ^ 5 % 2) (omega arith)

pub ones_64 : (t : ℕ) → ones (bit_and t 64) ≡ t / 2 ^ 6 % 2
ones_64 t = ap ones (and_high t 1 6) ∙ ones_at 6 (t / 2 ^ 6 % 2) (omega arith)

pub ones_16 : (t : ℕ) → ones (bit_and t 16) ≡ t / 2 ^ 4 % 2
ones_16 t = ap ones (and_high t 1 4) ∙ ones_at 4 (t / 2 ^ 4 % 2) (omega arith)

pub some : (x : ℕ) → x < 4 → ones (bit_and (x * 7) 4) ≡ cond (eqb x 0) 0 1
unfolding ones
some zero h = refl
some (suc zero) h = refl
some (suc (suc zero)) h = refl
some (suc (suc (suc zero))) h = refl
some (suc (suc (suc (suc x)))) h = absurd (omega arith)

-- p, doubled where the digit e is set
pub doubled : (p e : ℕ) → p < 16 → e < 2 → p + bit_and p (e * 15) ≡ p * (1 + e)
doubled p zero h k = ap (λ x. p + x) (and_zero_r p) ∙ omega arith
doubled p (suc zero) h k = ap (λ x. p + x) (and_mask p 4) ∙ omega arith
doubled p (suc (suc e)) h k = absurd (omega arith)

-- every digit of four bytes under one byte's mask
pub masked : (w m : ℕ) → w < 2 ^ 32 → m < 2 ^ 8 →
    bit_and w (word m m m m) ≡ word (bit_and (w / 16777216 % 256) m) (bit_and (w / 65536 % 256) m) (bit_and (w / 256 % 256) m) (bit_and (w % 256) m)
masked w m h k =
    ap (λ x. bit_and x (word m m m m)) (word_of w h)
    ∙ and_word (w / 16777216 % 256) (w / 65536 % 256) (w / 256 % 256) (w % 256) m m m m (omega arith) (omega arith) (omega arith) k k k

-- a digit of each byte, counted
pub counted : (w m : ℕ) → w < 2 ^ 32 → m < 2 ^ 8 →
    ones (bit_and w (word m m m m)) ≡ ones (bit_and (w / 16777216 % 256) m) + ones (bit_and (w / 65536 % 256) m) + ones (bit_and (w / 256 % 256) m) + ones (bit_and (w % 256) m)
counted w m h k =
    ap ones (masked w m h k)
    ∙ ones_word (bit_and (w / 16777216 % 256) m) (bit_and (w / 65536 % 256) m) (bit_and (w / 256 % 256) m) (bit_and (w % 256) m)
    (and_lt 8 (w / 65536 % 256) m (omega arith) k) (and_lt 8 (w / 256 % 256) m (omega arith) k) (and_lt 8 (w % 256) m (omega arith) k)

-- the four tags of a word
abbrev pub t0 : ℕ → ℕ
t0 w = w % 256

abbrev pub t1 : ℕ → ℕ
t1 w = w / 256 % 256

abbrev pub t2 : ℕ → ℕ
t2 w = w / 65536 % 256

abbrev pub t3 : ℕ → ℕ
t3 w = w / 16777216 % 256

-- the low two bits of each tag
pub low_two : (w : ℕ) → w < 2 ^ 32 → bit_and w 0x3030303 ≡ word (t3 w % 4) (t2 w % 4) (t1 w % 4) (t0 w % 4)
low_two w h = masked w 3 h (omega arith) ∙ simp (and_mask (t3 w) 2, and_mask (t2 w) 2, and_mask (t1 w) 2, and_mask (t0 w) 2)

-- bit 2 and bit 3 of each tag, moved to the lowest place
pub third : (w : ℕ) → w < 2 ^ 32 → bit_and (w / 4) 0x1010101 ≡ word (t3 w / 4 % 2) (t2 w / 4 % 2) (t1 w / 4 % 2) (t0 w / 4 % 2)
third w h =
    masked (w / 4) 1 (omega arith) (omega arith)
    ∙ simp (and_mask (t3 (w / 4)) 1, and_mask (t2 (w / 4)) 1, and_mask (t1 (w / 4)) 1, and_mask (t0 (w / 4)) 1)
    (omega (arith, shr-shr w 2 8, shr-shr w 2 16, shr-shr w 2 24, shr-shr w 8 2, shr-shr w 16 2, shr-shr w 24 2))

pub fourth : (w : ℕ) → w < 2 ^ 32 → bit_and (w / 8) 0x1010101 ≡ word (t3 w / 8 % 2) (t2 w / 8 % 2) (t1 w / 8 % 2) (t0 w / 8 % 2)
fourth w h =
    masked (w / 8) 1 (omega arith) (omega arith)
    ∙ simp (and_mask (t3 (w / 8)) 1, and_mask (t2 (w / 8)) 1, and_mask (t1 (w / 8)) 1, and_mask (t0 (w / 8)) 1)
    (omega (arith, shr-shr w 3 8, shr-shr w 3 16, shr-shr w 3 24, shr-shr w 8 3, shr-shr w 16 3, shr-shr w 24 3))

-- four small bytes, added up in the lowest
pub gathered : (x d c b a : ℕ) → x ≡ word d c b a → d ≤ 8 → c ≤ 8 → b ≤ 8 → a ≤ 8 →
    bit_and ((x + x / 256) + (x + x / 256) / 65536) 255 ≡ a + (b + (c + (d + 0)))
gathered x d c b a e hd hc hb ha =
    let by-256 : x / 256 ≡ (d * 256 + c) * 256 + b = ap (λ n. n / 256) e ∙ div-mul-add ((d * 256 + c) * 256 + b) 256 a (omega arith) in
    let twice : x + x / 256 ≡ (d * 256 + (c + d)) * 65536 + ((b + c) * 256 + (a + b)) = omega arith in
    let by-65536 : (x + x / 256) / 65536 ≡ d * 256 + (c + d) =
    ap (λ n. n / 65536) twice ∙ div-mul-add (d * 256 + (c + d)) 65536 ((b + c) * 256 + (a + b)) (omega arith) in
    let all : (x + x / 256) + (x + x / 256) / 65536 ≡ (d * 65536 + (c + d) * 256 + (b + c) + d) * 256 + (a + (b + (c + (d + 0)))) = omega arith in
    and_mask ((x + x / 256) + (x + x / 256) / 65536) 8
    ∙ ap (λ n. n % 256) all
    ∙ mod-mul-add (d * 65536 + (c + d) * 256 + (b + c) + d) 256 (a + (b + (c + (d + 0)))) (omega arith)

-- the words of one tag
abbrev pub points : ℕ → ℕ
points t = t % 4 + t / 4 % 2

abbrev pub sized : ℕ → ℕ
sized t = points t * (1 + t / 8 % 2)

sized_le : (t : ℕ) → sized t ≤ 8
sized_le t = mul-le (points t) (1 + t / 8 % 2) 4 2 (omega arith) (omega arith)

plus-word : (d c b a s r q p : ℕ) → word d c b a + word s r q p ≡ word (d + s) (c + r) (b + q) (a + p)
plus-word d c b a s r q p = omega arith

times_word : (d c b a : ℕ) → word d c b a * 15 ≡ word (d * 15) (c * 15) (b * 15) (a * 15)
times_word d c b a = omega arith

small : (t : ℕ) → points t < 2 ^ 8
small t = omega arith

mask_small : (t : ℕ) → t / 8 % 2 * 15 < 2 ^ 8
mask_small t = omega arith

sized_is : (t : ℕ) → points t + bit_and (points t) (t / 8 % 2 * 15) ≡ sized t
sized_is t = doubled (points t) (t / 8 % 2) (omega arith) (omega arith)

pub words_of : (w : ℕ) → w < 2 ^ 32 →
    let n = bit_and w 0x3030303 + bit_and (w / 4) 0x1010101 in
    let x = n + bit_and n (bit_and (w / 8) 0x1010101 * 15) in
    bit_and ((x + x / 256) + (x + x / 256) / 65536) 255 ≡ sized (t0 w) + (sized (t1 w) + (sized (t2 w) + (sized (t3 w) + 0)))
words_of w h =
    let n : bit_and w 0x3030303 + bit_and (w / 4) 0x1010101 ≡ word (points (t3 w)) (points (t2 w)) (points (t1 w)) (points (t0 w)) =
    rw (low_two w h, third w h) (plus-word (t3 w % 4) (t2 w % 4) (t1 w % 4) (t0 w % 4) (t3 w / 4 % 2) (t2 w / 4 % 2) (t1 w / 4 % 2) (t0 w / 4 % 2)) in
    let m : bit_and (w / 8) 0x1010101 * 15 ≡ word (t3 w / 8 % 2 * 15) (t2 w / 8 % 2 * 15) (t1 w / 8 % 2 * 15) (t0 w / 8 % 2 * 15) =
    ap (λ x. x * 15) (fourth w h) ∙ times_word (t3 w / 8 % 2) (t2 w / 8 % 2) (t1 w / 8 % 2) (t0 w / 8 % 2) in
    let both = and_word (points (t3 w)) (points (t2 w)) (points (t1 w)) (points (t0 w)) (t3 w / 8 % 2 * 15) (t2 w / 8 % 2 * 15) (t1 w / 8 % 2 * 15) (t0 w / 8 % 2 * 15)
    (small (t2 w)) (small (t1 w)) (small (t0 w)) (mask_small (t2 w)) (mask_small (t1 w)) (mask_small (t0 w)) in
    let nm = bit_and w 0x3030303 + bit_and (w / 4) 0x1010101 in
    let x : nm + bit_and nm (bit_and (w / 8) 0x1010101 * 15) ≡ word (sized (t3 w)) (sized (t2 w)) (sized (t1 w)) (sized (t0 w)) =
    ap (λ y. y + bit_and y (bit_and (w / 8) 0x1010101 * 15)) n
    ∙ ap (λ y. word (points (t3 w)) (points (t2 w)) (points (t1 w)) (points (t0 w)) + y)
    (ap (bit_and (word (points (t3 w)) (points (t2 w)) (points (t1 w)) (points (t0 w)))) m ∙ both)
    ∙ plus-word (points (t3 w)) (points (t2 w)) (points (t1 w)) (points (t0 w))
    (bit_and (points (t3 w)) (t3 w / 8 % 2 * 15)) (bit_and (points (t2 w)) (t2 w / 8 % 2 * 15)) (bit_and (points (t1 w)) (t1 w / 8 % 2 * 15)) (bit_and (points (t0 w)) (t0 w / 8 % 2 * 15))
    ∙ simp (sized_is (t3 w), sized_is (t2 w), sized_is (t1 w), sized_is (t0 w)) in
    gathered (nm + bit_and nm (bit_and (w / 8) 0x1010101 * 15)) (sized (t3 w)) (sized (t2 w)) (sized (t1 w)) (sized (t0 w)) x
    (sized_le (t3 w)) (sized_le (t2 w)) (sized_le (t1 w)) (sized_le (t0 w))

pub segments_of : (w : ℕ) → w < 2 ^ 32 → ones (bit_and (bit_and w 0x3030303 * 7) 0x4040404) ≡
    cond (eqb (t0 w % 4) 0) 0 1 + (cond (eqb (t1 w % 4) 0) 0 1 + (cond (eqb (t2 w % 4) 0) 0 1 + (cond (eqb (t3 w % 4) 0) 0 1 + 0)))
segments_of w h =
    let seven : bit_and w 0x3030303 * 7 ≡ word (t3 w % 4 * 7) (t2 w % 4 * 7) (t1 w % 4 * 7) (t0 w % 4 * 7) = omega (arith, low_two w h) in
    ap (λ n. ones (bit_and n 0x4040404)) seven
    ∙ ap ones (and_word (t3 w % 4 * 7) (t2 w % 4 * 7) (t1 w % 4 * 7) (t0 w % 4 * 7) 4 4 4 4 (omega arith) (omega arith) (omega arith) (omega arith) (omega arith) (omega arith))
    ∙ ones_word (bit_and (t3 w % 4 * 7) 4) (bit_and (t2 w % 4 * 7) 4) (bit_and (t1 w % 4 * 7) 4) (bit_and (t0 w % 4 * 7) 4)
    (and_lt 8 (t2 w % 4 * 7) 4 (omega arith) (omega arith)) (and_lt 8 (t1 w % 4 * 7) 4 (omega arith) (omega arith)) (and_lt 8 (t0 w % 4 * 7) 4 (omega arith) (omega arith))
    ∙ omega (arith, some (t3 w % 4) (omega arith), some (t2 w % 4) (omega arith), some (t1 w % 4) (omega arith), some (t0 w % 4) (omega arith))

-- a bit of each tag, counted
module _ (m : ℕ) (small_mask : m < 2 ^ 8) (bit : ℕ → ℕ) (is : (t : ℕ) → ones (bit_and t m) ≡ bit t) where
  pub bits_of : (w : ℕ) → w < 2 ^ 32 → ones (bit_and w (word m m m m)) ≡ bit (t0 w) + (bit (t1 w) + (bit (t2 w) + (bit (t3 w) + 0)))
  bits_of w h = counted w m h small_mask ∙ omega (arith, is (t0 w), is (t1 w), is (t2 w), is (t3 w))

-- one bit of a number
one_bit : (k t : ℕ) → bit_and t (2 ^ k) ≡ t / 2 ^ k % 2 * 2 ^ k
one_bit k t = ap (bit_and t) (let twice : 2 ^ (1 + k) ≡ 2 * 2 ^ k = pow-add 2 1 k in omega arith) ∙ and_high t 1 k

some-bit : (d p : ℕ) → d < 2 → 0 < p → not (eqb (d * p) 0) ≡ eqb d 1
some-bit zero p h k = ap (λ x. not (eqb x 0)) (zero-mul p)
some-bit (suc zero) p h k = ap not (ne_eqb (1 * p) 0 (λ e. omega arith))
some-bit (suc (suc d)) p h k = absurd (omega arith)

-- a bit that is tested
pub tested : (k t : ℕ) → not (eqb (bit_and t (2 ^ k)) 0) ≡ eqb (t / 2 ^ k % 2) 1
tested k t = ap (λ x. not (eqb x 0)) (one_bit k t) ∙ some-bit (t / 2 ^ k % 2) (2 ^ k) (omega arith) (pow_pos k)

-- Tags packed into words: how many words there are, and that they count what the tags count. Assumes nothing.
use Rattle.std.proofs.Common.{◌≡◌, ℕ, zero, suc, ◌+◌, ◌*◌, ◌/◌, ◌%◌, ◌^◌, ◌<◌, ◌≤◌, List, [], ◌∷◌, ◌++◌, length, map, get_or, drop, replicate, sym, refl, ap, ◌∙◌, arith, zero-mul, rules}
use Rattle.std.proofs.lemmas.Nat.{div-mul-add, mod-mul-add}
use Rattle.std.specs.Simd.{first_chunks}
use Rattle.monoid.specs.Laws.{Laws, reduced}
use Rattle.monoid.specs.PathTags.{Counts, none, plus, from_tag, from_word, tag}
use Rattle.monoid.specs.Packing.{blank, byte, word, packed, Packs}
use Rattle.monoid.specs.declared.path.PathTag.{PathTag}
use Rattle.monoid.proofs.Reducing.{reduced-append}

pub plus_laws : Laws none plus
plus_laws = search rules

abbrev counted : List PathTag → Counts
counted = reduced none plus from_tag

-- the four bytes of a word
module _ (x y z u : ℕ) (hx : x < 256) (hy : y < 256) (hz : z < 256) (hu : u < 256) where
  first : (x + y * 2 ^ 8 + z * 2 ^ 16 + u * 2 ^ 24) % 256 ≡ x
  first =
      let e : x + y * 2 ^ 8 + z * 2 ^ 16 + u * 2 ^ 24 ≡ (y + z * 256 + u * 65536) * 256 + x = omega arith in
      ap (λ n. n % 256) e ∙ mod-mul-add (y + z * 256 + u * 65536) 256 x hx

  second : (x + y * 2 ^ 8 + z * 2 ^ 16 + u * 2 ^ 24) / 256 % 256 ≡ y
  second =
      let e : x + y * 2 ^ 8 + z * 2 ^ 16 + u * 2 ^ 24 ≡ ((z + u * 256) * 256 + y) * 256 + x = omega arith in
      ap (λ n. n / 256 % 256) e ∙ ap (λ n. n % 256) (div-mul-add ((z + u * 256) * 256 + y) 256 x hx) ∙ mod-mul-add (z + u * 256) 256 y hy

  third : (x + y * 2 ^ 8 + z * 2 ^ 16 + u * 2 ^ 24) / 65536 % 256 ≡ z
  third =
      let e : x + y * 2 ^ 8 + z * 2 ^ 16 + u * 2 ^ 24 ≡ (u * 256 + z) * 65536 + (y * 256 + x) = omega arith in
      ap (λ n. n / 65536 % 256) e ∙ ap (λ n. n % 256) (div-mul-add (u * 256 + z) 65536 (y * 256 + x) (omega arith)) ∙ mod-mul-add u 256 z hz

  fourth : (x + y * 2 ^ 8 + z * 2 ^ 16 + u * 2 ^ 24) / 16777216 % 256 ≡ u
  fourth =
      let e : x + y * 2 ^ 8 + z * 2 ^ 16 + u * 2 ^ 24 ≡ u * 16777216 + (z * 65536 + y * 256 + x) = omega arith in
      let d = div-mul-add u 16777216 (z * 65536 + y * 256 + x) (omega arith) in
      ap (λ n. n / 16777216 % 256) e ∙ ap (λ n. n % 256) d ∙ omega arith

-- a tag counts by its byte
same-bit_2 : (n : ℕ) → n % 256 / 4 % 2 ≡ n / 4 % 2
same-bit_2 n = omega arith

same-bit_3 : (n : ℕ) → n % 256 / 8 % 2 ≡ n / 8 % 2
same-bit_3 n = omega arith

same-bit_4 : (n : ℕ) → n % 256 / 16 % 2 ≡ n / 16 % 2
same-bit_4 n = omega arith

same-bit_5 : (n : ℕ) → n % 256 / 32 % 2 ≡ n / 32 % 2
same-bit_5 n = omega arith

same-bit_6 : (n : ℕ) → n % 256 / 64 % 2 ≡ n / 64 % 2
same-bit_6 n = omega arith

same_type : (n : ℕ) → n % 256 % 4 ≡ n % 4
same_type n = omega arith

by_byte : (t : PathTag) → from_tag (tag (byte t)) ≡ from_tag t
by_byte t = let n = t.0 in cc (same-bit_2 n, same-bit_3 n, same-bit_4 n, same-bit_5 n, same-bit_6 n, same_type n)

word_counts : (a b c d : PathTag) → from_word (word a b c d) ≡ counted (a ∷ b ∷ c ∷ d ∷ [])
word_counts a b c d =
    let lt : (t : PathTag) → byte t < 256 = λ t. omega arith in
    let w = word a b c d in
    let ta : from_tag (tag (w % 256)) ≡ from_tag a = ap (λ n. from_tag (tag n)) (first (byte a) (byte b) (byte c) (byte d) (lt a) (lt b) (lt c) (lt d)) ∙ by_byte a in
    let tb : from_tag (tag (w / 256 % 256)) ≡ from_tag b = ap (λ n. from_tag (tag n)) (second (byte a) (byte b) (byte c) (byte d) (lt a) (lt b) (lt c) (lt d)) ∙ by_byte b in
    let tc : from_tag (tag (w / 65536 % 256)) ≡ from_tag c = ap (λ n. from_tag (tag n)) (third (byte a) (byte b) (byte c) (byte d) (lt a) (lt b) (lt c) (lt d)) ∙ by_byte c in
    let td : from_tag (tag (w / 16777216 % 256)) ≡ from_tag d = ap (λ n. from_tag (tag n)) (fourth (byte a) (byte b) (byte c) (byte d) (lt a) (lt b) (lt c) (lt d)) ∙ by_byte d in
    λ i. plus (ta i) (plus (tb i) (plus (tc i) (plus (td i) none)))

blanks_count : (k : ℕ) → counted (replicate k blank) ≡ none
blanks_count zero = refl
blanks_count (suc k) = ap (plus none) (blanks_count k)

-- zero tags that follow count nothing
pub blanks_after : (ts : List PathTag) (k : ℕ) → counted (ts ++ replicate k blank) ≡ counted ts
blanks_after ts k =
    reduced-append plus_laws from_tag ts (replicate k blank) ∙ ap (plus (counted ts)) (blanks_count k) ∙ plus_laws.right (counted ts)

-- one word more
more_counts : (a b c d : PathTag) (rest : List PathTag) (ws : List ℕ) → reduced none plus from_word ws ≡ counted rest →
    reduced none plus from_word (word a b c d ∷ ws) ≡ counted (a ∷ b ∷ c ∷ d ∷ rest)
more_counts a b c d rest ws h =
    ap (λ m. plus m (reduced none plus from_word ws)) (word_counts a b c d)
    ∙ ap (plus (counted (a ∷ b ∷ c ∷ d ∷ []))) h
    ∙ sym (reduced-append plus_laws from_tag (a ∷ b ∷ c ∷ d ∷ []) rest)

pub packed-counts : (ts : List PathTag) → reduced none plus from_word (packed ts) ≡ counted ts
packed-counts [] = refl
packed-counts (a ∷ []) = more_counts a blank blank blank [] [] refl ∙ blanks_after (a ∷ []) 3
packed-counts (a ∷ b ∷ []) = more_counts a b blank blank [] [] refl ∙ blanks_after (a ∷ b ∷ []) 2
packed-counts (a ∷ b ∷ c ∷ []) = more_counts a b c blank [] [] refl ∙ blanks_after (a ∷ b ∷ c ∷ []) 1
packed-counts (a ∷ b ∷ c ∷ d ∷ rest) = more_counts a b c d rest (packed rest) (packed-counts rest)

pub length-packed : (ts : List PathTag) → length (packed ts) ≡ (length ts + 3) / 4
length-packed [] = refl
length-packed (a ∷ []) = refl
length-packed (a ∷ b ∷ []) = refl
length-packed (a ∷ b ∷ c ∷ []) = refl
length-packed (a ∷ b ∷ c ∷ d ∷ rest) = let h = length-packed rest in omega arith

-- the word of a four
abbrev pub word_of : List PathTag → ℕ
word_of ts = word (get_or ts 0 blank) (get_or ts 1 blank) (get_or ts 2 blank) (get_or ts 3 blank)

-- the fours, and those after them
pub packed_fours : (k : ℕ) (ts : List PathTag) → k * 4 ≤ length ts → packed ts ≡ map word_of (first_chunks 4 k ts) ++ packed (drop (k * 4) ts)
packed_fours zero ts h = ap (λ n. packed (drop n ts)) (sym (zero-mul 4))
packed_fours (suc k) [] h = absurd (omega arith)
packed_fours (suc k) (a ∷ []) h = absurd (omega arith)
packed_fours (suc k) (a ∷ b ∷ []) h = absurd (omega arith)
packed_fours (suc k) (a ∷ b ∷ c ∷ []) h = absurd (omega arith)
packed_fours (suc k) (a ∷ b ∷ c ∷ d ∷ rest) h =
    let e : suc (suc (suc (suc (k * 4)))) ≡ suc k * 4 = omega arith in
    ap (λ ws. word a b c d ∷ ws) (packed_fours k rest (omega arith))
    ∙ ap (λ n. word a b c d ∷ (map word_of (first_chunks 4 k rest) ++ packed (drop n (a ∷ b ∷ c ∷ d ∷ rest)))) e

-- the tags that are left, with blanks after them
pub packed_rest : (rest : List PathTag) → 0 < length rest → length rest < 4 →
    packed rest ≡ word_of (rest ++ drop (length rest) (blank ∷ blank ∷ blank ∷ blank ∷ [])) ∷ []
packed_rest [] some few = absurd (omega arith)
packed_rest (a ∷ []) some few = refl
packed_rest (a ∷ b ∷ []) some few = refl
packed_rest (a ∷ b ∷ c ∷ []) some few = refl
packed_rest (a ∷ b ∷ c ∷ d ∷ rest) some few = absurd (omega arith)

pub packed_none : (rest : List PathTag) → length rest ≡ 0 → packed rest ≡ []
packed_none [] none = refl
packed_none (a ∷ rest) none = absurd (omega arith)

pub packs : (ts : List PathTag) (ws : List ℕ) → ws ≡ packed ts → Packs ts ws
packs ts ws e = record {
  words = e;
  few = ap length e ∙ length-packed ts;
  counts = ap (reduced none plus from_word) e ∙ packed-counts ts;
  filled = λ k. packed-counts (ts ++ replicate k blank) ∙ blanks_after ts k;
}

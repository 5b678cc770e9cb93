-- The part of a stream that an open path is lent. Assumes nothing.
use Rattle.std.proofs.Common.{◌≡◌, ℕ, ◌+◌, ◌-◌, ◌≤◌, min, Bool, true, false, ◌||◌, ltb, List, ◌++◌, length, take, drop, refl, ap, ◌∙◌, arith, length-take-le, take-take, drop_at, ltb-false, ltb-true, le-ltb, lt-ltb}
use lib.Seq.{take-append-le}
use borrow.Rule.Slice.PartMut.{put_mid, post_of}
use Rattle.std.specs.List.{between}

module _ {X : Type 0} where
  -- its first entries are those from its start on
  pub take_part : (n a z : ℕ) (xs : List X) → a + n ≤ z → take n (between a z xs) ≡ take n (drop a xs)
  take_part n a z xs h = take-take n (z - a) (drop a xs) (omega arith)

  -- what is written there stands there
  pub part-after : (n a k : ℕ) (xs ys : List X) → a ≤ length xs → n ≤ length ys → take n (drop a (put_mid a k xs ys)) ≡ take n ys
  part-after n a k xs ys h l =
      ap (take n) (drop_at (take a xs) (ys ++ post_of a k xs) a (length-take-le a xs h)) ∙ take-append-le n ys (post_of a k xs) l

either : (s t : Bool) (b n l most z : ℕ) → ltb l (b + n) ≡ s → ltb most (b + n) ≡ t → z ≡ min l most → b ≤ z → ltb (z - b) n ≡ (s || t)
either true t b n l most z p q e h = let lt = ltb-true l (b + n) p in lt-ltb (z - b) n (omega arith)
either false true b n l most z p q e h = let lt = ltb-true most (b + n) q in lt-ltb (z - b) n (omega arith)
either false false b n l most z p q e h = let le = ltb-false l (b + n) p in let le₂ = ltb-false most (b + n) q in le-ltb (z - b) n (omega arith)

-- what passes the part passes the stream's end or its maximum
pub passes : (b n l most z : ℕ) → z ≡ min l most → b ≤ z → ltb (z - b) n ≡ (ltb l (b + n) || ltb most (b + n))
passes b n l most z e h = either (ltb l (b + n)) (ltb most (b + n)) b n l most z refl refl e h

-- Parts and places of lists with more at their end. Assumes nothing.
use Rattle.std.proofs.Common.{◌≡◌, ℕ, zero, suc, ◌+◌, ◌<◌, ◌≤◌, ◌⊎◌, List, [], ◌∷◌, ◌++◌, length, take, drop, Some, refl, ap, ◌∙◌, inl, inr, arith, length-drop}
use Rattle.std.specs.List.{slice_get}
use Rattle.std.proofs.lemmas.List.{drop-append-le, take-append-le}
use Rattle.values.specs.Streams.{last_of}
use Rattle.replay.specs.Wanted.{last_counted}

pub part_append : {A : Type 0} (n k : ℕ) (xs ys : List A) → k + n ≤ length xs → take n (drop k (xs ++ ys)) ≡ take n (drop k xs)
part_append n k xs ys h = ap (take n) (drop-append-le k xs ys (omega arith)) ∙ take-append-le n (drop k xs) ys (omega (arith, length-drop k xs))

pub nth_append : {A : Type 0} (xs ys : List A) (n : ℕ) → n < length xs → slice_get (xs ++ ys) n ≡ slice_get xs n
nth_append [] ys n h = absurd (omega arith)
nth_append (x ∷ xs) ys zero h = refl
nth_append (x ∷ xs) ys (suc n) h = nth_append xs ys n (omega arith)

pub counted-append : {A : Type 0} (xs ys : List A) (n : ℕ) → n ≤ length xs → last_counted (xs ++ ys) n ≡ last_counted xs n
counted-append xs ys zero h = refl
counted-append xs ys (suc n) h = nth_append xs ys n h

pub counted_last : {A : Type 0} (xs : List A) → last_counted xs (length xs) ≡ last_of xs
counted_last [] = refl
counted_last (x ∷ []) = refl
counted_last (x ∷ y ∷ xs) = counted_last (y ∷ xs)

pub last_snoc : {A : Type 0} (xs : List A) (x : A) → last_of (xs ++ x ∷ []) ≡ Some x
last_snoc [] x = refl
last_snoc (y ∷ []) x = refl
last_snoc (y ∷ z ∷ xs) x = last_snoc (z ∷ xs) x

-- a place in a list with one more at its end
pub nth_snoc : {A : Type 0} (xs : List A) (y : A) (i : ℕ) (z : A) → slice_get (xs ++ y ∷ []) i ≡ Some z → ((i < length xs) × (slice_get xs i ≡ Some z)) ⊎ ((i ≡ length xs) × (y ≡ z))
nth_snoc [] y zero z h = inr (refl, cc)
nth_snoc [] y (suc i) z h = let bad : ◌≡◌ {A = ℕ} 0 1 = cc in absurd (omega arith)
nth_snoc (x ∷ xs) y zero z h = inl (omega arith, h)
nth_snoc (x ∷ xs) y (suc i) z h =
    elim (nth_snoc xs y i z h) [ inl p ↦ inl (omega (arith, p.0), p.1) | inr p ↦ inr (ap suc p.0, p.1) ]

pub nth_last : {A : Type 0} (xs : List A) (y : A) → slice_get (xs ++ y ∷ []) (length xs) ≡ Some y
nth_last [] y = refl
nth_last (x ∷ xs) y = nth_last xs y

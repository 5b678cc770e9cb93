-- What the laws give of `reduced`, and of every bracketing. Assumes nothing.
use Rattle.std.proofs.Common.{◌≡◌, ℕ, ◌+◌, ◌<◌, ◌≤◌, List, [], ◌∷◌, ◌++◌, length, get_or, take, Ok, Err, Result, sym, ap, ◌∙◌, subst, arith, length-append, length-take}
use Rattle.std.proofs.lemmas.List.{take_more}
use Rattle.monoid.specs.declared.CountError.{CountError}
use Rattle.monoid.specs.Answers.{most}
use Rattle.monoid.specs.Bracketings.{Bracketing, nothing, only, pair, leaves, Joins, Means, Gives}
use Rattle.monoid.specs.Laws.{Laws, reduced}

module _ {S A : Type 0} {empty : A} {op : A → A → A} (laws : Laws empty op) (source : S → A) where
  pub reduced-append : (xs ys : List S) → reduced empty op source (xs ++ ys) ≡ op (reduced empty op source xs) (reduced empty op source ys)
  reduced-append [] ys = sym (laws.left (reduced empty op source ys))
  reduced-append (x ∷ xs) ys = ap (op (source x)) (reduced-append xs ys) ∙ sym (laws.assoc (source x) (reduced empty op source xs) (reduced empty op source ys))

  pub reduced-one : (x : S) → reduced empty op source (x ∷ []) ≡ source x
  reduced-one x = laws.right (source x)

  -- one source more: `all` is the meaning of those before i, `one` that of the source at i
  pub reduced-more : (xs : List S) (i : ℕ) {x : S} {all one : A} → i < length xs → x ≡ get_or xs i x →
      all ≡ reduced empty op source (take i xs) → one ≡ source x → op all one ≡ reduced empty op source (take (i + 1) xs)
  reduced-more xs i {x} {all} {one} within read before here =
      let pushed : take (i + 1) xs ≡ take i xs ++ (x ∷ []) = take_more xs i x within ∙ ap (λ y. take i xs ++ (y ∷ [])) (sym read) in
      let split = reduced-append (take i xs) (x ∷ []) in
      rw (before, here, pushed, split, reduced-one x)

-- and what they come to fits
pub fitting_more : {S A : Type 0} {empty : A} {op : A → A → A} (laws : Laws empty op) (source : S → A) (Fits : A → Type 0) →
    ((ss : List S) → length ss ≤ most → Fits (reduced empty op source ss)) →
    (xs : List S) (i : ℕ) {x : S} {all one : A} → length xs ≤ most → i < length xs → x ≡ get_or xs i x →
    all ≡ reduced empty op source (take i xs) → one ≡ source x → Fits (op all one)
fitting_more {empty = empty} {op = op} laws source Fits few xs i short within read before here =
    subst Fits (sym (reduced-more laws source xs i within read before here)) (few (take (i + 1) xs) (simp length-take (omega arith)))

-- every bracketing of few sources answers a record, and what its sources reduce to is its meaning
module _ {M S A : Type 0} (meaning : M → A) {empty : A} {op : A → A → A} (laws : Laws empty op) (source : S → A) (Fits : A → Type 0)
    (few : (ss : List S) → length ss ≤ most → Fits (reduced empty op source ss)) where
  joined : (x y r : Result M CountError) (xs ys : List S) → length (xs ++ ys) ≤ most →
      Means meaning (reduced empty op source xs) x → Means meaning (reduced empty op source ys) y → Joins meaning op Fits x y r →
      Means meaning (reduced empty op source (xs ++ ys)) r
  joined (Ok x) (Ok y) (Ok z) xs ys h p q j =
      j.1 ∙ ap (λ m. op m (meaning y)) p ∙ ap (op (reduced empty op source xs)) q ∙ sym (reduced-append laws source xs ys)
  joined (Ok x) (Ok y) (Err e) xs ys h p q j =
      let is : op (meaning x) (meaning y) ≡ reduced empty op source (xs ++ ys) =
      ap (λ m. op m (meaning y)) p ∙ ap (op (reduced empty op source xs)) q ∙ sym (reduced-append laws source xs ys) in
      j.0 (subst Fits (sym is) (few (xs ++ ys) h))
  joined (Ok x) (Err e) r xs ys h p q j = absurd q
  joined (Err e) y r xs ys h p q j = absurd p

  pub bracketing-means : (t : Bracketing S) → length (leaves t) ≤ most → (r : Result M CountError) →
      Gives meaning empty op source Fits t r → Means meaning (reduced empty op source (leaves t)) r
  bracketing-means nothing h r g = g
  bracketing-means (only s) h (Ok x) g = g ∙ sym (reduced-one laws source s)
  bracketing-means (only s) h (Err e) g = g
  bracketing-means (pair a b) h r g =
      let n = length-append (leaves a) (leaves b) in
      joined g.0 g.1.0 r (leaves a) (leaves b) h
      (bracketing-means a (omega arith) g.0 g.1.1.0)
      (bracketing-means b (omega arith) g.1.0 g.1.1.1)
      g.1.1.2

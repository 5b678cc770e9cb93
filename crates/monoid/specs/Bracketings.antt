-- Bracketings of a list of sources, and the answers that the calls of one may give. Assumes nothing.
use Rattle.std.specs.Prelude.{◌≡◌, List, [], ◌∷◌, ◌++◌, Ok, Err, Result}
use Rattle.monoid.specs.declared.CountError.{CountError}
use Rattle.monoid.specs.Answers.{Combined}

-- which sources are combined with which
pub data Bracketing (S : Type 0) : Type 0 where
  nothing : Bracketing S
  only : S → Bracketing S
  pair : Bracketing S → Bracketing S → Bracketing S

-- its sources, from left to right
abbrev pub leaves : {S : Type 0} → Bracketing S → List S
leaves nothing = []
leaves (only s) = s ∷ []
leaves (pair l r) = leaves l ++ leaves r

-- two answers are combined, unless one of them was declined
abbrev pub Joins : {M A : Type 0} → (M → A) → (A → A → A) → (A → Type 0) → Result M CountError → Result M CountError → Result M CountError → Type 0
Joins meaning op Fits (Ok x) (Ok y) r = Combined meaning Fits (op (meaning x) (meaning y)) r
Joins meaning op Fits (Ok x) (Err e) r = r ≡ Err e
Joins meaning op Fits (Err e) k r = r ≡ Err e

abbrev pub Means : {M A : Type 0} → (M → A) → A → Result M CountError → Type 0
Means meaning m (Ok x) = meaning x ≡ m
Means meaning m (Err e) = ⊥

-- a bracketing worked out by `identity`, `new` and `combine` may answer r, by the promises of the three
abbrev pub Gives : {M S A : Type 0} → (M → A) → A → (A → A → A) → (S → A) → (A → Type 0) → Bracketing S → Result M CountError → Type 0
Gives meaning empty op source Fits nothing r = Means meaning empty r
Gives meaning empty op source Fits (only s) r = Means meaning (source s) r
Gives {M = M} meaning empty op source Fits (pair a b) r =
    (x : Result M CountError) × ((y : Result M CountError) × (Gives meaning empty op source Fits a x × Gives meaning empty op source Fits b y × Joins meaning op Fits x y r))

-- an answer is not declined and has the meaning of x
abbrev pub Agrees : {M A : Type 0} → (M → A) → M → Result M CountError → Type 0
Agrees meaning x a = Means meaning (meaning x) a

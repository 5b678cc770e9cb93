-- What a monoid is, and what a list of sources reduces to. Assumes nothing.
use Rattle.std.specs.Prelude.{◌≡◌, List, [], ◌∷◌}

-- combining is associative, and the identity changes nothing on either side
pub record Laws {A : Type 0} (empty : A) (op : A → A → A) : Type 0 where
  pub left : (x : A) → op empty x ≡ x
  pub right : (x : A) → op x empty ≡ x
  pub assoc : (x y z : A) → op (op x y) z ≡ op x (op y z)

-- the meanings of the sources, combined in their order; the empty list reduces to the identity's meaning
abbrev pub reduced : {S A : Type 0} → A → (A → A → A) → (S → A) → List S → A
reduced empty op source [] = empty
reduced empty op source (s ∷ ss) = op (source s) (reduced empty op source ss)

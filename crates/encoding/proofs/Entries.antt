-- The last of the used entries. Assumes nothing.
use Rattle.std.proofs.Common.{◌≡◌, suc, ◌-◌, List, [], ◌∷◌, length, refl, ap, ◌∙◌, arith}
use Rattle.std.specs.Prelude.{slice_get}
use Rattle.values.specs.Streams.{last_of}

pub last_entry : {X : Type 0} (xs : List X) → slice_get xs (length xs - 1) ≡ last_of xs
last_entry [] = refl
last_entry (x ∷ []) = refl
last_entry (x ∷ y ∷ xs) =
    let n : suc (suc (length xs)) - 1 ≡ suc (suc (length xs) - 1) = omega arith in ap (slice_get (x ∷ y ∷ xs)) n ∙ last_entry (y ∷ xs)

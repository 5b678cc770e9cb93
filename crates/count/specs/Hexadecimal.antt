-- Numbers written in hex digits. Assumes nothing.
use Rattle.std.specs.Prelude.{◌≡◌, ℕ, ◌^◌, ◌<◌, List, Some, None, Option, Ok, Err, Result}
use Rattle.std.specs.Str.Parse.{IsNumeral, digits_value}
use Rattle.count.specs.declared.input.Problem.{Problem}

-- a text of hex digits, one at least, writes a number of at most k bits
abbrev pub Writes : ℕ → List ℕ → Option ℕ → Type 0
Writes k bs (Some n) = IsNumeral 16 bs × (digits_value 16 bs < 2 ^ k) × (n ≡ digits_value 16 bs)
Writes k bs None = IsNumeral 16 bs → digits_value 16 bs < 2 ^ k → ⊥

-- a text is read as an entry whose number it writes, and refused if it writes none of at most k bits
abbrev pub Reads : {E : Type 0} → (E → ℕ) → ℕ → List ℕ → Result E Problem → Type 0
Reads number k bs (Ok e) = Writes k bs (Some (number e))
Reads number k bs (Err p) = Writes k bs None

-- The bits of the flags. Assumes nothing.
use Rattle.std.specs.Prelude.{ℕ, ◌+◌, Bool, cond}

-- the word of the two bits: 1, the next transform is written though it be the same; 2, the next style is
abbrev pub flags_of : Bool → Bool → ℕ
flags_of transform style = cond transform 1 0 + cond style 2 0

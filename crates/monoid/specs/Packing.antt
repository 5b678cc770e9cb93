-- Path tags in words of four. Assumes nothing.
use Rattle.std.specs.Prelude.{◌≡◌, ℕ, ◌+◌, ◌*◌, ◌/◌, ◌%◌, ◌^◌, List, [], ◌∷◌, ◌++◌, length, replicate}
use Rattle.monoid.specs.Laws.{reduced}
use Rattle.monoid.specs.PathTags.{none, plus, from_tag, from_word, tag}
use Rattle.monoid.specs.declared.path.PathTag.{PathTag}

-- a tag that counts nothing
abbrev pub blank : PathTag
blank = tag 0

-- a tag takes one byte
abbrev pub byte : PathTag → ℕ
byte t = t.0 % 2 ^ 8

-- four tags in a word, the first in the lowest byte
abbrev pub word : PathTag → PathTag → PathTag → PathTag → ℕ
word a b c d = byte a + byte b * 2 ^ 8 + byte c * 2 ^ 16 + byte d * 2 ^ 24

-- the words of some tags, the last filled up with zero tags
abbrev pub packed : List PathTag → List ℕ
packed [] = []
packed (a ∷ []) = word a blank blank blank ∷ []
packed (a ∷ b ∷ []) = word a b blank blank ∷ []
packed (a ∷ b ∷ c ∷ []) = word a b c blank ∷ []
packed (a ∷ b ∷ c ∷ d ∷ rest) = word a b c d ∷ packed rest

-- the words of some tags: they count what the tags count, however many zero tags follow
pub record Packs (ts : List PathTag) (ws : List ℕ) : Type 0 where
  pub words : ws ≡ packed ts
  pub few : length ws ≡ (length ts + 3) / 4
  pub counts : reduced none plus from_word ws ≡ reduced none plus from_tag ts
  pub filled : (k : ℕ) → reduced none plus from_word (packed (ts ++ replicate k blank)) ≡ reduced none plus from_tag ts

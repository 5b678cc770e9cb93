-- Rows worked through, of the definitions. Assumes nothing.
use Rattle.std.specs.Prelude.{◌≡◌, ℕ, List, [], ◌∷◌}
use Rattle.monoid.specs.Laws.{reduced}
use Rattle.monoid.specs.Clips as clip
use Rattle.monoid.specs.DrawTags as draw
use Rattle.monoid.specs.PathTags as tags
use Rattle.monoid.specs.declared.draw.DrawTag.{DrawTag}

abbrev tag : ℕ → DrawTag
tag n = record { 0 = n }

-- a begin, a colour and an end
abbrev clipped_colour : List DrawTag
clipped_colour = tag 0x49 ∷ tag 0x44 ∷ tag 0x21 ∷ []

pub record Worked : Type 0 where
  pub word : tags.from_word 0x09094020 ≡ record { transforms = 1; segments = 2; words = 4; styles = 2; paths = 0 }
  pub draws : reduced draw.none draw.plus draw.from_tag clipped_colour ≡ record { paths = 3; clips = 2; words = 3; info = 2 }
  pub clips : reduced clip.still clip.after clip.from_tag clipped_colour ≡ clip.still

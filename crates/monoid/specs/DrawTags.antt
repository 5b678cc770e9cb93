-- What draw tags count. Assumes nothing.
use Rattle.std.specs.Prelude.{ℕ, ◌+◌, ◌/◌, ◌%◌, ◌^◌, ◌<◌, cond, ◌==◌}
use Rattle.monoid.specs.declared.draw.DrawMonoid.{DrawMonoid}
use Rattle.monoid.specs.declared.draw.DrawTag.{DrawTag}

pub record Draws : Type 0 where
  pub paths : ℕ
  pub clips : ℕ
  pub words : ℕ
  pub info : ℕ

abbrev pub draws_of : DrawMonoid → Draws
draws_of m = record { paths = m.path_ix; clips = m.clip_ix; words = m.scene_offset; info = m.info_offset }

abbrev pub none : Draws
none = record { paths = 0; clips = 0; words = 0; info = 0 }

abbrev pub plus : Draws → Draws → Draws
plus x y = record { paths = x.paths + y.paths; clips = x.clips + y.clips; words = x.words + y.words; info = x.info + y.info }

-- the number in bits 6 to 9
abbrev pub info_size : DrawTag → ℕ
info_size t = t.0 / 2 ^ 6 % 2 ^ 4

-- one path unless the tag is 0, a clip for bit 0, data words in bits 2 to 4, info in bits 6 to 9
abbrev pub from_tag : DrawTag → Draws
from_tag t = record { paths = cond (t.0 == 0) 0 1; clips = t.0 % 2; words = t.0 / 2 ^ 2 % 2 ^ 3; info = info_size t }

abbrev pub Small : Draws → Type 0
Small x = (x.paths < 2 ^ 32) × (x.clips < 2 ^ 32) × (x.words < 2 ^ 32) × (x.info < 2 ^ 32)

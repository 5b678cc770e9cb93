-- What path tags are and what they count. Assumes nothing.
use Rattle.std.specs.Prelude.{ℕ, ◌+◌, ◌*◌, ◌/◌, ◌%◌, ◌^◌, ◌<◌, Bool, cond, not, List, [], ◌∷◌, Some, None, Option, ◌==◌, bit_or}
use Rattle.monoid.specs.Laws.{reduced}
use Rattle.monoid.specs.declared.path.PathMonoid.{PathMonoid}
use Rattle.monoid.specs.declared.path.PathTag.{PathTag}
use Rattle.monoid.specs.declared.path.PathSegmentType.{PathSegmentType}
use Rattle.monoid.specs.declared.path.PathSegmentType.TheVariants.{LineTo, QuadTo, CubicTo}

-- the bit at place k
abbrev pub bit : ℕ → PathTag → ℕ
bit k t = t.0 / 2 ^ k % 2

-- how many points a segment has past its first, and 0 for none
abbrev pub points : PathSegmentType → ℕ
points LineTo = 1
points QuadTo = 2
points CubicTo = 3

abbrev pub points_of : Option PathSegmentType → ℕ
points_of (Some kind) = points kind
points_of None = 0

-- the low two bits: how many points a segment has past its first, and 0 for a tag that is no segment
abbrev pub segment_type : PathTag → ℕ
segment_type t = t.0 % 4

abbrev pub is_segment : PathTag → Bool
is_segment t = not (segment_type t == 0)

-- 08: the coordinates are f32 numbers, two words to a point
abbrev pub is_f32 : PathTag → Bool
is_f32 t = bit 3 t == 1

-- 04: the segment is the last of its subpath
abbrev pub ends_subpath : PathTag → Bool
ends_subpath t = bit 2 t == 1

-- the tag with 04 set
abbrev pub ended : PathTag → PathTag
ended t = record { 0 = bit_or t.0 4 }

pub record Counts : Type 0 where
  pub transforms : ℕ
  pub segments : ℕ
  pub words : ℕ
  pub styles : ℕ
  pub paths : ℕ

abbrev pub counts_of : PathMonoid → Counts
counts_of m = record { transforms = m.trans_ix; segments = m.pathseg_ix; words = m.pathseg_offset; styles = m.style_ix; paths = m.path_ix }

abbrev pub none : Counts
none = record { transforms = 0; segments = 0; words = 0; styles = 0; paths = 0 }

abbrev pub plus : Counts → Counts → Counts
plus x y = record {
  transforms = x.transforms + y.transforms;
  segments = x.segments + y.segments;
  words = x.words + y.words;
  styles = x.styles + y.styles;
  paths = x.paths + y.paths;
}

-- one tag: a transform for 20; a segment if its type is not 0; as words its type and one more for 04, doubled for 08;
-- two for a style, 40; a path for 10
abbrev pub from_tag : PathTag → Counts
from_tag t = record {
  transforms = bit 5 t;
  segments = cond (segment_type t == 0) 0 1;
  words = (segment_type t + bit 2 t) * (1 + bit 3 t);
  styles = 2 * bit 6 t;
  paths = bit 4 t;
}

abbrev pub tag : ℕ → PathTag
tag n = record { 0 = n }

-- the four tags of a word, the first in the lowest byte
abbrev pub tags_of : ℕ → List PathTag
tags_of w = tag (w % 256) ∷ tag (w / 256 % 256) ∷ tag (w / 65536 % 256) ∷ tag (w / 16777216 % 256) ∷ []

-- a word: the sum over its tags
abbrev pub from_word : ℕ → Counts
from_word w = reduced none plus from_tag (tags_of w)

abbrev pub Small : Counts → Type 0
Small x = (x.transforms < 2 ^ 32) × (x.segments < 2 ^ 32) × (x.words < 2 ^ 32) × (x.styles < 2 ^ 32) × (x.paths < 2 ^ 32)

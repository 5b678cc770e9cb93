-- The tags that calls write. Assumes nothing.
use Rattle.std.specs.Prelude.{ℕ}
use Rattle.monoid.specs.declared.path.PathTag.{PathTag}
use Rattle.monoid.specs.declared.draw.DrawTag.{DrawTag}
use Rattle.monoid.specs.PathTags.{tag}

abbrev pub transform_tag : PathTag
transform_tag = tag 0x20

abbrev pub style_tag : PathTag
style_tag = tag 0x40

abbrev pub draw_tag : ℕ → DrawTag
draw_tag n = record { 0 = n }

abbrev pub color_tag : DrawTag
color_tag = draw_tag 0x44

abbrev pub blur_tag : DrawTag
blur_tag = draw_tag 0x2d4

abbrev pub begin_clip_tag : DrawTag
begin_clip_tag = draw_tag 0x49

abbrev pub end_clip_tag : DrawTag
end_clip_tag = draw_tag 0x21

-- The rule of each call of an Encoding. Assumes nothing.
use Rattle.std.specs.Prelude.{ℕ, ◌+◌, ◌-◌, ◌*◌, Bool, true, false, cond, List, [], ◌∷◌, ◌++◌, length, Some, None, Ok, Err, Option, Result, ◌==◌, to_bits, Float}
use Rattle.std.specs.Float.{binary32}
use Rattle.geometry.specs.Numbers.{all_finite}
use Rattle.monoid.specs.declared.draw.DrawTag.{DrawTag}
use Rattle.path.specs.Entries.{path_tag}
use Rattle.values.specs.declared.transform.Transform.{Transform}
use Rattle.values.specs.declared.style.Fill.{Fill}
use Rattle.values.specs.declared.style.Stroke.{Stroke}
use Rattle.values.specs.declared.style.Style.{Style}
use Rattle.values.specs.declared.error.Stream.TheVariants.{PathTags, DrawTags, DrawData, Transforms, Styles}
use Rattle.values.specs.declared.error.EncodeError.{EncodeError}
use Rattle.values.specs.declared.error.EncodeError.TheVariants.{NotFinite, NoOpenClip}
use Rattle.values.specs.Errors.{when, unless, told}
use Rattle.values.specs.Settings.{same_transform, finite_transform, same_style, is_new, fill_style, stroke_style, stroke_error}
use Rattle.encoding.specs.Tags.{transform_tag, style_tag, color_tag, blur_tag, begin_clip_tag, end_clip_tag}
use Rattle.encoding.specs.Sheet.{Used, Settings, Outlines, Drawn, Sheet, with_transform, with_style, with_settings, with_drawn, with_outlines}
use Rattle.encoding.specs.Promises.{Rule}

abbrev pub Nothing : Type 0
Nothing = Unit {0}

abbrev pub added : {X : Type 0} → Used X → List X → Used X
added u xs = record { count = u.count + length xs; entries = u.entries ++ xs }

-- transforms and styles

-- `force_next_transform_and_style`
abbrev pub forced : Sheet → Sheet
forced s = with_settings (record { written = s.transforms.written; forced = true }) (record { written = s.styles.written; forced = true }) s

abbrev pub set_to : {X : Type 0} → Settings X → X → Settings X
set_to t x = record { written = added t.written (x ∷ []); forced = false }

abbrev pub new_transform : Transform → Sheet → Bool
new_transform t s = is_new same_transform s.transforms.forced s.transforms.written.entries t

abbrev pub transformed : Transform → Sheet → Sheet
transformed t s = with_transform (added s.tags (transform_tag ∷ [])) (set_to s.transforms t) s

-- `encode_transform`
abbrev pub transform_rule : Transform → Rule Bool
transform_rule t = record {
  on = PathTags ∷ Transforms ∷ [];
  own = λ s. unless (finite_transform t) NotFinite;
  answer = λ s. new_transform t s;
  next = λ s. cond (new_transform t s) (transformed t s) s;
}

abbrev pub new_style : Style → Sheet → Bool
new_style st s = is_new same_style s.styles.forced s.styles.written.entries st

abbrev pub styled : Style → Sheet → Sheet
styled st s = with_style (added s.tags (style_tag ∷ [])) (set_to s.styles st) s

abbrev pub error_in : {V : Type 0} → Result V EncodeError → Option EncodeError
error_in (Ok v) = None
error_in (Err e) = Some e

abbrev pub set_style : Result Style EncodeError → Sheet → Sheet
set_style (Ok st) s = cond (new_style st s) (styled st s) s
set_style (Err e) s = s

-- a style that was made, or declined as it was made
abbrev pub style_rule : {V : Type 0} → V → Result Style EncodeError → Rule V
style_rule v made = record {
  on = PathTags ∷ Styles ∷ [];
  own = λ s. error_in made;
  answer = λ s. v;
  next = λ s. set_style made s;
}

-- `encode_fill_style`
abbrev pub fill_rule : Fill → Rule Nothing
fill_rule fill = style_rule tt (Ok (fill_style fill))

-- `encode_stroke_style`, with h the half of the miter limit
abbrev pub stroke_rule : Stroke → ℕ → Rule Bool
stroke_rule stroke h = style_rule true (told (stroke_error stroke) (stroke_style stroke h))

-- draw and clip commands

abbrev pub drawing : DrawTag → List ℕ → Drawn → Drawn
drawing t ws d = record { tags = added d.tags (t ∷ []); words = added d.words ws; clips = d.clips; open_clips = d.open_clips }

abbrev pub counting : ℕ → ℕ → Drawn → Drawn
counting clips open_clips d = record { tags = d.tags; words = d.words; clips = clips; open_clips = open_clips }

abbrev pub draw_rule : Bool → DrawTag → List ℕ → (Drawn → Drawn) → Rule Nothing
draw_rule finite t ws count = record {
  on = DrawTags ∷ DrawData ∷ [];
  own = λ s. unless finite NotFinite;
  answer = λ s. tt;
  next = λ s. with_drawn (count (drawing t ws s.drawn)) s;
}

abbrev pub color_rule : ℕ → Rule Nothing
color_rule color = draw_rule true color_tag (color ∷ []) (λ d. d)

-- `encode_blurred_rounded_rect`
abbrev pub blur_rule : ℕ → Float → Float → Float → Float → Rule Nothing
blur_rule color width height radius deviation =
    draw_rule (all_finite (width ∷ height ∷ radius ∷ deviation ∷ [])) blur_tag
    (color ∷ to_bits binary32 width ∷ to_bits binary32 height ∷ to_bits binary32 radius ∷ to_bits binary32 deviation ∷ []) (λ d. d)

abbrev pub begin_clip : ℕ → ℕ → Float → Rule Nothing
begin_clip mix compose alpha =
    draw_rule (all_finite (alpha ∷ [])) begin_clip_tag ((mix * 256 + compose) ∷ to_bits binary32 alpha ∷ [])
    (λ d. counting (d.clips + 1) (d.open_clips + 1) d)

abbrev pub clip_ended : Drawn → Drawn
clip_ended d = counting (d.clips + 1) (d.open_clips - 1) (drawing end_clip_tag [] d)

abbrev pub one_path : Outlines → Outlines
one_path o = record { words = o.words; paths = o.paths + 1; segments = o.segments }

abbrev pub end_clip : Rule Nothing
end_clip = record {
  on = PathTags ∷ DrawTags ∷ [];
  own = λ s. when (s.drawn.open_clips == 0) NoOpenClip;
  answer = λ s. tt;
  next = λ s. with_drawn (clip_ended s.drawn) (with_outlines (added s.tags (path_tag ∷ [])) (one_path s.outlines) s);
}

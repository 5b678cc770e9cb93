-- What an Encoding and the six streams stand for: the sheet. Assumes nothing.
use Rattle.std.specs.Prelude.{ℕ, ◌+◌, Bool, false, List, [], length, take, Some, None, Option}
use Rattle.path.specs.Rules.{Path}
use Rattle.monoid.specs.declared.path.PathTag.{PathTag}
use Rattle.monoid.specs.declared.draw.DrawTag.{DrawTag}
use Rattle.encoding.specs.declared.encoding.Encoding.{Encoding}
use Rattle.encoding.specs.declared.encoding.SettingState.{SettingState}
use Rattle.encoding.specs.declared.encoding.StreamOffsets.{StreamOffsets}
use Rattle.encoding.specs.declared.encoding.Counts.{Counts}
use Rattle.values.specs.declared.transform.Transform.{Transform}
use Rattle.values.specs.declared.style.Style.{Style}
use Rattle.values.specs.declared.error.Stream.{Stream}
use Rattle.values.specs.declared.error.Stream.TheVariants.{PathTags, PathData, DrawTags, DrawData, Transforms, Styles}
use Rattle.encoding.specs.Flags.{flags_of}

-- the six streams as they are brought, used entries and free ones
pub record Streams : Type 0 where
  pub path_tags : List PathTag
  pub path_data : List ℕ
  pub draw_tags : List DrawTag
  pub draw_data : List ℕ
  pub transforms : List Transform
  pub styles : List Style

-- the used part of a stream: how many entries, and which
pub record Used (X : Type 0) : Type 0 where
  pub count : ℕ
  pub entries : List X

-- the transforms or the styles, and whether the next is written though it be the same
pub record Settings (X : Type 0) : Type 0 where
  pub written : Used X
  pub forced : Bool

-- the path data, and what was counted of the paths
pub record Outlines : Type 0 where
  pub words : Used ℕ
  pub paths : ℕ
  pub segments : ℕ

-- the draw commands, and the clips among them
pub record Drawn : Type 0 where
  pub tags : Used DrawTag
  pub words : Used ℕ
  pub clips : ℕ
  pub open_clips : ℕ

-- an open path, and how many tags and words it uses behind those that were there
pub record Opened : Type 0 where
  pub path : Path
  pub tags : ℕ
  pub words : ℕ

-- what is used up to an open path, and that path
pub record Sheet : Type 0 where
  pub tags : Used PathTag
  pub outlines : Outlines
  pub transforms : Settings Transform
  pub styles : Settings Style
  pub drawn : Drawn
  pub open_path : Option Opened

abbrev pub first : {X : Type 0} → ℕ → List X → Used X
first n xs = record { count = n; entries = take n xs }

abbrev pub settings : {X : Type 0} → SettingState → List X → Settings X
settings u xs = record { written = first u.used xs; forced = u.forced }

abbrev pub sheet : Encoding → Streams → Sheet
sheet e m = record {
  tags = first e.path_tags m.path_tags;
  outlines = record { words = first e.path_data m.path_data; paths = e.n_paths; segments = e.n_path_segments };
  transforms = settings e.transforms m.transforms;
  styles = settings e.styles m.styles;
  drawn = record { tags = first e.draw_tags m.draw_tags; words = first e.draw_data m.draw_data; clips = e.n_clips; open_clips = e.n_open_clips };
  open_path = None;
}

abbrev pub none : {X : Type 0} → Used X
none = record { count = 0; entries = [] }

abbrev pub blank : Sheet
blank = record {
  tags = none;
  outlines = record { words = none; paths = 0; segments = 0 };
  transforms = record { written = none; forced = false };
  styles = record { written = none; forced = false };
  drawn = record { tags = none; words = none; clips = 0; open_clips = 0 };
  open_path = None;
}

abbrev pub with_own_tags : ℕ → Option Opened → ℕ
with_own_tags n None = n
with_own_tags n (Some o) = n + o.tags

abbrev pub with_own_words : ℕ → Option Opened → ℕ
with_own_words n None = n
with_own_words n (Some o) = n + o.words

-- how many entries of a stream are used, an open path's among them
abbrev pub used_in : Sheet → Stream → ℕ
used_in s PathTags = with_own_tags s.tags.count s.open_path
used_in s PathData = with_own_words s.outlines.words.count s.open_path
used_in s DrawTags = s.drawn.tags.count
used_in s DrawData = s.drawn.words.count
used_in s Transforms = s.transforms.written.count
used_in s Styles = s.styles.written.count

abbrev pub offsets_of : Sheet → StreamOffsets
offsets_of s = record {
  path_tags = used_in s PathTags;
  path_data = used_in s PathData;
  draw_tags = used_in s DrawTags;
  draw_data = used_in s DrawData;
  transforms = used_in s Transforms;
  styles = used_in s Styles;
}

abbrev pub counts_of : Sheet → Counts
counts_of s = record {
  n_paths = s.outlines.paths;
  n_path_segments = s.outlines.segments;
  n_clips = s.drawn.clips;
  n_open_clips = s.drawn.open_clips;
  flags = flags_of s.transforms.forced s.styles.forced;
}

-- how many entries a stream has
abbrev pub space_in : Streams → Stream → ℕ
space_in m PathTags = length m.path_tags
space_in m PathData = length m.path_data
space_in m DrawTags = length m.draw_tags
space_in m DrawData = length m.draw_data
space_in m Transforms = length m.transforms
space_in m Styles = length m.styles

-- the streams, with those that a call is brought in their places

abbrev pub with_draws : Streams → List DrawTag → List ℕ → Streams
with_draws m ts ws = record { path_tags = m.path_tags; path_data = m.path_data; draw_tags = ts; draw_data = ws; transforms = m.transforms; styles = m.styles }

abbrev pub with_styles : Streams → List PathTag → List Style → Streams
with_styles m ts xs = record { path_tags = ts; path_data = m.path_data; draw_tags = m.draw_tags; draw_data = m.draw_data; transforms = m.transforms; styles = xs }

abbrev pub with_transforms : Streams → List PathTag → List Transform → Streams
with_transforms m ts xs = record { path_tags = ts; path_data = m.path_data; draw_tags = m.draw_tags; draw_data = m.draw_data; transforms = xs; styles = m.styles }

abbrev pub with_tags : Streams → List PathTag → List DrawTag → Streams
with_tags m ts ds = record { path_tags = ts; path_data = m.path_data; draw_tags = ds; draw_data = m.draw_data; transforms = m.transforms; styles = m.styles }

abbrev pub with_paths : Streams → List PathTag → List ℕ → Streams
with_paths m ts ws = record { path_tags = ts; path_data = ws; draw_tags = m.draw_tags; draw_data = m.draw_data; transforms = m.transforms; styles = m.styles }

-- the sheet, with another part in its place

abbrev pub with_transform : Used PathTag → Settings Transform → Sheet → Sheet
with_transform ts x s = record { tags = ts; outlines = s.outlines; transforms = x; styles = s.styles; drawn = s.drawn; open_path = s.open_path }

abbrev pub with_style : Used PathTag → Settings Style → Sheet → Sheet
with_style ts x s = record { tags = ts; outlines = s.outlines; transforms = s.transforms; styles = x; drawn = s.drawn; open_path = s.open_path }

abbrev pub with_settings : Settings Transform → Settings Style → Sheet → Sheet
with_settings x y s = record { tags = s.tags; outlines = s.outlines; transforms = x; styles = y; drawn = s.drawn; open_path = s.open_path }

abbrev pub with_drawn : Drawn → Sheet → Sheet
with_drawn d s = record { tags = s.tags; outlines = s.outlines; transforms = s.transforms; styles = s.styles; drawn = d; open_path = s.open_path }

abbrev pub with_outlines : Used PathTag → Outlines → Sheet → Sheet
with_outlines ts o s = record { tags = ts; outlines = o; transforms = s.transforms; styles = s.styles; drawn = s.drawn; open_path = s.open_path }

abbrev pub with_open : Option Opened → Sheet → Sheet
with_open o s = record { tags = s.tags; outlines = s.outlines; transforms = s.transforms; styles = s.styles; drawn = s.drawn; open_path = o }

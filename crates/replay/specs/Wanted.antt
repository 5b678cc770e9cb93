-- What the streams show after every run, whenever no path is open: totals, segments, draw commands. Assumes nothing.
use Rattle.std.specs.Prelude.{◌≡◌, ℕ, zero, suc, ◌+◌, ◌-◌, ◌*◌, ◌/◌, ◌<◌, ◌≤◌, true, List, ◌∷◌, ◌++◌, map, length, take, drop, replicate, Some, None, Option}
use Rattle.std.specs.List.{slice_get, filter}
use Rattle.monoid.specs.declared.path.PathTag.{PathTag}
use Rattle.monoid.specs.declared.draw.DrawTag.{DrawTag}
use Rattle.monoid.specs.Laws.{reduced}
use Rattle.monoid.specs.PathTags as Paths
use Rattle.monoid.specs.PathTags.{Counts, from_word, is_segment}
use Rattle.monoid.specs.Packing as Packed
use Rattle.monoid.specs.Packing.{packed}
use Rattle.monoid.specs.DrawTags as Draws
use Rattle.monoid.specs.Clips as Clips
use Rattle.monoid.specs.Clips.{bic}
use Rattle.path.specs.Turns.{reads}
use Rattle.values.specs.declared.transform.Transform.{Transform}
use Rattle.values.specs.declared.style.Style.{Style}
use Rattle.values.specs.Settings.{same_transform, fill_style, stroke_style, MiterHalf}
use Rattle.encoding.specs.Sheet.{Sheet}
use Rattle.replay.specs.Calls.{Chosen, Made, Ruled}
use Rattle.replay.specs.Calls.Chosen.{Filled, Stroked}
use Rattle.replay.specs.Log.{Segment, Entry, Commands, Log, logged}

-- totals

-- what path tags reduce to, in words filled up with zero tags
abbrev pub counted : List PathTag → Counts
counted ts = reduced Paths.none Paths.plus from_word (packed ts)

-- The sheet is the one that the rules leave after the accepted calls. However many zero tags follow its path tags, they
-- reduce to its numbers.
pub record Totals (xs : List Made) (s : Sheet) : Type 0 where
  pub as_ruled : Ruled xs s
  pub only : (q : Sheet) → Ruled xs q → q ≡ s
  pub reduce : (zeros : ℕ) → counted (s.tags.entries ++ replicate zeros Packed.blank) ≡ record {
    transforms = s.transforms.written.count;
    segments = s.outlines.segments;
    words = s.outlines.words.count;
    styles = 2 * s.styles.written.count;
    paths = s.outlines.paths;
  }

-- segments

-- the last of the first n, or none
abbrev pub last_counted : {A : Type 0} → List A → ℕ → Option A
last_counted xs zero = None
last_counted xs (suc n) = slice_get xs n

-- the style entry of what was chosen, to the bit: a width that is not a NaN has one pattern
abbrev pub StyleOf : Chosen → Style → Type 0
StyleOf (Filled f) st = st ≡ fill_style f
StyleOf (Stroked k) st = (h : ℕ) × MiterHalf k h × (st ≡ stroke_style k h)

abbrev pub StyledAs : Option Style → Option Chosen → Type 0
StyledAs None None = Unit {0}
StyledAs None (Some x) = ⊥
StyledAs (Some st) None = ⊥
StyledAs (Some st) (Some x) = StyleOf x st

-- equal number by number
abbrev pub MovedAs : Option Transform → Option Transform → Type 0
MovedAs None None = Unit {0}
MovedAs None (Some b) = ⊥
MovedAs (Some a) None = ⊥
MovedAs (Some a) (Some b) = same_transform a b ≡ true

-- at the offsets c, words, transforms and styles show the segment x, whose tag is t
pub record Shows (ws : List ℕ) (tr : List Transform) (st : List Style) (c : Counts) (t : PathTag) (x : Segment) : Type 0 where
  pub tag : x.tag ≡ t
  pub inside : c.words + reads t ≤ length ws
  pub points : take (reads t) (drop c.words ws) ≡ x.points
  pub styled : c.styles / 2 ≤ length st
  pub style : StyledAs (last_counted st (c.styles / 2)) x.style
  pub moved : c.transforms ≤ length tr
  pub transform : MovedAs (last_counted tr c.transforms) x.transform

abbrev pub Shown : Sheet → Counts → PathTag → Segment → Type 0
Shown s c t x = Shows s.outlines.words.entries s.transforms.written.entries s.styles.written.entries c t x

-- the segment tags are the log's, in order; what the tags before one reduce to is where the streams show it
pub record Segments (l : Log) (s : Sheet) : Type 0 where
  pub in_order : filter is_segment s.tags.entries ≡ map (λ (x : Segment). x.tag) l.segments
  pub each : (before : List PathTag) (t : PathTag) (later : List PathTag) → s.tags.entries ≡ before ++ t ∷ later → is_segment t ≡ true →
      (x : Segment) × (slice_get l.segments (counted before).segments ≡ Some x) × Shown s (counted before) t x

-- draw commands

abbrev pub drawn_total : List DrawTag → Draws.Draws
drawn_total ts = reduced Draws.none Draws.plus Draws.from_tag ts

abbrev pub clipped : List DrawTag → Clips.Bic
clipped ts = reduced Clips.still Clips.after Clips.from_tag ts

abbrev pub words_in : DrawTag → ℕ
words_in t = (Draws.from_tag t).words

abbrev pub begin_tag : DrawTag
begin_tag = record { 0 = 0x49 }

abbrev pub end-tag : DrawTag
end-tag = record { 0 = 0x21 }

-- the end at j meets the begin at i
pub record Meets (ts : List DrawTag) (i j : ℕ) : Type 0 where
  pub before : i < j
  pub begin : slice_get ts i ≡ Some begin_tag
  pub end : slice_get ts j ≡ Some end-tag
  pub between : clipped (take (j - (i + 1)) (drop (i + 1) ts)) ≡ Clips.still

-- The draw tags are the log's, in order, and reduce to the sheet's numbers. The words before a tag are the offset of
-- its own, and an end meets the begin that the log says it closed, and no other.
pub record Drawing (d : Commands) (s : Sheet) : Type 0 where
  pub in_order : s.drawn.tags.entries ≡ map (λ (x : Entry). x.tag) d.entries
  pub words : (drawn_total s.drawn.tags.entries).words ≡ s.drawn.words.count
  pub clips : (drawn_total s.drawn.tags.entries).clips ≡ s.drawn.clips
  pub depth : clipped s.drawn.tags.entries ≡ bic 0 s.drawn.open_clips
  pub each : (k : ℕ) (x : Entry) → slice_get d.entries k ≡ Some x → (length x.words ≡ words_in x.tag)
      × (take (length x.words) (drop (drawn_total (take k s.drawn.tags.entries)).words s.drawn.words.entries) ≡ x.words)
  pub ends : (k : ℕ) (x : Entry) → slice_get d.entries k ≡ Some x → x.tag ≡ end-tag →
      (b : ℕ) × (x.closes ≡ Some b) × Meets s.drawn.tags.entries b k × ((i : ℕ) → Meets s.drawn.tags.entries i k → i ≡ b)

pub record Whole (xs : List Made) (s : Sheet) : Type 0 where
  pub totals : Totals xs s
  pub segments : Segments (logged xs) s
  pub drawing : Drawing (logged xs).commands s

-- whatever the rules leave, with no path open, shows it
abbrev pub RulesShow : Type 0
RulesShow = (xs : List Made) (s : Sheet) → Ruled xs s → s.open_path ≡ None → Whole xs s

-- What is read from the streams by counting. Assumes nothing.
use Rattle.std.specs.Prelude.{◌≡◌, ℕ, zero, suc, ◌/◌, ◌<◌, ◌≤◌, true, List, [], ◌∷◌, length, take, drop, Some, Ok, Err, Result, slice_index_or}
use Rattle.std.specs.List.{slice_get}
use Rattle.monoid.specs.declared.CountError.{CountError}
use Rattle.monoid.specs.declared.path.PathTag.{PathTag}
use Rattle.monoid.specs.declared.draw.DrawTag.{DrawTag}
use Rattle.monoid.specs.Answers.{most, number}
use Rattle.monoid.specs.PathTags.{Counts, is_segment}
use Rattle.monoid.specs.Packing.{blank}
use Rattle.path.specs.Turns.{reads}
use Rattle.values.specs.declared.transform.Transform.{Transform}
use Rattle.values.specs.declared.style.Style.{Style}
use Rattle.encoding.specs.Sheet.{Sheet}
use Rattle.replay.specs.declared.reader.ShownSegment.{ShownSegment}
use Rattle.replay.specs.declared.reader.ShownCommand.{ShownCommand}
use Rattle.replay.specs.Log.{Segment, Entry, Commands, Log}
use Rattle.replay.specs.Wanted.{counted, last_counted, drawn_total, words_in, StyledAs, MovedAs, Segments, Drawing}

-- the first k words, filled up with zeros
abbrev pub filled : ℕ → List ℕ → List ℕ
filled zero xs = []
filled (suc k) [] = 0 ∷ filled k []
filled (suc k) (x ∷ xs) = x ∷ filled k xs

-- n words from an offset on, in a row of eight
abbrev pub eight_at : List ℕ → ℕ → ℕ → List ℕ
eight_at ws off n = filled 8 (take n (drop off ws))

-- a segment with the tag t, at the offsets c
abbrev pub segment-at : List ℕ → List Transform → List Style → Counts → PathTag → ShownSegment
segment-at ws tr st c t = record {
  tag = t;
  points = eight_at ws c.words (reads t);
  style = last_counted st (c.styles / 2);
  transform = last_counted tr c.transforms;
}

-- a draw command with the tag t, at an offset
abbrev pub command_at : List ℕ → ℕ → DrawTag → ShownCommand
command_at ws off t = record { tag = t; words = eight_at ws off (words_in t) }

-- a row is a log's segment, or its draw command

pub record RowShows (r : ShownSegment) (x : Segment) : Type 0 where
  pub tag : r.tag ≡ x.tag
  pub points : take (reads x.tag) r.points ≡ x.points
  pub style : StyledAs r.style x.style
  pub transform : MovedAs r.transform x.transform

pub record CommandShows (r : ShownCommand) (x : Entry) : Type 0 where
  pub tag : r.tag ≡ x.tag
  pub words : take (length x.words) r.words ≡ x.words

-- if a sheet with these entries shows the segments of a log, the rows are the log's
abbrev pub LogRead : List PathTag → List ℕ → List Transform → List Style → List ShownSegment → List ShownSegment → Type 0
LogRead ts ws tr st was rows = (l : Log) (s : Sheet) → s.tags.entries ≡ ts → s.outlines.words.entries ≡ ws → s.transforms.written.entries ≡ tr →
    s.styles.written.entries ≡ st → Segments l s → (k : ℕ) → k < length ts → is_segment (slice_index_or ts k blank) ≡ true → (counted (take k ts)).segments < length was →
    (d : ShownSegment) → (x : Segment) × (slice_get l.segments (counted (take k ts)).segments ≡ Some x) × RowShows (slice_index_or rows (counted (take k ts)).segments d) x

-- and so for its draw commands
abbrev pub CommandsLogged : List DrawTag → List ℕ → List ShownCommand → List ShownCommand → Type 0
CommandsLogged ts ws was rows = (c : Commands) (s : Sheet) → s.drawn.tags.entries ≡ ts → s.drawn.words.entries ≡ ws → Drawing c s →
    (k : ℕ) (x : Entry) → slice_get c.entries k ≡ Some x → k < length was → (d : ShownCommand) → CommandShows (slice_index_or rows k d) x

-- The table has a row for each segment, by its number, while there are rows; those past them stay.
pub record SegmentsRead (ts : List PathTag) (ws : List ℕ) (tr : List Transform) (st : List Style) (was rows : List ShownSegment) (n : ℕ) : Type 0 where
  pub few : length ts ≤ most
  pub number : n ≡ (counted ts).segments
  pub each : (k : ℕ) → k < length ts → is_segment (slice_index_or ts k blank) ≡ true → (counted (take k ts)).segments < length was → (d : ShownSegment) →
      slice_index_or rows (counted (take k ts)).segments d ≡ segment-at ws tr st (counted (take k ts)) (slice_index_or ts k blank)
  pub rest : (j : ℕ) → n ≤ j → (d : ShownSegment) → slice_index_or rows j d ≡ slice_index_or was j d
  pub logged : LogRead ts ws tr st was rows

-- and one for each draw tag, by its place
pub record CommandsRead (ts : List DrawTag) (ws : List ℕ) (was rows : List ShownCommand) (n : ℕ) : Type 0 where
  pub few : length ts ≤ most
  pub number : n ≡ length ts
  pub each : (k : ℕ) → k < length ts → k < length was → (d : ShownCommand) (e : DrawTag) → slice_index_or rows k d ≡ command_at ws (drawn_total (take k ts)).words (slice_index_or ts k e)
  pub rest : (j : ℕ) → n ≤ j → (d : ShownCommand) → slice_index_or rows j d ≡ slice_index_or was j d
  pub logged : CommandsLogged ts ws was rows

-- too many tags are declined, and the table stays
abbrev pub Read : {R : Type 0} → ℕ → List R → List R → (ℕ → Type 0) → Result ℕ CountError → Type 0
Read tags was rows P (Ok n) = P n
Read tags was rows P (Err e) = (most < tags) × (number e ≡ 12) × (rows ≡ was)

-- What functions inside the crate promise one another. Assumes nothing.
use Rattle.std.specs.Prelude.{◌≡◌, ℕ, ◌+◌, ◌<◌, ◌≤◌, min, Bool, false, cond, List, [], ◌∷◌, Ok, Err, Option, Result}
use Rattle.std.specs.declared.ops.Range.{Range}
use Rattle.path.specs.declared.state.Declined.{Declined}
use Rattle.path.specs.declared.state.Declined.TheVariants.{Short, Full}
use Rattle.path.specs.declared.state.Finished.{Finished}
use Rattle.path.specs.declared.state.Stream as Own
use Rattle.path.specs.declared.state.Stream.TheVariants as Of
use Rattle.encoding.specs.declared.encoding.Encoding.{Encoding}
use Rattle.encoding.specs.declared.path_encoder.PathEncoder.{PathEncoder}
use Rattle.values.specs.declared.error.Stream.{Stream}
use Rattle.values.specs.declared.error.Stream.TheVariants.{PathTags, PathData}
use Rattle.values.specs.declared.error.EncodeError.{EncodeError}
use Rattle.values.specs.declared.error.EncodeError.TheVariants.{ShortStream, FullStream}
use Rattle.values.specs.declared.room.Room.{Room}
use Rattle.values.specs.Streams.{max_entries, room}
use Rattle.values.specs.Errors.{short, full, or_else, told}
use Rattle.values.specs.Settings.{is_new}
use Rattle.monoid.specs.declared.path.PathTag.{PathTag}
use Rattle.encoding.specs.declared.encoding.SettingState.{SettingState}
use Rattle.encoding.specs.Sheet.{Streams, Sheet, Used, Settings, first, settings, sheet, with_outlines}
use Rattle.encoding.specs.Promises.{left_by}
use Rattle.encoding.specs.Rules.{added, set_to, error_in}

-- the path tags, and the transforms or the styles
pub record Place (X : Type 0) : Type 0 where
  pub tags : Used PathTag
  pub settings : Settings X

abbrev pub place : {X : Type 0} → ℕ → List PathTag → SettingState → List X → Place X
place n ts u xs = record { tags = first n ts; settings = settings u xs }

-- whether a value that was made is written there
abbrev pub is_due : {X : Type 0} → (X → X → Bool) → Result X EncodeError → Place X → Bool
is_due same (Ok x) p = is_new same p.settings.forced p.settings.written.entries x
is_due same (Err e) p = false

abbrev pub set_at : {X : Type 0} → PathTag → X → Place X → Place X
set_at t x p = record { tags = added p.tags (t ∷ []); settings = set_to p.settings x }

-- what a value that was made leaves there
abbrev pub set_by : {X : Type 0} → (X → X → Bool) → PathTag → Result X EncodeError → Place X → Place X
set_by same t (Ok x) p = cond (is_due same (Ok x) p) (set_at t x p) p
set_by same t (Err e) p = p

abbrev pub rooms_of : {X : Type 0} → Stream → ℕ → ℕ → Place X → List Room
rooms_of x n k p = room PathTags p.tags.count n ∷ room x p.settings.written.count k ∷ []

-- why a value is declined, with room for n tags and k values
abbrev pub set_reason : {X : Type 0} → (X → X → Bool) → Stream → PathTag → ℕ → ℕ → Result X EncodeError → Place X → Option EncodeError
set_reason same x t n k made p = or_else (short (rooms_of x n k p)) (or_else (error_in made) (full (rooms_of x n k (set_by same t made p))))

-- a value is written with its tag, unless it is the last one or is declined
pub record SetAs {X : Type 0} (same : X → X → Bool) (x : Stream) (t : PathTag) (n k : ℕ) (made : Result X EncodeError) (p : Place X) (r : Result Bool EncodeError) (p' : Place X) : Type 0 where
  pub says : r ≡ told (set_reason same x t n k made p) (is_due same made p)
  pub leaves : p' ≡ left_by (set_reason same x t n k made p) p (set_by same t made p)

-- an accepted command adds one draw tag, and changes no count of clips
abbrev pub OneMore : Encoding → Encoding → Type 0
OneMore e e' = (e'.draw_tags ≡ e.draw_tags + 1) × (e'.n_clips ≡ e.n_clips) × (e'.n_open_clips ≡ e.n_open_clips)

-- how many entries are used while a path is open

abbrev pub tags_used : PathEncoder → ℕ
tags_used p = p.encoding.path_tags + p.path.tags

abbrev pub words_used : PathEncoder → ℕ
words_used p = p.encoding.path_data + p.path.words

-- the part of each stream that a path is lent, from its start to the stream's end or its maximum

abbrev pub lent_tags : PathEncoder → ℕ → Range ℕ
lent_tags p space = record { start = p.encoding.path_tags; end = min space (max_entries PathTags) }

abbrev pub lent_words : PathEncoder → ℕ → Range ℕ
lent_words p space = record { start = p.encoding.path_data; end = min space (max_entries PathData) }

-- the open path tells its two streams, and why it declines, by names of its own

abbrev pub stream_of : Own.Stream → Stream
stream_of Of.PathTags = PathTags
stream_of Of.PathData = PathData

abbrev pub error_of : Declined → EncodeError
error_of (Short x) = ShortStream (stream_of x)
error_of (Full x) = FullStream (stream_of x)

-- a finished path fits behind the Encoding's entries, with a tag for each segment and for itself
pub record FitsBehind (e : Encoding) (f : Finished) (mark : Bool) : Type 0 where
  pub tags : e.path_tags + f.used.tags ≤ max_entries PathTags
  pub words : e.path_data + f.used.words ≤ max_entries PathData
  pub tagged : 0 < f.segments → f.segments + cond mark 1 0 ≤ f.used.tags

-- what the Encoding stands for once a finished path's entries are in use
abbrev pub joined : Encoding → Finished → Bool → Streams → Sheet
joined e f mark m =
    with_outlines (first (e.path_tags + f.used.tags) m.path_tags)
    (record { words = first (e.path_data + f.used.words) m.path_data; paths = e.n_paths + cond mark 1 0; segments = e.n_path_segments + f.segments }) (sheet e m)

-- Sheets worked through, of the definitions. Assumes nothing.
use Rattle.std.specs.Prelude.{◌≡◌, List, [], ◌∷◌, map, Some, None, from_bits, Float}
use Rattle.std.specs.Float.{binary32}
use Rattle.math.specs.Worked as Halves
use Rattle.monoid.specs.Worked as Counting
use Rattle.monoid.specs.Clips.{still}
use Rattle.monoid.specs.PathTags.{tag}
use Rattle.path.specs.Worked as Paths
use Rattle.values.specs.declared.style.Fill.TheVariants.{EvenOdd}
use Rattle.replay.specs.declared.calls.Answer.TheVariants.{Done}
use Rattle.replay.specs.Calls.{Made, made}
use Rattle.replay.specs.Calls.Chosen.{Filled}
use Rattle.replay.specs.Calls.Command.{Color, BeginClip, EndClip}
use Rattle.replay.specs.Calls.Call.{SetStyle, Draw, EmptyShape}
use Rattle.replay.specs.Log.{Entry, entry, logged}
use Rattle.replay.specs.Wanted.{drawn_total, clipped}

abbrev pub one : Float
one = from_bits binary32 0x3f800000

-- a clip is begun, a colour drawn and the clip ended; calls stand latest first
abbrev pub clipped_colour : List Made
clipped_colour = made (Draw EndClip) Done ∷ made (Draw (Color 0xff0000ff)) Done ∷ made (Draw (BeginClip 0 3 one)) Done ∷ []

abbrev pub clip_entries : List Entry
clip_entries = entry 0x49 (3 ∷ 0x3f800000 ∷ []) None ∷ entry 0x44 (0xff0000ff ∷ []) None ∷ entry 0x21 [] (Some 0) ∷ []

-- a clip in a clip
abbrev pub nested : List Made
nested = made (Draw EndClip) Done ∷ made (Draw EndClip) Done ∷ made (Draw (BeginClip 0 3 one)) Done ∷ made (Draw (BeginClip 0 3 one)) Done ∷ []

-- an empty shape in an even-odd fill
abbrev pub empty_fill : List Made
empty_fill = made EmptyShape Done ∷ made (SetStyle (Filled EvenOdd)) Done ∷ []

pub record Worked : Type 0 where
  pub halves : Halves.Worked
  pub counting : Counting.Worked
  pub paths : Paths.Worked
  pub clip_log : (logged clipped_colour).commands.entries ≡ clip_entries
  pub clip_draws : drawn_total (map (λ (x : Entry). x.tag) (logged clipped_colour).commands.entries) ≡ record { paths = 3; clips = 2; words = 3; info = 2 }
  pub clip_depth : clipped (map (λ (x : Entry). x.tag) (logged clipped_colour).commands.entries) ≡ still
  pub nested_ends : map (λ (x : Entry). x.closes) (logged nested).commands.entries ≡ None ∷ None ∷ Some 1 ∷ Some 0 ∷ []
  pub empty_log : (logged empty_fill).segments ≡ record { tag = tag 0x0d; points = 0 ∷ 0 ∷ 0 ∷ 0 ∷ []; style = Some (Filled EvenOdd); transform = None } ∷ []

-- The streams' numbers and maxima, how much of one is used, and the last used entry. Assumes nothing.
use Rattle.std.specs.Prelude.{ℕ, ◌≤◌, List, [], ◌∷◌, Some, None, Option}
use Rattle.values.specs.declared.error.Stream.{Stream}
use Rattle.values.specs.declared.room.Room as declared
use Rattle.values.specs.declared.error.Stream.TheVariants.{PathTags, PathData, DrawTags, DrawData, Transforms, Styles}

abbrev pub stream_number : Stream → ℕ
stream_number PathTags = 0
stream_number PathData = 1
stream_number DrawTags = 2
stream_number DrawData = 3
stream_number Transforms = 4
stream_number Styles = 5

-- of path data and draw data, and of any other stream
abbrev pub max_words : ℕ
max_words = 8_388_608

abbrev pub max_others : ℕ
max_others = 1_048_576

-- the most entries that a stream may use
abbrev pub max_entries : Stream → ℕ
max_entries PathTags = max_others
max_entries PathData = max_words
max_entries DrawTags = max_others
max_entries DrawData = max_words
max_entries Transforms = max_others
max_entries Styles = max_others

-- how much of a stream is used, and how many entries it has
abbrev pub Room : Type 0
Room = declared.Room

abbrev pub room : Stream → ℕ → ℕ → Room
room x used space = record { stream = x; used = used; space = space }

-- neither its end nor its maximum is passed
pub record Fit (a : Room) : Type 0 where
  pub space : a.used ≤ a.space
  pub most : a.used ≤ max_entries a.stream

abbrev pub last_of : {X : Type 0} → List X → Option X
last_of [] = None
last_of (x ∷ []) = Some x
last_of (x ∷ y ∷ xs) = last_of (y ∷ xs)

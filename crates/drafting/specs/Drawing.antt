-- A plan that was drawn from a list of calls. Assumes nothing.
use Rattle.std.specs.Prelude.{◌≡◌, List, ◌∷◌, length, vec_items}
use Rattle.encoding.specs.declared.encoding.Encoding.{Encoding}
use Rattle.encoding.specs.Sheet.{Streams, sheet}
use Rattle.encoding.specs.Promises.{path_sheet}
use Rattle.encoding.specs.Paths.{path_abandoned}
use Rattle.replay.specs.declared.calls.Answer.TheVariants.{Done}
use Rattle.replay.specs.declared.calls.Call.{Call}
use Rattle.replay.specs.declared.calls.Plan.{Plan}
use Rattle.replay.specs.declared.calls.Plan.TheVariants.{Closed, Open}
use Rattle.replay.specs.Calls.{Made, made}
use Rattle.replay.specs.Calls.Call.{Abandon}
use Rattle.replay.specs.Wanted.{Whole}
use Rattle.replay.specs.Meant.{six, Ran}
use Rattle.drafting.specs.declared.drawing.Drawn.{Drawn}
use Rattle.encoding.specs.declared.encoding.StreamOffsets.{StreamOffsets}

abbrev pub streams_of : Drawn → Streams
streams_of d = six (vec_items d.path_tags) (vec_items d.path_data) (vec_items d.draw_tags) (vec_items d.draw_data) (vec_items d.transforms) (vec_items d.styles)

-- a path that is still open is abandoned
abbrev pub all_made : Plan → List Made → List Made
all_made (Closed e) xs = xs
all_made (Open p) xs = made Abandon Done ∷ xs

-- what is left of a plan then
abbrev pub Left : Plan → Encoding → Type 0
Left (Closed e) e' = e' ≡ e
Left (Open p) e' = (m : Streams) → sheet e' m ≡ path_abandoned (path_sheet p m)

-- The calls cs were made in order from a new Encoding, with these answers, and a path that was open then was abandoned.
-- The streams show what was drawn.
pub record DrawnAs (cs : List Call) (d : Drawn) : Type 0 where
  pub plan : Plan
  pub ran : Ran cs (vec_items d.answers) plan (streams_of d)
  pub left : Left plan d.encoding
  pub shows : Whole (all_made plan ran.made) (sheet d.encoding (streams_of d))

-- each stream has as many entries, used ones and free ones, as there was room asked for
pub record HasRoom (r : StreamOffsets) (d : Drawn) : Type 0 where
  pub path_tags : length (vec_items d.path_tags) ≡ r.path_tags
  pub path_data : length (vec_items d.path_data) ≡ r.path_data
  pub draw_tags : length (vec_items d.draw_tags) ≡ r.draw_tags
  pub draw_data : length (vec_items d.draw_data) ≡ r.draw_data
  pub transforms : length (vec_items d.transforms) ≡ r.transforms
  pub styles : length (vec_items d.styles) ≡ r.styles

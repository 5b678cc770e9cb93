-- One call, by what it promises, and runs of calls on one Encoding. Assumes nothing.
use Rattle.std.specs.Prelude.{◌≡◌, ℕ, Bool, true, false, List, [], ◌∷◌, Ok, Err, Result}
use Rattle.encoding.specs.declared.encoding.Encoding.{Encoding}
use Rattle.values.specs.declared.element.ElementError.{ElementError}
use Rattle.values.specs.declared.error.EncodeError.{EncodeError}
use Rattle.encoding.specs.Sheet.{Streams, Sheet, sheet, blank}
use Rattle.encoding.specs.Promises.{Rule, Answered, path_sheet}
use Rattle.encoding.specs.Rules.{Nothing, forced, transform_rule, fill_rule, stroke_rule, color_rule, blur_rule, begin_clip, end_clip}
use Rattle.encoding.specs.Paths.{path_opened, path_abandoned, finish_rule}
use Rattle.encoding.specs.Elements.{element_rule, empty_shape_rule, Listed}
use Rattle.replay.specs.declared.calls.Answer.{Answer}
use Rattle.replay.specs.declared.calls.Answer.TheVariants.{Done, Said, Counted, Declined, DeclinedAt, NotNow}
use Rattle.replay.specs.declared.calls.Plan.{Plan}
use Rattle.replay.specs.declared.calls.Plan.TheVariants.{Closed, Open}
use Rattle.replay.specs.Calls.{Chosen, Command, Call, Strokes, Made, made, taken}
use Rattle.replay.specs.Calls.Chosen.{Filled, Stroked}
use Rattle.replay.specs.Calls.Command.{Color, Blurred, BeginClip, EndClip}
use Rattle.replay.specs.Calls.Call.{Reset, ForceNext, SetTransform, SetStyle, Draw, EmptyShape, Elements, OpenPath, Take, Finish, Abandon}
use Rattle.replay.specs.Wanted.{Whole}

-- what is held between two calls and the six streams stand for
abbrev pub shown : Plan → Streams → Sheet
shown (Closed e) m = sheet e m
shown (Open p) m = path_sheet p m

-- the answer of a call that gives a result

abbrev pub answer_of : {V : Type 0} → (V → Answer) → Result V EncodeError → Answer
answer_of say (Ok v) = say v
answer_of say (Err e) = Declined e

abbrev pub list_answer : Result Bool ElementError → Answer
list_answer (Ok b) = Said b
list_answer (Err e) = DeclinedAt e

abbrev pub done : Nothing → Answer
done v = Done

-- a call that promises its rule gives some result, which answers a
abbrev pub Told : {V : Type 0} → (V → Answer) → Rule V → Sheet → Streams → Answer → Sheet → Type 0
Told {V = V} say k s m a s' = (r : Result V EncodeError) × (a ≡ answer_of say r) × Answered k s m r s'

-- a call that declines nothing
abbrev pub Plainly : Answer → Sheet → Sheet → Type 0
Plainly a s' next = (a ≡ Done) × (s' ≡ next)

abbrev pub PassedOver : Sheet → Answer → Sheet → Type 0
PassedOver s a s' = (a ≡ NotNow) × (s' ≡ s)

abbrev pub Styling : Chosen → Sheet → Streams → Answer → Sheet → Type 0
Styling (Filled f) s m a s' = Told done (fill_rule f) s m a s'
Styling (Stroked k) s m a s' = (h : ℕ) × Strokes k h × Told Said (stroke_rule k h) s m a s'

abbrev pub DrawingBy : Command → Sheet → Streams → Answer → Sheet → Type 0
DrawingBy (Color c) s m a s' = Told done (color_rule c) s m a s'
DrawingBy (Blurred c w h r d) s m a s' = Told done (blur_rule c w h r d) s m a s'
DrawingBy (BeginClip mix compose alpha) s m a s' = Told done (begin_clip mix compose alpha) s m a s'
DrawingBy EndClip s m a s' = Told done end_clip s m a s'

-- one call with no path open, and one with a path open: the sheet that stands in the streams m that are brought, the
-- answer, and the sheet after it
abbrev pub StepAtRest : Call → Sheet → Streams → Answer → Sheet → Type 0
StepAtRest Reset s m a s' = Plainly a s' blank
StepAtRest ForceNext s m a s' = Plainly a s' (forced s)
StepAtRest (SetTransform t) s m a s' = Told Said (transform_rule t) s m a s'
StepAtRest (SetStyle x) s m a s' = Styling x s m a s'
StepAtRest (Draw c) s m a s' = DrawingBy c s m a s'
StepAtRest EmptyShape s m a s' = Told done empty_shape_rule s m a s'
StepAtRest (Elements xs fill) s m a s' = (r : Result Bool ElementError) × (a ≡ list_answer r) × Listed xs fill s m r s'
StepAtRest (OpenPath fill) s m a s' = Plainly a s' (path_opened fill s)
StepAtRest (Take x) s m a s' = PassedOver s a s'
StepAtRest (Finish mark) s m a s' = PassedOver s a s'
StepAtRest Abandon s m a s' = PassedOver s a s'

abbrev pub StepInPath : Call → Sheet → Streams → Answer → Sheet → Type 0
StepInPath (Take x) s m a s' = Told done (element_rule x) s m a s'
StepInPath (Finish mark) s m a s' = Told Counted (finish_rule mark) s m a s'
StepInPath Abandon s m a s' = Plainly a s' (path_abandoned s)
StepInPath Reset s m a s' = PassedOver s a s'
StepInPath ForceNext s m a s' = PassedOver s a s'
StepInPath (SetTransform t) s m a s' = PassedOver s a s'
StepInPath (SetStyle x) s m a s' = PassedOver s a s'
StepInPath (Draw c) s m a s' = PassedOver s a s'
StepInPath EmptyShape s m a s' = PassedOver s a s'
StepInPath (Elements xs fill) s m a s' = PassedOver s a s'
StepInPath (OpenPath fill) s m a s' = PassedOver s a s'

abbrev pub StepBy : Plan → Call → Sheet → Streams → Answer → Sheet → Type 0
StepBy (Closed e) c s m a s' = StepAtRest c s m a s'
StepBy (Open p) c s m a s' = StepInPath c s m a s'

-- the plan h, brought the streams m, answers a call with a and becomes h', with the streams m'
abbrev pub Step : Call → Plan → Streams → Answer → Plan → Streams → Type 0
Step c h m a h' m' = StepBy h c (shown h m) m a (shown h' m')

-- A run of one Encoding, the latest call first, with the six streams as its accepted calls left them. The streams may
-- be brought from elsewhere at each call, with other free entries and other space, if they hold the same used entries;
-- a call that works on two streams leaves the other four as they are. What a declined call is brought may hold anything.
pub data Run : List Made → Plan → Streams → Type 0 where
  begun : (e : Encoding) (left : Streams) → ((m : Streams) → sheet e m ≡ blank) → Run [] (Closed e) left
  brought : {xs : List Made} {h : Plan} {left : Streams} (m : Streams) → Run xs h left → shown h m ≡ shown h left → Run xs h m
  accepted : {xs : List Made} {h : Plan} {m : Streams} (c : Call) (a : Answer) (h' : Plan) (m' : Streams) → Run xs h m → taken a ≡ true → Step c h m a h' m' → Run (made c a ∷ xs) h' m'
  declined : {xs : List Made} {h : Plan} {left : Streams} (c : Call) (m : Streams) (a : Answer) (h' : Plan) (m' : Streams) → Run xs h left → taken a ≡ false → Step c h m a h' m' → Run (made c a ∷ xs) h' left

-- after every run, whenever no path is open, the streams show the totals, the segments and the draw commands
abbrev pub RunsShow : Type 0
RunsShow = (xs : List Made) (e : Encoding) (m : Streams) → Run xs (Closed e) m → Whole xs (sheet e m)

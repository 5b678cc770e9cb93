-- The calls, and what the rules leave after those that were accepted. Assumes nothing.
use Rattle.std.specs.Prelude.{◌≡◌, ℕ, Bool, true, false, T, List, [], ◌∷◌, Some, None, Option, Float}
use Rattle.std.specs.Float.{binary32}
use Rattle.std.specs.Float.Ieee.{fits}
use Rattle.values.specs.declared.element.PathEl.{PathEl}
use Rattle.values.specs.declared.transform.Transform.{Transform}
use Rattle.values.specs.declared.style.Fill.{Fill}
use Rattle.values.specs.declared.style.Stroke.{Stroke}
use Rattle.values.specs.Settings.{MiterHalf}
use Rattle.encoding.specs.Sheet.{Opened, Sheet, blank}
use Rattle.encoding.specs.Promises.{Rule}
use Rattle.encoding.specs.Rules.{forced, transform_rule, fill_rule, stroke_rule, color_rule, blur_rule, begin_clip, end_clip}
use Rattle.encoding.specs.Paths.{path_opened, path_abandoned, finish_rule}
use Rattle.encoding.specs.Elements.{element_rule, empty_shape_rule, list_next}
use Rattle.replay.specs.declared.calls.Answer.{Answer}
use Rattle.replay.specs.declared.calls.Answer.TheVariants.{Done, Said, Counted, Declined, DeclinedAt, NotNow}

-- a style as it was asked for
pub data Chosen : Type 0 where
  Filled : Fill → Chosen
  Stroked : Stroke → Chosen

-- a draw or clip command
pub data Command : Type 0 where
  Color : ℕ → Command
  Blurred : ℕ → Float → Float → Float → Float → Command
  BeginClip : ℕ → ℕ → Float → Command
  EndClip : Command

pub data Call : Type 0 where
  Reset : Call
  ForceNext : Call
  SetTransform : Transform → Call
  SetStyle : Chosen → Call
  Draw : Command → Call
  EmptyShape : Call
  Elements : List PathEl → Bool → Call
  OpenPath : Bool → Call
  Take : PathEl → Call
  Finish : Bool → Call
  Abandon : Call

-- a rule accepts, and leaves q
abbrev pub Takes : {V : Type 0} → Rule V → Sheet → Sheet → Type 0
Takes k s q = (k.own s ≡ None) × (q ≡ k.next s)

-- h is the half of the stroke's miter limit, and its width is an f32
abbrev pub Strokes : Stroke → ℕ → Type 0
Strokes k h = MiterHalf k h × T (fits binary32 k.width)

abbrev pub Styles : Chosen → Sheet → Sheet → Type 0
Styles (Filled f) s q = Takes (fill_rule f) s q
Styles (Stroked k) s q = (h : ℕ) × Strokes k h × Takes (stroke_rule k h) s q

abbrev pub Draws : Command → Sheet → Sheet → Type 0
Draws (Color c) s q = Takes (color_rule c) s q
Draws (Blurred c w h r d) s q = Takes (blur_rule c w h r d) s q
Draws (BeginClip mix compose alpha) s q = Takes (begin_clip mix compose alpha) s q
Draws EndClip s q = Takes end_clip s q

-- with no path open, an accepted call leaves q
abbrev pub FromRest : Call → Sheet → Sheet → Type 0
FromRest Reset s q = q ≡ blank
FromRest ForceNext s q = q ≡ forced s
FromRest (SetTransform t) s q = Takes (transform_rule t) s q
FromRest (SetStyle x) s q = Styles x s q
FromRest (Draw c) s q = Draws c s q
FromRest EmptyShape s q = Takes empty_shape_rule s q
FromRest (Elements xs fill) s q = q ≡ list_next xs fill s
FromRest (OpenPath fill) s q = q ≡ path_opened fill s
FromRest (Take x) s q = ⊥
FromRest (Finish mark) s q = ⊥
FromRest Abandon s q = ⊥

-- with a path open, only its own calls can be made
abbrev pub FromPath : Call → Sheet → Sheet → Type 0
FromPath (Take x) s q = Takes (element_rule x) s q
FromPath (Finish mark) s q = Takes (finish_rule mark) s q
FromPath Abandon s q = q ≡ path_abandoned s
FromPath Reset s q = ⊥
FromPath ForceNext s q = ⊥
FromPath (SetTransform t) s q = ⊥
FromPath (SetStyle x) s q = ⊥
FromPath (Draw c) s q = ⊥
FromPath EmptyShape s q = ⊥
FromPath (Elements xs fill) s q = ⊥
FromPath (OpenPath fill) s q = ⊥

abbrev pub From : Option Opened → Call → Sheet → Sheet → Type 0
From None c s q = FromRest c s q
From (Some o) c s q = FromPath c s q

-- an accepted call leaves q where s stood
abbrev pub Leaves : Call → Sheet → Sheet → Type 0
Leaves c s q = From s.open_path c s q

-- whether an answer is that of an accepted call
abbrev pub taken : Answer → Bool
taken Done = true
taken (Said b) = true
taken (Counted n) = true
taken (Declined e) = false
taken (DeclinedAt e) = false
taken NotNow = false

-- a call that was made, and what it answered
pub record Made : Type 0 where
  pub call : Call
  pub answer : Answer

abbrev pub made : Call → Answer → Made
made c a = record { call = c; answer = a }

abbrev pub RuledBy : Bool → Call → (Sheet → Type 0) → Sheet → Type 0
RuledBy true c Before q = (s : Sheet) × Before s × Leaves c s q
RuledBy false c Before q = Before q

-- q is what the rules leave after these calls, the latest first; a declined one changes nothing
abbrev pub Ruled : List Made → Sheet → Type 0
Ruled [] q = q ≡ blank
Ruled (x ∷ xs) q = RuledBy (taken x.answer) x.call (Ruled xs) q

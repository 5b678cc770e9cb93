-- The log: what was drawn, without streams. It is fed each call, and whether it was accepted. Assumes nothing.
use Rattle.std.specs.Prelude.{ℕ, ◌+◌, ◌*◌, cond, List, [], ◌∷◌, ◌++◌, length, Some, None, Option, to_bits}
use Rattle.std.specs.Float.{binary32}
use Rattle.monoid.specs.declared.path.PathTag.{PathTag}
use Rattle.monoid.specs.declared.draw.DrawTag.{DrawTag}
use Rattle.monoid.specs.PathTags.{tag}
use Rattle.geometry.specs.Segments.{point_of}
use Rattle.geometry.specs.declared.points.Segment.TheVariants.{Line, Quad, Cubic}
use Rattle.path.specs.declared.state.Step.{Step}
use Rattle.path.specs.declared.state.Step.TheVariants as Of
use Rattle.path.specs.Rules.{Own, Path, fresh, leave, step}
use Rattle.path.specs.Turns.{Piece, pieces}
use Rattle.values.specs.declared.element.PathEl.{PathEl}
use Rattle.values.specs.declared.element.PathEl.TheVariants.{MoveTo, LineTo, QuadTo, CurveTo, ClosePath}
use Rattle.values.specs.declared.transform.Transform.{Transform}
use Rattle.replay.specs.Calls.{Chosen, Command, Call, Made, taken}
use Rattle.replay.specs.Calls.Command.{Color, Blurred, BeginClip, EndClip}
use Rattle.replay.specs.Calls.Call.{Reset, ForceNext, SetTransform, SetStyle, Draw, EmptyShape, Elements, OpenPath, Take, Finish, Abandon}

-- a segment with the words of its points, and the style and the transform that it is drawn in
pub record Segment : Type 0 where
  pub tag : PathTag
  pub points : List ℕ
  pub style : Option Chosen
  pub transform : Option Transform

-- a draw command, and for an end the place, among the commands, of the begin that it closes
pub record Entry : Type 0 where
  pub tag : DrawTag
  pub words : List ℕ
  pub closes : Option ℕ

-- the draw commands, and the places of the begins still open, the latest first
pub record Commands : Type 0 where
  pub entries : List Entry
  pub begun : List ℕ

pub record Log : Type 0 where
  pub style : Option Chosen
  pub transform : Option Transform
  pub segments : List Segment
  pub commands : Commands
  pub path : Option Path

abbrev pub no_commands : Commands
no_commands = record { entries = []; begun = [] }

abbrev pub empty : Log
empty = record { style = None; transform = None; segments = []; commands = no_commands; path = None }

-- draw commands

abbrev pub entry : ℕ → List ℕ → Option ℕ → Entry
entry n ws closes = record { tag = record { 0 = n }; words = ws; closes = closes }

abbrev pub one_more : Entry → List ℕ → Commands → Commands
one_more x bs d = record { entries = d.entries ++ x ∷ []; begun = bs }

abbrev pub close_latest : List ℕ → Commands → Commands
close_latest [] d = d
close_latest (b ∷ bs) d = one_more (entry 0x21 [] (Some b)) bs d

-- a begin opens, and an end closes the latest begin open
abbrev pub drawn : Command → Commands → Commands
drawn (Color c) d = one_more (entry 0x44 (c ∷ []) None) d.begun d
drawn (Blurred c w h r e) d = one_more (entry 0x2d4 (c ∷ to_bits binary32 w ∷ to_bits binary32 h ∷ to_bits binary32 r ∷ to_bits binary32 e ∷ []) None) d.begun d
drawn (BeginClip mix compose alpha) d = one_more (entry 0x49 ((mix * 256 + compose) ∷ to_bits binary32 alpha ∷ []) None) (length d.entries ∷ d.begun) d
drawn EndClip d = close_latest d.begun d

-- segments

abbrev pub styled : Option Chosen → Option Transform → List Piece → List Segment
styled st tr [] = []
styled st tr (p ∷ ps) = record { tag = p.tag; points = p.words; style = st; transform = tr } ∷ styled st tr ps

-- segments take their points from a path's words in turn, and the path is over
abbrev pub with_segments : Own → Log → Log
with_segments o l = record {
  style = l.style;
  transform = l.transform;
  segments = l.segments ++ styled l.style l.transform (pieces o.tags o.words);
  commands = l.commands;
  path = None;
}

abbrev pub with_path : Option Path → Log → Log
with_path o l = record { style = l.style; transform = l.transform; segments = l.segments; commands = l.commands; path = o }

-- a zero line
abbrev pub empty_shape : Own
empty_shape = record { tags = tag 0x0D ∷ []; words = 0 ∷ 0 ∷ 0 ∷ 0 ∷ [] }

-- the step of an element, whose points are kept as patterns
abbrev pub step_of : PathEl → Step
step_of (MoveTo x y) = Of.Move (point_of x y)
step_of (LineTo x y) = Of.Draw (Line (point_of x y))
step_of (QuadTo x1 y1 x2 y2) = Of.Draw (Quad (point_of x1 y1) (point_of x2 y2))
step_of (CurveTo x1 y1 x2 y2 x3 y3) = Of.Draw (Cubic (point_of x1 y1) (point_of x2 y2) (point_of x3 y3))
step_of ClosePath = Of.Close

abbrev pub drawn_in : List PathEl → Path → Path
drawn_in [] m = m
drawn_in (x ∷ xs) m = drawn_in xs (step (step_of x) m)

-- an accepted call, with no path open and with the path m open

abbrev pub noted_at_rest : Call → Log → Log
noted_at_rest Reset l = empty
noted_at_rest ForceNext l = l
noted_at_rest (SetTransform t) l = record { style = l.style; transform = Some t; segments = l.segments; commands = l.commands; path = l.path }
noted_at_rest (SetStyle x) l = record { style = Some x; transform = l.transform; segments = l.segments; commands = l.commands; path = l.path }
noted_at_rest (Draw c) l = record { style = l.style; transform = l.transform; segments = l.segments; commands = drawn c l.commands; path = l.path }
noted_at_rest EmptyShape l = with_segments empty_shape l
noted_at_rest (Elements xs fill) l = with_segments (leave (drawn_in xs (fresh fill))).own l
noted_at_rest (OpenPath fill) l = with_path (Some (fresh fill)) l
noted_at_rest (Take x) l = l
noted_at_rest (Finish mark) l = l
noted_at_rest Abandon l = l

abbrev pub noted_in_path : Call → Path → Log → Log
noted_in_path (Take x) m l = with_path (Some (step (step_of x) m)) l
noted_in_path (Finish mark) m l = with_segments (leave m).own l
noted_in_path Abandon m l = with_path None l
noted_in_path Reset m l = l
noted_in_path ForceNext m l = l
noted_in_path (SetTransform t) m l = l
noted_in_path (SetStyle x) m l = l
noted_in_path (Draw c) m l = l
noted_in_path EmptyShape m l = l
noted_in_path (Elements xs fill) m l = l
noted_in_path (OpenPath fill) m l = l

abbrev pub noted_by : Option Path → Call → Log → Log
noted_by None c l = noted_at_rest c l
noted_by (Some m) c l = noted_in_path c m l

abbrev pub noted : Call → Log → Log
noted c l = noted_by l.path c l

-- the log of calls, the latest first: a declined one adds nothing
abbrev pub logged : List Made → Log
logged [] = empty
logged (x ∷ xs) = cond (taken x.answer) (noted x.call (logged xs)) (logged xs)

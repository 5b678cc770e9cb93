-- What the values of a list of calls stand for, and what is promised of replaying one. Assumes nothing.
use Rattle.std.specs.Prelude.{◌≡◌, ℕ, min, List, map, reverse, length, take, drop}
use Rattle.monoid.specs.declared.path.PathTag.{PathTag}
use Rattle.monoid.specs.declared.draw.DrawTag.{DrawTag}
use Rattle.values.specs.declared.transform.Transform.{Transform}
use Rattle.values.specs.declared.style.Style.{Style}
use Rattle.encoding.specs.Sheet.{Streams, Sheet, sheet}
use Rattle.replay.specs.declared.calls.Answer.{Answer}
use Rattle.replay.specs.declared.calls.Plan.{Plan}
use Rattle.replay.specs.declared.calls.Plan.TheVariants.{Closed, Open}
use Rattle.replay.specs.declared.calls.Call as Value
use Rattle.replay.specs.declared.calls.Call.TheVariants as Of
use Rattle.replay.specs.Calls.{Call, Made}
use Rattle.replay.specs.Calls.Chosen.{Filled, Stroked}
use Rattle.replay.specs.Calls.Command.{Color, Blurred, BeginClip, EndClip}
use Rattle.replay.specs.Calls.Call.{Reset, ForceNext, SetTransform, SetStyle, Draw, EmptyShape, Elements, OpenPath, Take, Finish, Abandon}
use Rattle.replay.specs.Wanted.{Whole}
use Rattle.replay.specs.Runs.{Run, Step, StepAtRest, PassedOver}

abbrev pub meant : Value.Call → Call
meant Of.Reset = Reset
meant Of.ForceNext = ForceNext
meant (Of.Transform t) = SetTransform t
meant (Of.FillStyle f) = SetStyle (Filled f)
meant (Of.StrokeStyle k) = SetStyle (Stroked k)
meant (Of.Color c) = Draw (Color c)
meant (Of.BlurredRoundedRect c w h r d) = Draw (Blurred c w h r d)
meant (Of.BeginClip mix compose alpha) = Draw (BeginClip mix compose alpha)
meant Of.EndClip = Draw EndClip
meant Of.EmptyShape = EmptyShape
meant (Of.PathElements xs fill) = Elements xs.now fill
meant (Of.Path fill) = OpenPath fill
meant (Of.Element x) = Take x
meant (Of.Finish mark) = Finish mark
meant Of.Abandon = Abandon

abbrev pub six : List PathTag → List ℕ → List DrawTag → List ℕ → List Transform → List Style → Streams
six pt pd dt dd tr st = record { path_tags = pt; path_data = pd; draw_tags = dt; draw_data = dd; transforms = tr; styles = st }

-- a call that leaves no path open: one that opens a path is passed over here
abbrev pub AnswersClosed : Call → Sheet → Streams → Answer → Sheet → Type 0
AnswersClosed (OpenPath fill) s m a s' = PassedOver s a s'
AnswersClosed Reset s m a s' = StepAtRest Reset s m a s'
AnswersClosed ForceNext s m a s' = StepAtRest ForceNext s m a s'
AnswersClosed (SetTransform t) s m a s' = StepAtRest (SetTransform t) s m a s'
AnswersClosed (SetStyle x) s m a s' = StepAtRest (SetStyle x) s m a s'
AnswersClosed (Draw c) s m a s' = StepAtRest (Draw c) s m a s'
AnswersClosed EmptyShape s m a s' = StepAtRest EmptyShape s m a s'
AnswersClosed (Elements xs fill) s m a s' = StepAtRest (Elements xs fill) s m a s'
AnswersClosed (Take x) s m a s' = PassedOver s a s'
AnswersClosed (Finish mark) s m a s' = PassedOver s a s'
AnswersClosed Abandon s m a s' = PassedOver s a s'

pub record CalledClosed (c : Call) (s : Sheet) (m : Streams) (a : Answer) (s' : Sheet) : Type 0 where
  pub so : AnswersClosed c s m a s'

-- the plan h, brought the streams m, answers a call with a and becomes h', with the streams m'
pub record Called (c : Call) (h : Plan) (m : Streams) (a : Answer) (h' : Plan) (m' : Streams) : Type 0 where
  pub so : Step c h m a h' m'

-- the calls cs were made in order, with these answers, and left h over the streams m
pub record Ran (cs : List Value.Call) (answers : List Answer) (h : Plan) (m : Streams) : Type 0 where
  pub made : List Made
  pub calls : map (λ (x : Made). x.call) made ≡ reverse (map meant cs)
  pub answered : map (λ (x : Made). x.answer) made ≡ reverse answers
  pub run : Run made h m

abbrev pub ShownBy : Plan → List Made → Streams → Type 0
ShownBy (Closed e) xs m = Whole xs (sheet e m)
ShownBy (Open p) xs m = Unit {0}

-- As many calls were made as there are places for answers, and the other places stay. If no path is open, the streams
-- show what was drawn.
pub record Replayed (cs : List Value.Call) (was answers : List Answer) (h : Plan) (m : Streams) : Type 0 where
  pub ran : Ran (take (min (length cs) (length was)) cs) (take (min (length cs) (length was)) answers) h m
  pub rest : drop (min (length cs) (length was)) answers ≡ drop (min (length cs) (length was)) was
  pub shows : ShownBy h ran.made m

-- The rules of an open path's calls, over the sheet. Assumes nothing.
use Rattle.std.specs.Prelude.{ℕ, ◌+◌, Bool, true, cond, [], ◌∷◌, length, Some, None, Option, ◌==◌, Float}
use Rattle.geometry.specs.Numbers.{all_finite}
use Rattle.geometry.specs.Segments.{point_of}
use Rattle.geometry.specs.declared.points.Segment.TheVariants.{Line, Quad, Cubic}
use Rattle.path.specs.declared.state.Step.{Step}
use Rattle.path.specs.declared.state.Step.TheVariants.{Move, Draw, Close}
use Rattle.path.specs.Rules.{Path, fresh, leave, finish, step}
use Rattle.values.specs.declared.error.Stream.TheVariants.{PathTags, PathData}
use Rattle.values.specs.declared.error.EncodeError.TheVariants.{NotFinite}
use Rattle.values.specs.Errors.{unless}
use Rattle.encoding.specs.Sheet.{Sheet, Outlines, Opened, with_outlines, with_open}
use Rattle.encoding.specs.Promises.{Rule}
use Rattle.encoding.specs.Rules.{Nothing, added}

-- a path with the entries that it uses
abbrev pub whole : Path → Opened
whole p = record { path = p; tags = length p.own.tags; words = length p.own.words }

-- `encode_path`
abbrev pub path_opened : Bool → Sheet → Sheet
path_opened fill s = with_open (Some (whole (fresh fill))) s

-- `abandon`
abbrev pub path_abandoned : Sheet → Sheet
path_abandoned s = with_open None s

abbrev pub stepped : Step → Option Opened → Option Opened
stepped x None = None
stepped x (Some o) = Some (whole (step x o.path))

abbrev pub step_rule : Bool → Step → Rule Nothing
step_rule finite x = record {
  on = PathTags ∷ PathData ∷ [];
  own = λ s. unless finite NotFinite;
  answer = λ s. tt;
  next = λ s. with_open (stepped x s.open_path) s;
}

abbrev pub move_rule : Float → Float → Rule Nothing
move_rule x y = step_rule (all_finite (x ∷ y ∷ [])) (Move (point_of x y))

abbrev pub line_rule : Float → Float → Rule Nothing
line_rule x y = step_rule (all_finite (x ∷ y ∷ [])) (Draw (Line (point_of x y)))

abbrev pub quad_rule : Float → Float → Float → Float → Rule Nothing
quad_rule x1 y1 x2 y2 = step_rule (all_finite (x1 ∷ y1 ∷ x2 ∷ y2 ∷ [])) (Draw (Quad (point_of x1 y1) (point_of x2 y2)))

abbrev pub cubic_rule : Float → Float → Float → Float → Float → Float → Rule Nothing
cubic_rule x1 y1 x2 y2 x3 y3 =
    step_rule (all_finite (x1 ∷ y1 ∷ x2 ∷ y2 ∷ x3 ∷ y3 ∷ [])) (Draw (Cubic (point_of x1 y1) (point_of x2 y2) (point_of x3 y3)))

abbrev pub close_rule : Rule Nothing
close_rule = step_rule true Close

-- the segments that a finished path has counted
abbrev pub counted : Path → ℕ
counted p = length (leave p).own.tags

abbrev pub counted_in : Option Opened → ℕ
counted_in None = 0
counted_in (Some o) = counted o.path

-- the path's entries, segments and perhaps its tag join the sheet
abbrev pub outlined : Bool → Path → Outlines → Outlines
outlined mark p o = record { words = added o.words (finish mark p).own.words; paths = o.paths + cond mark 1 0; segments = o.segments + counted p }

-- if any segment was counted; else nothing is left of it
abbrev pub ended : Bool → Option Opened → Sheet → Sheet
ended mark None s = s
ended mark (Some o) s =
    cond (counted o.path == 0) (with_open None s)
    (with_open None (with_outlines (added s.tags (finish mark o.path).own.tags) (outlined mark o.path s.outlines) s))

-- `finish`
abbrev pub finish_rule : Bool → Rule ℕ
finish_rule mark = record {
  on = PathTags ∷ PathData ∷ [];
  own = λ s. None;
  answer = λ s. counted_in s.open_path;
  next = λ s. ended mark s.open_path s;
}

-- What the rules amount to, after any list of steps from a fresh path. Assumes nothing.
use Rattle.std.specs.Prelude.{◌≡◌, ℕ, ◌+◌, ◌*◌, ◌<◌, min, Bool, cond, List, [], ◌∷◌, ◌++◌, length}
use Rattle.monoid.specs.Laws.{reduced}
use Rattle.monoid.specs.declared.path.PathTag.{PathTag}
use Rattle.monoid.specs.PathTags.{none, plus, from_tag, segment_type, bit}
use Rattle.path.specs.declared.state.PathState.TheVariants.{Start}
use Rattle.path.specs.declared.state.Step.{Step}
use Rattle.path.specs.States.{by_state}
use Rattle.path.specs.Entries.{path_tag}
use Rattle.path.specs.Rules.{Path, fresh, leave, finish, steps}
use Rattle.path.specs.Subpaths.{Subpath, LaidOut, Whole, Holds, subpath_tags}
use Rattle.path.specs.Turns.{pieces, left_over, all_drawn}

abbrev pub sum_of : (PathTag → ℕ) → List PathTag → ℕ
sum_of f [] = 0
sum_of f (t ∷ ts) = f t + sum_of f ts

-- the points that tags count, their subpaths' ends, and their segments
abbrev pub points_in : List PathTag → ℕ
points_in ts = sum_of segment_type ts

abbrev pub ends_in : List PathTag → ℕ
ends_in ts = sum_of (bit 2) ts

abbrev pub segments_in : List PathTag → ℕ
segments_in ts = sum_of (λ t. min 1 (segment_type t)) ts

-- a path at rest: its segments, read in turn, are those of whole subpaths, and no word is left over
pub record ReadsBack (m : Path) : Type 0 where
  pub subpaths : List Subpath
  pub holds : Holds m subpaths [] []
  pub pieces_are : pieces m.own.tags m.own.words ≡ all_drawn subpaths
  pub no_more : left_over m.own.tags m.own.words ≡ []
  pub counts : reduced none plus from_tag m.own.tags ≡ record { transforms = 0; segments = length m.own.tags; words = length m.own.words; styles = 0; paths = 0 }

-- an open path: two words for each subpath's first point and for each point that its tags count, and each tag is a segment
pub record Counted (m : Path) : Type 0 where
  pub words : length m.own.words ≡ 2 * ends_in m.own.tags + 2 * points_in m.own.tags + by_state 0 2 2 m.state
  pub segments : segments_in m.own.tags ≡ length m.own.tags

-- a finished path: with no segment nothing is left; else its tags are those that it had at rest, and perhaps the path's
pub record EndsWell (m : Path) : Type 0 where
  pub rests : (leave m).state ≡ Start
  pub reads : ReadsBack (leave m)
  pub words : (mark : Bool) → (finish mark m).own.words ≡ (leave m).own.words
  pub nothing : (mark : Bool) → length (leave m).own.tags ≡ 0 → (finish mark m).own ≡ record { tags = []; words = [] }
  pub something : (mark : Bool) → 0 < length (leave m).own.tags → (finish mark m).own.tags ≡ (leave m).own.tags ++ cond mark (path_tag ∷ []) []

pub record Amounts (m : Path) : Type 0 where
  pub laid : LaidOut m
  pub counted : Counted m
  pub finishes : EndsWell m

-- each whole subpath has one 04
abbrev pub OneEnd : Type 0
OneEnd = (fill : Bool) (d : Subpath) → Whole fill d → ends_in (subpath_tags d) ≡ 1

abbrev pub AfterAnySteps : Bool → Type 0
AfterAnySteps fill = (ss : List Step) → Amounts (steps ss (fresh fill))

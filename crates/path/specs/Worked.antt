-- Paths worked through by the rules. Assumes nothing.
use Rattle.std.specs.Prelude.{◌≡◌, ℕ, Bool, true, false, List, [], ◌∷◌, length}
use Rattle.geometry.specs.declared.points.Point.{Point}
use Rattle.geometry.specs.declared.points.Segment.TheVariants.{Line}
use Rattle.monoid.specs.PathTags.{tag}
use Rattle.path.specs.declared.state.Step.{Step}
use Rattle.path.specs.declared.state.Step.TheVariants.{Move, Draw, Close}
use Rattle.path.specs.Rules.{Own, fresh, leave, finish, steps}

abbrev pub at : ℕ → ℕ → Point
at x y = record { x = x; y = y }

abbrev pub move : ℕ → ℕ → Step
move x y = Move (at x y)

abbrev pub line : ℕ → ℕ → Step
line x y = Draw (Line (at x y))

-- the entries after steps, and after a finish
abbrev pub drawn : Bool → List Step → Own
drawn fill ss = (steps ss (fresh fill)).own

abbrev pub ended : Bool → Bool → List Step → Own
ended mark fill ss = (finish mark (steps ss (fresh fill))).own

abbrev pub counted : Bool → List Step → ℕ
counted fill ss = length (leave (steps ss (fresh fill))).own.tags

-- a fill of 0,0 to 4,0 to 4,3 is closed by a third line
abbrev pub triangle : List Step
triangle = move 0 0 ∷ line 0x40800000 0 ∷ line 0x40800000 0x40400000 ∷ []

-- a stroke of 0,0 to 3,0 ends in an open marker, whose tangent ends at 1,0
abbrev pub stroke : List Step
stroke = move 0 0 ∷ line 0x40400000 0 ∷ []

-- a fill that is closed at its first point goes on from there
abbrev pub reopened : List Step
reopened = move 0 0 ∷ Close ∷ line 0x40800000 0 ∷ []

-- a line to epsilon is dropped, and one to the next number is kept
abbrev pub to_epsilon : List Step
to_epsilon = move 0 0 ∷ line 0x2b8cbccc 0 ∷ []

abbrev pub past_epsilon : List Step
past_epsilon = move 0 0 ∷ line 0x2b8cbccd 0 ∷ []

-- a fill back to -0.0, 0 is not at 0.0, 0 bit for bit
abbrev pub negative_zero : List Step
negative_zero = move 0 0 ∷ line 0x3f800000 0 ∷ line 0x80000000 0 ∷ []

-- a closed stroke of twice epsilon: its marker is dropped
abbrev pub hairline : List Step
hairline = move 0 0 ∷ line 0x2c0cbccc 0 ∷ Close ∷ []

pub record Worked : Type 0 where
  pub triangle-is : ended true true triangle ≡ record {
    tags = tag 0x09 ∷ tag 0x09 ∷ tag 0x0D ∷ tag 0x10 ∷ [];
    words = 0 ∷ 0 ∷ 0x40800000 ∷ 0 ∷ 0x40800000 ∷ 0x40400000 ∷ 0 ∷ 0 ∷ [];
  }
  pub triangle-counts : counted true triangle ≡ 3
  pub stroke-is : ended true false stroke ≡ record {
    tags = tag 0x09 ∷ tag 0x0E ∷ tag 0x10 ∷ [];
    words = 0 ∷ 0 ∷ 0x40400000 ∷ 0 ∷ 0 ∷ 0 ∷ 0x3F800000 ∷ 0 ∷ [];
  }
  pub stroke-counts : counted false stroke ≡ 2
  pub reopened-is : ended true true reopened ≡ record {
    tags = tag 0x09 ∷ tag 0x0D ∷ tag 0x10 ∷ [];
    words = 0 ∷ 0 ∷ 0x40800000 ∷ 0 ∷ 0 ∷ 0 ∷ [];
  }
  pub reopened-counts : counted true reopened ≡ 2
  pub to_epsilon-is : (fill : Bool) → drawn fill to_epsilon ≡ record { tags = []; words = 0 ∷ 0 ∷ [] }
  pub past_epsilon-is : (fill : Bool) → drawn fill past_epsilon ≡ record { tags = tag 0x09 ∷ []; words = 0 ∷ 0 ∷ 0x2b8cbccd ∷ 0 ∷ [] }
  pub negative_zero-is : ended false true negative_zero ≡ record {
    tags = tag 0x09 ∷ tag 0x09 ∷ tag 0x0D ∷ [];
    words = 0 ∷ 0 ∷ 0x3f800000 ∷ 0 ∷ 0x80000000 ∷ 0 ∷ 0 ∷ 0 ∷ [];
  }
  pub hairline_is : drawn false hairline ≡ record {
    tags = tag 0x09 ∷ tag 0x0D ∷ [];
    words = 0 ∷ 0 ∷ 0x2c0cbccc ∷ 0 ∷ 0 ∷ 0 ∷ [];
  }

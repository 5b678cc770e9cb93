-- The two parts of a segment call: a subpath is opened for it, and it is drawn. Assumes nothing.
use Rattle.std.specs.Prelude.{Bool, true, cond}
use Rattle.geometry.specs.declared.points.Point.{Point}
use Rattle.path.specs.declared.state.PathState.{PathState}
use Rattle.path.specs.declared.state.PathState.TheVariants.{Start, MoveTo, NonemptySubpath}
use Rattle.path.specs.Rules.{Path, move_to}

-- a segment is drawn, unless it is taken for a move
abbrev pub draws_in : PathState → Path → Bool
draws_in Start m = m.moved
draws_in MoveTo m = true
draws_in NonemptySubpath m = true

unfoldable pub draws : Path → Bool
draws m = draws_in m.state m

-- for a segment to the point e
abbrev pub opened_in : PathState → Point → Path → Path
opened_in Start e m = cond m.moved (move_to m.first m) (move_to e m)
opened_in MoveTo e m = m
opened_in NonemptySubpath e m = m

unfoldable pub opened : Point → Path → Path
opened e m = opened_in m.state e m

-- Numbers by the state of an open path. Assumes nothing.
use Rattle.std.specs.Prelude.{ℕ}
use Rattle.path.specs.declared.state.PathState.{PathState}
use Rattle.path.specs.declared.state.PathState.TheVariants.{Start, MoveTo, NonemptySubpath}

-- in the order Start, MoveTo, NonemptySubpath
abbrev pub by_state : ℕ → ℕ → ℕ → PathState → ℕ
by_state a b d Start = a
by_state a b d MoveTo = b
by_state a b d NonemptySubpath = d

-- A number that falls at each call, by the state.
use Rattle.path.specs.States.{by_state}
use Rattle.path.proofs.open_path.OpenPath.+path_calls.Given as goal

abbrev pub decreases-close : goal.decreases-close
decreases-close l = by_state 0 0 3 l.self.now.state

abbrev pub decreases-insert_marker : goal.decreases-insert_marker
decreases-insert_marker l = by_state 5 2 2 l.self.now.state

abbrev pub decreases-leave : goal.decreases-leave
decreases-leave l = by_state 1 1 4 l.self.now.state

abbrev pub decreases-line_to : goal.decreases-line_to
decreases-line_to l = by_state 4 1 1 l.self.now.state

abbrev pub decreases-move_to : goal.decreases-move_to
decreases-move_to l = by_state 2 2 5 l.self.now.state

abbrev pub decreases-open_subpath : goal.decreases-open_subpath
decreases-open_subpath l = by_state 3 0 0 l.self.now.state

abbrev pub decreases-quad_to : goal.decreases-quad_to
decreases-quad_to l = by_state 4 1 1 l.self.now.state

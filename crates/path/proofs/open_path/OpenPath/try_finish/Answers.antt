-- A finish that is accepted.
use Rattle.path.specs.declared.state.Call.TheVariants.{Finish}
use Rattle.path.specs.View.{lent}
use Rattle.path.proofs.Answering.{ready_admitted}
use Rattle.path.proofs.open_path.OpenPath.try_finish.Goals as goal

pub finish-segments-requires : goal.finish-segments-requires
finish-segments-requires c = ready_admitted (Finish c.args.insert_path_marker) (lent c.args.self c.args.tags.now c.args.words.now) c.in_default.ensures

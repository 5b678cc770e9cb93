-- A subpath is left with room for the path's tag, and no tag goes.
use Rattle.std.proofs.Common.{take, rules}
use Rattle.std.proofs.lemmas.List.{length-take-le}
use Rattle.path.specs.View.{lent, view}
use Rattle.path.proofs.Finish.{bounds}
use Rattle.path.proofs.Steps.{room-finish}
use Rattle.path.proofs.open_path.OpenPath.finish.Goals as goal

pub leave-requires : goal.leave-requires
leave-requires c =
    let a = lent c.args.self.now c.args.tags.now c.args.words.now in
    record { held = c.requires.held; room = room-finish c.args.insert_path_marker (view a) _ _ c.requires.room }

pub invariant_of-self : goal.invariant_of-self
invariant_of-self c =
    let l = length-take-le c.leave.new.self.tags c.leave.new.tags c.leave.ensures.kept.tags in
    let q = bounds c.args.insert_path_marker (take c.leave.new.self.tags c.leave.new.tags) in
    search rules

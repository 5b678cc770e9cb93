-- A step that is accepted or declined.
use Rattle.std.proofs.lemmas.Result.{err_from_is_err_and}
use Rattle.path.specs.declared.state.Call.TheVariants.{Take}
use Rattle.path.specs.View.{lent}
use Rattle.path.proofs.Answering.{ready_admitted, accepted, refused}
use Rattle.path.proofs.open_path.OpenPath.try_take.Goals as goal

pub returns-in_err-admit : goal.returns-in_err-admit
returns-in_err-admit g c =
    let p = err_from_is_err_and c.from_residual.result c.from_residual.ensures.1 in
    rw (p.1, p.2) (refused (Take (g.S.PathStep.step c.args.step)) (lent c.args.self.now c.args.tags.now c.args.words.now) _ c.in_err-admit.ensures)

pub take-requires : goal.take-requires
take-requires g c = ready_admitted (Take (g.S.PathStep.step c.args.step)) (lent c.args.self.now c.args.tags.now c.args.words.now) c.in_ok-admit.ensures

pub returns : goal.returns
returns g c = accepted (Take (g.S.PathStep.step c.args.step)) (lent c.args.self.now c.args.tags.now c.args.words.now) _ c.in_ok-admit.ensures c.take.ensures

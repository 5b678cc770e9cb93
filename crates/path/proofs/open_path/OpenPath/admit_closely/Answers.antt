-- The answers of the two checks of space.
use Rattle.std.proofs.lemmas.Result.{err_from_is_err_and}
use Rattle.std.proofs.Common.{Some, None}
use Rattle.path.specs.View.{lent}
use Rattle.path.proofs.Answering.{said-short, said-full}
use Rattle.path.proofs.open_path.OpenPath.admit_closely.Goals as goal

pub returns-in_err-used : goal.returns-in_err-used
returns-in_err-used c =
    let p = err_from_is_err_and c.from_residual.result c.from_residual.ensures.1 in
    let a = lent c.args.self.now c.args.tags.now c.args.words.now in
    rw (p.1, p.2) (said-short c.args.call a _ c.in_err-used.ensures)

pub returns-in-Some : goal.returns-in-Some
returns-in-Some c =
    let a = lent c.args.self.now c.args.tags.now c.args.words.now in
    said-full c.args.call a c.in_ok-used.used (Some c.in-Some.s) c.in_ok-used.ensures c.in-Some.ensures

pub returns-in-None : goal.returns-in-None
returns-in-None c =
    let a = lent c.args.self.now c.args.tags.now c.args.words.now in
    said-full c.args.call a c.in_ok-used.used None c.in_ok-used.ensures c.in-None.ensures

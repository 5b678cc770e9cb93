-- Where there is space for any call, no step is declined.
use Rattle.path.specs.declared.state.Call.TheVariants.{Take}
use Rattle.path.specs.View.{lent}
use Rattle.path.proofs.Answering.{said-roomy}
use Rattle.path.proofs.open_path.OpenPath.admit.Goals as goal

pub returns-then-is_roomy : goal.returns-then-is_roomy
returns-then-is_roomy g c = said-roomy (Take (g.S.PathStep.step c.args.step)) (lent c.args.self.now c.args.tags.now c.args.words.now) c.if-is_roomy.ensures

-- A fresh path, and what any steps from it come to.
use Rattle.std.proofs.Common.{refl}
use Rattle.path.proofs.Taking.{one_end}
use Rattle.path.proofs.Amounting.{after_any_steps}
use Rattle.path.proofs.open_path.OpenPath.new.Goals as goal

pub returns : goal.returns
returns c = record { opens = λ ts ws. refl; unused = refl; amounts = after_any_steps c.args.is_fill; one_end = one_end }

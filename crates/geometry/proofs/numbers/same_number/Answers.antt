-- What the comparison tells.
use Rattle.geometry.proofs.Compared.{compares}
use Rattle.geometry.proofs.numbers.same_number.Goals as goal

pub returns-clause-laws : goal.returns-clause-laws
returns-clause-laws c = compares

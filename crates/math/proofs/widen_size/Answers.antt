-- The single in the ranges of finite halves.
use Rattle.std.proofs.Common.{arith}
use Rattle.math.proofs.Widening.{normal_exact, zero_exact}
use Rattle.math.proofs.widen_size.Goals as goal

pub returns-then-n-ge-EXPONENT_16 : goal.returns-then-n-ge-EXPONENT_16
returns-then-n-ge-EXPONENT_16 c = normal_exact c.args.n (omega arith) (omega arith)

pub returns-else-n-gt0 : goal.returns-else-n-gt0
returns-else-n-gt0 c = zero_exact c.args.n (omega arith)

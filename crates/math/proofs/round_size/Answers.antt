-- The half in each range.
use Rattle.math.proofs.Rounding.{rounds_near, rounds_infinite, rounds-none, zero_near}
use Rattle.std.proofs.Common.{arith}
use Rattle.math.proofs.round_size.Goals as goal

pub returns-then-u-gt-INFINITY_32 : goal.returns-then-u-gt-INFINITY_32
returns-then-u-gt-INFINITY_32 c = rounds-none c.args.u (omega arith)

pub returns-then-u-ge-OVERFLOW : goal.returns-then-u-ge-OVERFLOW
returns-then-u-ge-OVERFLOW c = rounds_infinite c.args.u (omega arith) (omega arith)

pub returns-then-u-ge-SMALLEST_NORMAL : goal.returns-then-u-ge-SMALLEST_NORMAL
returns-then-u-ge-SMALLEST_NORMAL c = rounds_near c.args.u _ (omega arith) c.round_normal.ensures

pub returns-then-u-ge-SMALLEST_ROUNDED : goal.returns-then-u-ge-SMALLEST_ROUNDED
returns-then-u-ge-SMALLEST_ROUNDED c = rounds_near c.args.u _ (omega arith) c.round_subnormal.ensures

pub returns-else-u-ge-SMALLEST_ROUNDED : goal.returns-else-u-ge-SMALLEST_ROUNDED
returns-else-u-ge-SMALLEST_ROUNDED c = rounds_near c.args.u 0 (omega arith) (zero_near c.args.u (omega arith))

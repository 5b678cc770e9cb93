-- A NaN's pattern is one above the infinities, signs aside.
use lib.Ieee.{binary32}
use lib.Ieee.Bits.{nan_bits_above}
use Rattle.std.proofs.Common.{rules}
use Rattle.geometry.proofs.numbers.number_at.Goals as goal

pub float_from_bits-result : goal.float_from_bits-result
float_from_bits-result c = rw (nan_bits_above binary32 c.args.bits) (search rules)

pub returns-then-bits-gt-INFINITY : goal.returns-then-bits-gt-INFINITY
returns-then-bits-gt-INFINITY c = rw (nan_bits_above binary32 c.args.bits) (search rules)

pub returns-else-bits-gt-INFINITY : goal.returns-else-bits-gt-INFINITY
returns-else-bits-gt-INFINITY c = rw (nan_bits_above binary32 c.args.bits) (search rules)

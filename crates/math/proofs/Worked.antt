-- The worked halves, from the rules for their ranges.
use Rattle.std.proofs.Common.{refl, lit<, lit≤}
use Rattle.math.specs.Worked.{Worked}
use Rattle.math.proofs.Rounding.{rounds_near, rounds_infinite, normal_near, small_near}

pub worked : Worked
worked = record {
  tie = record { sign = refl; size = rounds_near 0x3f801000 0x3c01 (lit< tt) (normal_near 0x3f801000 (lit≤ tt) (lit< tt)) };
  smallest = record { sign = refl; size = rounds_near 0x33000000 1 (lit< tt) (small_near 0x33000000 (lit≤ tt) (lit< tt)) };
  largest = record { sign = refl; size = rounds_near 0x477fefff 0x7bff (lit< tt) (normal_near 0x477fefff (lit≤ tt) (lit< tt)) };
  overflow = record { sign = refl; size = rounds_infinite 0x477ff000 (lit≤ tt) (lit≤ tt) };
}

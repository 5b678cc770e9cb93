-- Worked halves.
use Rattle.math.specs.Halves.{RoundsTo}

pub record Worked : Type 0 where
  -- midway between 1 and the next half
  pub tie : RoundsTo 0x3f801000 0x3c01
  -- midway between 0 and the smallest half
  pub smallest : RoundsTo 0x33000000 0x0001
  -- the last single before 65520, and 65520
  pub largest : RoundsTo 0x477fefff 0x7bff
  pub overflow : RoundsTo 0x477ff000 0x7c00

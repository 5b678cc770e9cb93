-- The size that a pattern of IEEE 754's binary16 or binary32 stands for, in units of 2 ^ -149, binary32's smallest size.
use Rattle.std.specs.Prelude.{◌≡◌, ℕ, zero, suc, ◌+◌, ◌*◌, ◌/◌, ◌%◌, ◌^◌, ◌<◌, from_bits, nat_le}
use Rattle.std.specs.Float.{nan, inf, binary32}
use Rattle.std.specs.Float.Ieee.Exact.{HasValue}

-- An exponent's field e with the fraction t, of w fractions, in units of the format's smallest size: only a field of 0 has no leading digit.
abbrev pub scaled : ℕ → ℕ → ℕ → ℕ
scaled w zero t = t
scaled w (suc e) t = (w + t) * 2 ^ e

-- a pattern without its sign
unfoldable pub size_in : ℕ → ℕ → ℕ
size_in w n = scaled w (n / w) (n % w)

abbrev pub single_size : ℕ → ℕ
single_size n = size_in 8388608 n

-- in units of 2 ^ -24, binary16's smallest size
abbrev pub half_steps : ℕ → ℕ
half_steps n = size_in 1024 n

abbrev pub half_size : ℕ → ℕ
half_size n = half_steps n * 2 ^ 125

-- What the arithmetic of f32 takes the pattern b for: a number of this size, an infinity or a NaN.
pub record Means (b : ℕ) : Type 0 where
  pub number : b % 0x80000000 < 0x7f800000 → HasValue (from_bits binary32 b) (nat_le 0x80000000 b) (single_size (b % 0x80000000)) (2 ^ 149)
  pub infinite : b % 0x80000000 ≡ 0x7f800000 → from_bits binary32 b ≡ inf (nat_le 0x80000000 b)
  pub none : 0x7f800000 < b % 0x80000000 → from_bits binary32 b ≡ nan

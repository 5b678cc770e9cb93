-- Which half a single rounds to, ties away from zero, and which single a half is.
use Rattle.std.specs.Prelude.{◌≡◌, ℕ, ◌+◌, ◌-◌, ◌*◌, ◌/◌, ◌%◌, ◌^◌, ◌<◌, ◌≤◌, cond, ◌==◌}
use Rattle.math.specs.Sizes.{single_size, half_size}

abbrev pub apart : ℕ → ℕ → ℕ
apart a b = (a - b) + (b - a)

-- Of the finite halves, n is nearest to the size v, and of two as near the larger.
pub record Nearest (v n : ℕ) : Type 0 where
  pub number : n < 0x7c00
  pub nearer : (k : ℕ) → k < 0x7c00 → apart v (half_size n) ≤ apart v (half_size k)
  pub away : (k : ℕ) → k < 0x7c00 → apart v (half_size k) ≡ apart v (half_size n) → half_size k ≤ half_size n

-- The half n of the single u, both without a sign: 65520 lies midway between the largest half and the first size past it.
pub record Rounded (u n : ℕ) : Type 0 where
  pub nearest : single_size u < 65520 * 2 ^ 149 → Nearest (single_size u) n
  pub infinite : 65520 * 2 ^ 149 ≤ single_size u → u ≤ 0x7f800000 → n ≡ 0x7c00
  pub none : 0x7f800000 < u → n ≡ 0x7e00
  pub unsigned : n < 0x8000

-- the half h of the single b
pub record RoundsTo (b h : ℕ) : Type 0 where
  pub sign : h / 0x8000 ≡ b / 0x80000000
  pub size : Rounded (b % 0x80000000) (h % 0x8000)

-- The single u of the half n, both without a sign.
pub record Exact (n u : ℕ) : Type 0 where
  pub number : n < 0x7c00 → (u < 0x7f800000) × (single_size u ≡ half_size n)
  pub infinite : n ≡ 0x7c00 → u ≡ 0x7f800000
  -- the top bit of the fraction is set, and the others move up 13 places
  pub none : 0x7c00 < n → u ≡ 0x7fc00000 + n % 512 * 8192
  pub unsigned : u < 0x80000000

-- the single b of the half h
pub record WidensTo (h b : ℕ) : Type 0 where
  pub sign : b / 0x80000000 ≡ h / 0x8000
  pub size : Exact (h % 0x8000) (b % 0x80000000)

-- how far a single and a half lie from each other, signs counted
abbrev pub distance : ℕ → ℕ → ℕ
distance b h = cond (b / 0x80000000 == h / 0x8000) (apart (single_size (b % 0x80000000)) (half_size (h % 0x8000))) (single_size (b % 0x80000000) + half_size (h % 0x8000))

-- no finite half lies nearer than h to the single b, if that is below 65520 in size
abbrev pub NoneNearer : ℕ → ℕ → Type 0
NoneNearer b h = single_size (b % 0x80000000) < 65520 * 2 ^ 149 → (k : ℕ) → k % 0x8000 < 0x7c00 → distance b h ≤ distance b k

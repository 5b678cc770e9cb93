-- The sheets worked through. Assumes nothing.
use Rattle.std.proofs.Common.{◌≡◌, ℕ, [], ◌∷◌, Some, None, refl, ap, lit<}
use lib.Ieee.{binary32, is_nan, of_bits, to_bits}
use lib.Ieee.Bits.{to_bits-of_bits}
use Rattle.math.proofs.Worked as Halves
use Rattle.path.proofs.Examples as Paths
use Rattle.replay.specs.Log.{entry}
use Rattle.replay.specs.Worked.{Worked, one}

bits : to_bits binary32 one ≡ 0x3f800000
unfolding is_nan of_bits
bits = to_bits-of_bits binary32 0x3f800000 (lit< tt) tt

pub worked : Worked
worked = record {
  halves = Halves.worked;
  counting = record { word = refl; draws = refl; clips = refl };
  paths = Paths.worked;
  clip_log = ap (λ (a : ℕ). entry 0x49 (3 ∷ a ∷ []) None ∷ entry 0x44 (0xff0000ff ∷ []) None ∷ entry 0x21 [] (Some 0) ∷ []) bits;
  clip_draws = refl;
  clip_depth = refl;
  nested_ends = refl;
  empty_log = refl;
}

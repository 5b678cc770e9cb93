-- The sign goes before the size's half, and the laws of the relation hold of it.
use Rattle.std.proofs.Common.{ℕ, ◌+◌, ◌*◌, ◌/◌}
use Rattle.math.specs.Halves.{RoundsTo}
use Rattle.math.proofs.Rounding.{signed, one_half, none-nearer}
use Rattle.math.proofs.Means.{means}
use Rattle.math.proofs.f32_to_f16.Goals as goal

pub returns : goal.returns
returns c =
    let b : ℕ = c.args.bits in
    let r : ℕ = c.args.bits / 0x80000000 * 0x8000 + c.round_size-half.result in
    let x : RoundsTo c.args.bits (c.args.bits / 0x80000000 * 0x8000 + c.round_size-half.result) = signed c.args.bits c.round_size-half.result c.round_size-half.ensures in
    record { half = x; only = λ h y. one_half b h r y x; nearest = none-nearer b r x; means = means b }

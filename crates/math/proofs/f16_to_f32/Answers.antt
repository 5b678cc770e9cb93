-- The sign goes before the size's single, and the laws of the relation hold of it.
use Rattle.std.proofs.Common.{ℕ, ◌+◌, ◌*◌, ◌/◌, ◌<◌, arith}
use Rattle.math.specs.Halves.{WidensTo}
use Rattle.math.proofs.Widening.{signed, one_single, back}
use Rattle.math.proofs.Means.{means, half_means}
use Rattle.math.proofs.f16_to_f32.Goals as goal

pub returns : goal.returns
returns c =
    let h : ℕ = c.args.h in
    let r : ℕ = c.args.h / 0x8000 * 0x80000000 + c.widen_size-single.result in
    let x : WidensTo c.args.h (c.args.h / 0x8000 * 0x80000000 + c.widen_size-single.result) = signed c.args.h c.widen_size-single.result c.widen_size-single.ensures in
    let l : c.args.h / 0x8000 * 0x80000000 + c.widen_size-single.result < 0x100000000 = omega (arith, c.widen_size-single.ensures.unsigned) in
    record {
      exact = x;
      only = λ b y. one_single h b r y x;
      number = half_means h r l x;
      means = means r;
      back = λ n. back h r n x;
    }

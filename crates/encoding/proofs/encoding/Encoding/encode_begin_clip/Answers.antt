use Rattle.std.proofs.Common.{rules}
use Rattle.encoding.proofs.encoding.Encoding.encode_begin_clip.Goals as goal

pub returns-in_err-encode_draw : goal.returns-in_err-encode_draw
returns-in_err-encode_draw c =
    let answered = rw (c.all_finite-is_finite.ensures, c.f32_to_bits_with_nan.ensures) at c.encode_draw.ensures.answered in
    λ m. let a = answered m in search rules

pub returns : goal.returns
returns c =
    let answered = rw (c.all_finite-is_finite.ensures, c.f32_to_bits_with_nan.ensures) at c.encode_draw.ensures.answered in
    λ m. let a = answered m in search rules

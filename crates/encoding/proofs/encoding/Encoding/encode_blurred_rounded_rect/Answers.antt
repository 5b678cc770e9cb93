use Rattle.encoding.proofs.encoding.Encoding.encode_blurred_rounded_rect.Goals as goal

pub returns : goal.returns
returns c = rw (c.all_finite-is_finite.ensures, c.f32_to_bits_with_nan.ensures, c.f32_to_bits_with_nan-2.ensures, c.f32_to_bits_with_nan-3.ensures, c.f32_to_bits_with_nan-4.ensures) at c.encode_draw.ensures.answered

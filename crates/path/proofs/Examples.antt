-- The paths worked through, computed.
use Rattle.std.proofs.Common.{◌≡◌, Bool, true, false, [], ◌∷◌, refl}
use lib.Count.{count_trailing_zeros}
use lib.Ieee.{span, climb, size, odd, units, round, neg, sum, add, sub, mul, div, lt, eq, le, is_nan, of_fields, of_bits, to_bits}
use Rattle.std.specs.Float.{float_is_infinite, float_with_sign}
use Rattle.geometry.specs.Segments.{tangent_end, too_short, same_point}
use Rattle.monoid.specs.PathTags.{tag}
use Rattle.path.specs.Entries.{end_last, finished, drop_point, last_point}
use Rattle.path.specs.Rules.{put, join, close, leave, draw, segment_to}
use Rattle.path.specs.Worked.{Worked, drawn, ended, counted, triangle, stroke, reopened, to_epsilon, past_epsilon, negative_zero, hairline}

triangle-is : ended true true triangle ≡ record { tags = tag 0x09 ∷ tag 0x09 ∷ tag 0x0D ∷ tag 0x10 ∷ []; words = 0 ∷ 0 ∷ 0x40800000 ∷ 0 ∷ 0x40800000 ∷ 0x40400000 ∷ 0 ∷ 0 ∷ [] }
unfolding count_trailing_zeros span climb size odd units round neg sum add sub mul div lt eq le is_nan of_fields of_bits to_bits float_is_infinite float_with_sign tangent_end too_short same_point end_last finished drop_point last_point put join close leave draw segment_to
triangle-is = refl

triangle-counts : counted true triangle ≡ 3
unfolding count_trailing_zeros span climb size odd units round neg sum add sub mul div lt eq le is_nan of_fields of_bits to_bits float_is_infinite float_with_sign tangent_end too_short same_point end_last finished drop_point last_point put join close leave draw segment_to
triangle-counts = refl

stroke-is : ended true false stroke ≡ record { tags = tag 0x09 ∷ tag 0x0E ∷ tag 0x10 ∷ []; words = 0 ∷ 0 ∷ 0x40400000 ∷ 0 ∷ 0 ∷ 0 ∷ 0x3F800000 ∷ 0 ∷ [] }
unfolding count_trailing_zeros span climb size odd units round neg sum add sub mul div lt eq le is_nan of_fields of_bits to_bits float_is_infinite float_with_sign tangent_end too_short same_point end_last finished drop_point last_point put join close leave draw segment_to
stroke-is = refl

stroke-counts : counted false stroke ≡ 2
unfolding count_trailing_zeros span climb size odd units round neg sum add sub mul div lt eq le is_nan of_fields of_bits to_bits float_is_infinite float_with_sign tangent_end too_short same_point end_last finished drop_point last_point put join close leave draw segment_to
stroke-counts = refl

reopened-is : ended true true reopened ≡ record { tags = tag 0x09 ∷ tag 0x0D ∷ tag 0x10 ∷ []; words = 0 ∷ 0 ∷ 0x40800000 ∷ 0 ∷ 0 ∷ 0 ∷ [] }
unfolding count_trailing_zeros span climb size odd units round neg sum add sub mul div lt eq le is_nan of_fields of_bits to_bits float_is_infinite float_with_sign tangent_end too_short same_point end_last finished drop_point last_point put join close leave draw segment_to
reopened-is = refl

reopened-counts : counted true reopened ≡ 2
unfolding count_trailing_zeros span climb size odd units round neg sum add sub mul div lt eq le is_nan of_fields of_bits to_bits float_is_infinite float_with_sign tangent_end too_short same_point end_last finished drop_point last_point put join close leave draw segment_to
reopened-counts = refl

to_epsilon-is : (fill : Bool) → drawn fill to_epsilon ≡ record { tags = []; words = 0 ∷ 0 ∷ [] }
unfolding count_trailing_zeros span climb size odd units round neg sum add sub mul div lt eq le is_nan of_fields of_bits to_bits float_is_infinite float_with_sign tangent_end too_short same_point end_last finished drop_point last_point put join close leave draw segment_to
to_epsilon-is true = refl
to_epsilon-is false = refl

past_epsilon-is : (fill : Bool) → drawn fill past_epsilon ≡ record { tags = tag 0x09 ∷ []; words = 0 ∷ 0 ∷ 0x2b8cbccd ∷ 0 ∷ [] }
unfolding count_trailing_zeros span climb size odd units round neg sum add sub mul div lt eq le is_nan of_fields of_bits to_bits float_is_infinite float_with_sign tangent_end too_short same_point end_last finished drop_point last_point put join close leave draw segment_to
past_epsilon-is true = refl
past_epsilon-is false = refl

negative_zero-is : ended false true negative_zero ≡ record { tags = tag 0x09 ∷ tag 0x09 ∷ tag 0x0D ∷ []; words = 0 ∷ 0 ∷ 0x3f800000 ∷ 0 ∷ 0x80000000 ∷ 0 ∷ 0 ∷ 0 ∷ [] }
unfolding count_trailing_zeros span climb size odd units round neg sum add sub mul div lt eq le is_nan of_fields of_bits to_bits float_is_infinite float_with_sign tangent_end too_short same_point end_last finished drop_point last_point put join close leave draw segment_to
negative_zero-is = refl

hairline_is : drawn false hairline ≡ record { tags = tag 0x09 ∷ tag 0x0D ∷ []; words = 0 ∷ 0 ∷ 0x2c0cbccc ∷ 0 ∷ 0 ∷ 0 ∷ [] }
unfolding count_trailing_zeros span climb size odd units round neg sum add sub mul div lt eq le is_nan of_fields of_bits to_bits float_is_infinite float_with_sign tangent_end too_short same_point end_last finished drop_point last_point put join close leave draw segment_to
hairline_is = refl

pub worked : Worked
worked = record {
  triangle-is = triangle-is;
  triangle-counts = triangle-counts;
  stroke-is = stroke-is;
  stroke-counts = stroke-counts;
  reopened-is = reopened-is;
  reopened-counts = reopened-counts;
  to_epsilon-is = to_epsilon-is;
  past_epsilon-is = past_epsilon-is;
  negative_zero-is = negative_zero-is;
  hairline_is = hairline_is;
}

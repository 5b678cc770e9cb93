-- The worked examples, computed.
use Rattle.std.proofs.Common.{refl}
use lib.Count.{count_trailing_zeros}
use lib.Ieee.{span, climb, size, odd, units, round, neg, sum, add, sub, mul, div, lt, eq, le, is_nan, of_fields, of_bits, to_bits}
use Rattle.std.specs.Float.{float_is_infinite, float_with_sign}
use Rattle.geometry.specs.Segments.{tangent_end, too_short}
use Rattle.geometry.specs.Worked.{Worked, Dropped, Kept, Third, Tangent, Overflow, Hairline, NoMarker, NanLeftOut, InfinityStays}

dropped : Dropped
unfolding count_trailing_zeros span climb size odd units round neg sum add sub mul div lt eq le is_nan of_fields of_bits to_bits float_is_infinite float_with_sign tangent_end too_short
dropped = refl

kept : Kept
unfolding count_trailing_zeros span climb size odd units round neg sum add sub mul div lt eq le is_nan of_fields of_bits to_bits float_is_infinite float_with_sign tangent_end too_short
kept = refl

third-is : Third
unfolding count_trailing_zeros span climb size odd units round neg sum add sub mul div lt eq le is_nan of_fields of_bits to_bits float_is_infinite float_with_sign tangent_end too_short
third-is = refl

tangent : Tangent
unfolding count_trailing_zeros span climb size odd units round neg sum add sub mul div lt eq le is_nan of_fields of_bits to_bits float_is_infinite float_with_sign tangent_end too_short
tangent = refl

overflow : Overflow
unfolding count_trailing_zeros span climb size odd units round neg sum add sub mul div lt eq le is_nan of_fields of_bits to_bits float_is_infinite float_with_sign tangent_end too_short
overflow = refl

hairline : Hairline
unfolding count_trailing_zeros span climb size odd units round neg sum add sub mul div lt eq le is_nan of_fields of_bits to_bits float_is_infinite float_with_sign tangent_end too_short
hairline = refl

no_marker : NoMarker
unfolding count_trailing_zeros span climb size odd units round neg sum add sub mul div lt eq le is_nan of_fields of_bits to_bits float_is_infinite float_with_sign tangent_end too_short
no_marker = refl

nan_left_out : NanLeftOut
unfolding count_trailing_zeros span climb size odd units round neg sum add sub mul div lt eq le is_nan of_fields of_bits to_bits float_is_infinite float_with_sign tangent_end too_short
nan_left_out = refl

infinity_stays : InfinityStays
unfolding count_trailing_zeros span climb size odd units round neg sum add sub mul div lt eq le is_nan of_fields of_bits to_bits float_is_infinite float_with_sign tangent_end too_short
infinity_stays = refl

pub worked : Worked
worked = record { dropped = dropped; kept = kept; third-is = third-is; tangent = tangent; overflow = overflow; hairline = hairline; no_marker = no_marker; nan_left_out = nan_left_out; infinity_stays = infinity_stays }

-- Transforms and styles: when two are the same, when one is written, and the words of a style. Assumes nothing.
use Rattle.std.specs.Prelude.{◌≡◌, ℕ, ◌+◌, Bool, true, not, ◌&&◌, ◌||◌, List, [], ◌∷◌, Some, None, Option, ◌==◌, from_bits, to_bits, Float}
use Rattle.std.specs.Float.{binary32}
use Rattle.math.specs.Halves.{RoundsTo}
use Rattle.geometry.specs.Numbers.{all_finite, same_number, same_numbers}
use Rattle.values.specs.declared.error.EncodeError.{EncodeError}
use Rattle.values.specs.declared.error.EncodeError.TheVariants.{NotFinite, ZeroWidth}
use Rattle.values.specs.declared.transform.Transform.{Transform}
use Rattle.values.specs.declared.style.Fill.{Fill}
use Rattle.values.specs.declared.style.Fill.TheVariants.{NonZero, EvenOdd}
use Rattle.values.specs.declared.style.Join.{Join}
use Rattle.values.specs.declared.style.Join.TheVariants as Joined
use Rattle.values.specs.declared.style.Cap.{Cap}
use Rattle.values.specs.declared.style.Cap.TheVariants as Capped
use Rattle.values.specs.declared.style.Stroke.{Stroke}
use Rattle.values.specs.declared.style.Style.{Style}
use Rattle.values.specs.Streams.{last_of}
use Rattle.values.specs.Errors.{when, unless, or_else}

-- number by number, so that 0.0 is -0.0 and a NaN is nothing
abbrev pub same_transform : Transform → Transform → Bool
same_transform a b = same_numbers a.matrix b.matrix && same_numbers a.translation b.translation

abbrev pub finite_transform : Transform → Bool
finite_transform t = all_finite t.matrix && all_finite t.translation

abbrev pub same_style : Style → Style → Bool
same_style a b = a.flags_and_miter_limit == b.flags_and_miter_limit && same_number a.line_width b.line_width

-- it is not what was written last
abbrev pub other : {X : Type 0} → (X → X → Bool) → Option X → X → Bool
other same None x = true
other same (Some latest) x = not (same latest x)

-- whether x is written: it is forced, or it is not the same as the last of those written
abbrev pub is_new : {X : Type 0} → (X → X → Bool) → Bool → List X → X → Bool
is_new same forced xs x = forced || other same (last_of xs) x

abbrev pub no_width : Float
no_width = from_bits binary32 0

abbrev pub fill_bits : Fill → ℕ
fill_bits NonZero = 0
fill_bits EvenOdd = 0x40000000

abbrev pub fill_style : Fill → Style
fill_style fill = record { flags_and_miter_limit = fill_bits fill; line_width = no_width }

abbrev pub join_bits : Join → ℕ
join_bits Joined.Bevel = 0
join_bits Joined.Miter = 0x10000000
join_bits Joined.Round = 0x20000000

-- of a cap at one end, where a butt, a square and a round one have these bits
abbrev pub cap_bits : ℕ → ℕ → ℕ → Cap → ℕ
cap_bits butt square round Capped.Butt = butt
cap_bits butt square round Capped.Square = square
cap_bits butt square round Capped.Round = round

abbrev pub start_cap_bits : Cap → ℕ
start_cap_bits = cap_bits 0 0x04000000 0x08000000

abbrev pub end_cap_bits : Cap → ℕ
end_cap_bits = cap_bits 0 0x01000000 0x02000000

-- h is the half that the stroke's miter limit rounds to
pub record MiterHalf (stroke : Stroke) (h : ℕ) : Type 0 where
  pub rounds : RoundsTo (to_bits binary32 stroke.miter_limit) h
  pub only : (k : ℕ) → RoundsTo (to_bits binary32 stroke.miter_limit) k → k ≡ h

-- with h the half of its miter limit
abbrev pub stroke_style : Stroke → ℕ → Style
stroke_style stroke h = record {
  flags_and_miter_limit = 0x80000000 + join_bits stroke.join + start_cap_bits stroke.start_cap + end_cap_bits stroke.end_cap + h;
  line_width = stroke.width;
}

-- a number that is not finite, and then a width of zero
abbrev pub stroke_error : Stroke → Option EncodeError
stroke_error stroke = or_else (unless (all_finite (stroke.width ∷ stroke.miter_limit ∷ [])) NotFinite) (when (same_number stroke.width no_width) ZeroWidth)

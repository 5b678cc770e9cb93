use Rattle.std.proofs.Common.{T, refl, rules}
use lib.Ieee.{binary32, fits}
use Rattle.replay.specs.Lent.{held}
use Rattle.replay.proofs.replay.answer_closed.Goals as goal

pub returns-in-Reset-clause-called : goal.returns-in-Reset-clause-called
returns-in-Reset-clause-called c =
    rw c.in-Reset.is (record { so = (refl, c.reset.ensures (held c.args.streams.now)) })

pub returns-in-ForceNext-clause-called : goal.returns-in-ForceNext-clause-called
returns-in-ForceNext-clause-called c =
    rw c.in-ForceNext.is (record { so = (refl, c.force_next_transform_and_style.ensures (held c.args.streams.now)) })

pub returns-in-Transform-clause-called : goal.returns-in-Transform-clause-called
returns-in-Transform-clause-called c =
    rw c.in-Transform.is (record { so = (c.encode_transform.result, c.into.ensures, c.encode_transform.ensures (held c.args.streams.now)) })

pub returns-in-FillStyle-clause-called : goal.returns-in-FillStyle-clause-called
returns-in-FillStyle-clause-called c =
    rw c.in-FillStyle.is (record { so = (c.encode_fill_style.result, c.into-in-FillStyle.ensures, c.encode_fill_style.ensures (held c.args.streams.now)) })

pub returns-in-StrokeStyle-clause-called : goal.returns-in-StrokeStyle-clause-called
returns-in-StrokeStyle-clause-called c =
    rw c.in-StrokeStyle.is (record { so = (let e = c.encode_stroke_style.ensures in let f : T (fits binary32 c.in-StrokeStyle.stroke.width) = search rules in (e.0, (e.1, f), (c.encode_stroke_style.result, c.into-in-StrokeStyle.ensures, e.2 (held c.args.streams.now)))) })

pub returns-in-Color-clause-called : goal.returns-in-Color-clause-called
returns-in-Color-clause-called c =
    rw c.in-Color.is (record { so = (c.encode_color.result, c.into-in-Color.ensures, c.encode_color.ensures (held c.args.streams.now)) })

pub returns-in-BlurredRoundedRect-clause-called : goal.returns-in-BlurredRoundedRect-clause-called
returns-in-BlurredRoundedRect-clause-called c =
    rw c.in-BlurredRoundedRect.is (record { so = (c.encode_blurred_rounded_rect.result, c.into-in-BlurredRoundedRect.ensures, c.encode_blurred_rounded_rect.ensures (held c.args.streams.now)) })

pub returns-in-BeginClip-clause-called : goal.returns-in-BeginClip-clause-called
returns-in-BeginClip-clause-called c =
    rw c.in-BeginClip.is (record { so = (c.encode_begin_clip.result, c.into-in-BeginClip.ensures, c.encode_begin_clip.ensures (held c.args.streams.now)) })

pub returns-in-EndClip-clause-called : goal.returns-in-EndClip-clause-called
returns-in-EndClip-clause-called c =
    rw c.in-EndClip.is (record { so = (c.encode_end_clip.result, c.into-in-EndClip.ensures, c.encode_end_clip.ensures (held c.args.streams.now)) })

pub returns-in-EmptyShape-clause-called : goal.returns-in-EmptyShape-clause-called
returns-in-EmptyShape-clause-called c =
    rw c.in-EmptyShape.is (record { so = (c.encode_empty_shape.result, c.into-in-EmptyShape.ensures, c.encode_empty_shape.ensures (held c.args.streams.now)) })

pub returns-in-PathElements-clause-called : goal.returns-in-PathElements-clause-called
returns-in-PathElements-clause-called c =
    rw c.in-PathElements.is (record { so = (c.encode_path_elements.result, c.into-in-PathElements.ensures, c.encode_path_elements.ensures (held c.args.streams.now)) })

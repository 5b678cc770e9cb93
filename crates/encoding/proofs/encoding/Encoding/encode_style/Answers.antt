use Rattle.std.proofs.Common.{◌≡◌, Err, rules}
use Rattle.encoding.specs.Sheet.{with_styles}
use Rattle.encoding.proofs.Settings.{style_declined}
use Rattle.encoding.proofs.encoding.Encoding.encode_style.Goals as goal

pub returns-in_err-encode_setting : goal.returns-in_err-encode_setting
returns-in_err-encode_setting c = λ m.
    let e = c.in_err-encode_setting.field-0.0 in
    let r : c.from_residual.result ≡ Err e = search rules in
    rw r (style_declined c.args.made c.args.self.now (with_styles m c.args.path_tags.now c.args.styles.now) tt e _ c.in_err-encode_setting.ensures.set)

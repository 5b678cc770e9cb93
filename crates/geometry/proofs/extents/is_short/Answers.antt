-- A far end makes the segment long, and of a line decides; else its extent does.
use Rattle.std.proofs.Common.{◌≡◌, ◌-◌, List, length, map, Bor, sym, ap, ◌∙◌, arith, rules}
use lib.Ieee.{nan}
use Rattle.std.specs.List.{fold}
use Rattle.std.specs.Float.{float_min, float_max}
use Rattle.geometry.specs.declared.extents.Extent.{Extent}
use Rattle.geometry.specs.Tangents.{Coordinates}
use Rattle.geometry.specs.Extents.{xs_of, ys_of, smallest, greatest}
use Rattle.geometry.proofs.Extremes.{extremes}
use Rattle.geometry.proofs.Stretches.{alone, long_at, near, xs_pass, ys_pass}
use Rattle.geometry.proofs.extents.is_short.Goals as goal

pub returns-in_default : goal.returns-in_default
returns-in_default c = record { value = alone _ _ c.in_default.len_below; in_x = extremes _ _; in_y = extremes _ _ }

pub returns-then-is_far : goal.returns-then-is_far
returns-then-is_far c = record {
  value = long_at c.args.p0 c.args.ps.now (length c.args.ps.now - 1) (nan, nan) (omega (arith, c.in-len1-up.len_at_least)) (sym c.is_far.ensures ∙ c.if-is_far.true);
  in_x = extremes _ _;
  in_y = extremes _ _;
}

pub returns-then-is_empty : goal.returns-then-is_empty
returns-then-is_empty c =
    let l : length c.args.ps.now ≡ 1 = search rules in
    record {
      value = near c.args.p0 c.args.ps.now (length c.args.ps.now - 1) (nan, nan) l (omega arith) (sym c.is_far.ensures ∙ c.if-is_far.false);
      in_x = extremes _ _;
      in_y = extremes _ _;
    }

pub returns : goal.returns
returns c =
    let now : Bor Coordinates → Coordinates = λ b. b.now in
    let r = c.fold-x.ensures.runs in
    let q = c.fold-y.ensures.runs in
    let i : map now r.0.items ≡ c.args.ps.now = search (rules, (c.iter.ensures.runs r.0 r.0.seen).4 r.2, r.1) in
    let j : map now q.0.items ≡ c.args.ps.now = search (rules, (c.iter-2.ensures.runs q.0 q.0.seen).4 q.2, q.1) in
    let e : Coordinates → List Coordinates → Extent = λ p ps. record { least = smallest p.0 (xs_of ps); greatest = greatest p.0 (xs_of ps) } in
    let f : Coordinates → List Coordinates → Extent = λ p ps. record { least = smallest p.1 (ys_of ps); greatest = greatest p.1 (ys_of ps) } in
    let x : c.fold-x.result ≡ e c.args.p0 c.args.ps.now =
    r.3 (λ (t : Extent) (b : Bor Coordinates). record { least = float_min t.least b.now.0; greatest = float_max t.greatest b.now.0 }) (λ t b y f' k. search rules)
    ∙ ap (λ (s : Extent). fold (λ (t : Extent) (b : Bor Coordinates). record { least = float_min t.least b.now.0; greatest = float_max t.greatest b.now.0 }) s r.0.items) c.at.ensures
    ∙ xs_pass now _ r.0.items ∙ ap (e c.args.p0) i in
    let y : c.fold-y.result ≡ f c.args.p0 c.args.ps.now =
    q.3 (λ (t : Extent) (b : Bor Coordinates). record { least = float_min t.least b.now.1; greatest = float_max t.greatest b.now.1 }) (λ t b y f' k. search rules)
    ∙ ap (λ (s : Extent). fold (λ (t : Extent) (b : Bor Coordinates). record { least = float_min t.least b.now.1; greatest = float_max t.greatest b.now.1 }) s q.0.items) c.at-2.ensures
    ∙ ys_pass now _ q.0.items ∙ ap (f c.args.p0) j in
    record { value = search (rules, x, y); in_x = extremes _ _; in_y = extremes _ _ }

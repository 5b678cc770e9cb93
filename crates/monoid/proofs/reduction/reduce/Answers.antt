use Rattle.std.proofs.Common.{◌≤◌, length, sym, ap, ◌∙◌, subst, arith, take_all}
use Rattle.monoid.specs.Answers.{most}
use Rattle.monoid.specs.Bracketings.{Means}
use Rattle.monoid.specs.Laws.{reduced}
use Rattle.monoid.proofs.Reducing.{reduced-more, fitting_more, bracketing-means}
use Rattle.monoid.proofs.reduction.reduce.Goals as goal

pub combine_fitting-total-requires : goal.combine_fitting-total-requires
combine_fitting-total-requires g c =
    fitting_more g.met.M.Monoid.monoid g.M.Monoid.source g.M.Monoid.Fits g.met.M.Monoid.few c.args.sources.now c.loop-s.s-index
    (omega arith) c.loop-s-test.true c.s-item.is c.loop-s.invariant.1 c.new.ensures

pub loop-s-preserved : goal.loop-s-preserved
loop-s-preserved g c = (
  omega arith,
  c.combine_fitting-total.ensures
      ∙ reduced-more g.met.M.Monoid.monoid g.M.Monoid.source c.args.sources.now c.loop-s.s-index
      c.loop-s-test.true c.s-item.is c.loop-s.invariant.1 c.new.ensures,
)

pub returns-clause-bracketings : goal.returns-clause-bracketings
returns-clause-bracketings g c =
    let m = g.M.Monoid in
    let total = reduced m.empty m.op m.source in
    let all = c.loop-s.invariant.1 ∙ ap total (take_all _ _ c.loop-s-test.false) in
    let short : length c.args.sources.now ≤ most = omega arith in
    λ t e a gives.
    subst (λ x. Means m.meaning x a) (ap total e ∙ sym all)
    (bracketing-means m.meaning g.met.M.Monoid.monoid m.source m.Fits g.met.M.Monoid.few t (subst (λ ss. length ss ≤ most) (sym e) short) a gives)

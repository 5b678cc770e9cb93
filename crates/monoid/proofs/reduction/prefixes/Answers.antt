use Rattle.std.proofs.Common.{◌<◌, ◌≢◌, length, ◌∙◌, arith, get_or-set_other, get_or-set_same, below_more}
use Rattle.monoid.proofs.Reducing.{reduced-more, fitting_more}
use Rattle.monoid.proofs.reduction.prefixes.Goals as goal

pub combine_fitting-total-requires : goal.combine_fitting-total-requires
combine_fitting-total-requires g c =
    fitting_more g.met.M.Monoid.monoid g.M.Monoid.source g.M.Monoid.Fits g.met.M.Monoid.few c.args.sources.now c.loop-i.i
    (omega arith) c.loop-i-test.true c.index-sources-i.is c.loop-i.invariant.1 c.new.ensures

pub loop-i-preserved : goal.loop-i-preserved
loop-i-preserved g c = (
  omega arith,
  c.combine_fitting-total.ensures
      ∙ reduced-more g.met.M.Monoid.monoid g.M.Monoid.source c.args.sources.now c.loop-i.i
      c.loop-i-test.true c.index-sources-i.is c.loop-i.invariant.1 c.new.ensures,
  below_more _ _
      (λ k h d. let ne : k ≢ c.loop-i.i = omega arith in rw get_or-set_other (c.loop-i.invariant.2 k h d))
      (λ d. let lt : c.loop-i.i < length c.loop-i.table = omega arith in rw get_or-set_same c.loop-i.invariant.1),
  λ k h d. let ne : k ≢ c.loop-i.i = omega arith in rw get_or-set_other (c.loop-i.invariant.3 k (omega arith) d),
)

-- The end's two patterns, or none.
use Rattle.std.proofs.Common.{Some, rules}
use Rattle.geometry.specs.declared.points.Segment.TheVariants.{Quad}
use Rattle.geometry.specs.Segments.{tangent_end}
use Rattle.geometry.proofs.Tangency.{stays}
use Rattle.geometry.proofs.curves.QuadCurve.tangent_end.Goals as goal

pub returns-in_default-clause-value : goal.returns-in_default-clause-value
unfolding tangent_end
returns-in_default-clause-value c = search rules

pub returns : goal.returns
unfolding tangent_end
returns c = record {
  value = search rules;
  finite = stays (Some c.point_of.result) c.args.first (Quad c.args.self.0 c.args.self.1) (search rules);
}

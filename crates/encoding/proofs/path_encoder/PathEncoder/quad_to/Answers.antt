use Rattle.encoding.proofs.path_encoder.PathEncoder.quad_to.Goals as goal

pub returns : goal.returns
returns c = rw (c.all_finite-is_finite.ensures, c.point_of.ensures, c.point_of-2.ensures) at c.take.ensures
